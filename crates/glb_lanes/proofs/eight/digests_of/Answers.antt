use Rattle.glb_lanes.proofs.DigestOfOneBlock.{below_eight}
use Rattle.glb_lanes.proofs.eight.digests_of.Goals as goal

pub returns : goal.returns
returns c =
    below_eight _ c.digest-d0.ensures
    c.digest-d1.ensures
    c.digest-d2.ensures
    c.digest-d3.ensures
    c.digest-d4.ensures
    c.digest-d5.ensures
    c.digest-d6.ensures
    c.digest-d7.ensures
