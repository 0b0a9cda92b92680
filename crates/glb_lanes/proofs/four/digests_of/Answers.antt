use Rattle.glb_lanes.proofs.DigestOfOneBlock.{below_four}
use Rattle.glb_lanes.proofs.four.digests_of.Goals as goal

pub returns : goal.returns
returns c =
    below_four _ c.digest-d0.ensures
    c.digest-d1.ensures
    c.digest-d2.ensures
    c.digest-d3.ensures
