use Rattle.glb_lanes.proofs.DigestOfOneBlock.{below_eight}
use Rattle.glb_lanes.proofs.eight.known.Goals as goal

pub returns : goal.returns
returns c =
    below_eight _ c.twenty.ensures c.twenty-2.ensures c.twenty-3.ensures c.twenty-4.ensures
    c.twenty-5.ensures c.twenty-6.ensures c.twenty-7.ensures c.twenty-8.ensures
