use Rattle.glb_lanes.proofs.DigestOfOneBlock.{below_four}
use Rattle.glb_lanes.proofs.four.known.Goals as goal

pub returns : goal.returns
returns c =
    below_four _ c.twenty.ensures c.twenty-2.ensures c.twenty-3.ensures c.twenty-4.ensures
