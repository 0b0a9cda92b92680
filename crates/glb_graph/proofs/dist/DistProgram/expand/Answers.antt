use Rattle.std.proofs.Common.{◌∙◌}
use Rattle.glb_graph.proofs.ValueFacts.{spots_none, spots_more}
use Rattle.glb_graph.proofs.dist.DistProgram.expand.Goals as goal

pub loop-vertex-init : goal.loop-vertex-init
loop-vertex-init c = c.in_ok-reserve-in-Root.ensures.items ∙ spots_none _

pub loop-vertex-preserved : goal.loop-vertex-preserved
loop-vertex-preserved c = spots_more _ _ _ _ c.loop-vertex.invariant c.in-Ok.ensures.items
