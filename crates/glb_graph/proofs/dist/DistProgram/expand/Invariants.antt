use Rattle.std.proofs.Common.{◌≡◌, ◌++◌}
use Rattle.glb_graph.specs.Spots.{spots}
use Rattle.glb_graph.proofs.dist.DistProgram.expand.Given as goal

abbrev pub invariant-loop-vertex : goal.invariant-loop-vertex
invariant-loop-vertex l = l.out.items ≡ l.fn.out.items ++ spots l.vertex
