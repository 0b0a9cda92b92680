use Rattle.std.proofs.Common.{length, ◌-◌}
use Rattle.glb_graph.proofs.LineFacts.{IsPart}
use Rattle.glb_graph.proofs.text.numeral.Given as goal

abbrev pub invariant-loop-count : goal.invariant-loop-count
invariant-loop-count l = IsPart l.bytes l.number l.count

abbrev pub decreases-loop-count : goal.decreases-loop-count
decreases-loop-count l = length l.bytes - l.count
