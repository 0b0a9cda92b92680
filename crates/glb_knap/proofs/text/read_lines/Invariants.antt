use Rattle.glb_graph.specs.GraphText.{lines_of}
use Rattle.glb_knap.proofs.Readings.{IsSoFar}
use Rattle.glb_knap.proofs.text.read_lines.Given as goal

abbrev pub invariant-loop-number : goal.invariant-loop-number
invariant-loop-number l =
    IsSoFar (lines_of l.bytes) l.capacity l.count l.number l.lines.items (lines_of l.rest)
