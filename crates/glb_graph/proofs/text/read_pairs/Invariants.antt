use Rattle.glb_graph.specs.GraphText.{lines_of}
use Rattle.glb_graph.proofs.ReadFacts.{IsSoFar}
use Rattle.glb_graph.proofs.text.read_pairs.Given as goal

abbrev pub invariant-loop-number : goal.invariant-loop-number
invariant-loop-number l =
    IsSoFar (lines_of l.bytes) l.vertices l.edges l.number l.pairs.items (lines_of l.rest)
