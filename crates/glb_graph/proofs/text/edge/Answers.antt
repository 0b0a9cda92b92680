use Rattle.std.proofs.Common.{ℕ, arith}
use Rattle.glb_graph.specs.GraphText.{IsEdge}
use Rattle.glb_graph.specs.FirstLines.{BeginsWithout}
use Rattle.glb_graph.proofs.LineFacts.{none_holds, first_pair}
use Rattle.glb_graph.proofs.text.edge.Goals as goal
use Rattle.glb_graph.proofs.text.edge.Goals.{else-from-vertices-via-then-from-vertices+else-to-vertices}
use Rattle.glb_graph.proofs.text.edge.Goals.{else-from-vertices-via-else-from-vertices}

pub returns-in_err-from-clause-none : goal.returns-in_err-from-clause-none
returns-in_err-from-clause-none c =
    let no_edge : (a b : ℕ)
    → BeginsWithout (λ line. IsEdge c.args.vertices line a b) c.args.bytes.now =
    λ a b line lines e p.
    c.in_err-from.ensures.none a b line lines e p.0 in
    none_holds _ _ no_edge

pub returns-else-from-vertices-clause-none : goal.returns-else-from-vertices-clause-none
returns-else-from-vertices-clause-none c = λ a b line lines e p.
    let s = first_pair _ _ _ _ line lines a b c.in_ok-from.ensures.some e p.0 in
    let p1 = p.1 in let p2 = p.2 in let s0 = s.0 in let s1 = s.1 in
    elim c.else-from-vertices.branch [
      | else-from-vertices-via-then-from-vertices+else-to-vertices w ↦ let h =
          w.if-to-vertices.false
          in omega arith
      | else-from-vertices-via-else-from-vertices w ↦ let h =
          w.if-from-vertices.false in omega arith
    ]
