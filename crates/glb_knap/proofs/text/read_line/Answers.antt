use Rattle.std.proofs.Common.{ℕ, arith}
use Rattle.glb_graph.specs.FirstLines.{BeginsWithout}
use Rattle.glb_graph.proofs.LineFacts.{none_holds, first_pair}
use Rattle.glb_knap.specs.KnapText.{IsLine}
use Rattle.glb_knap.proofs.text.read_line.Goals as goal
use Rattle.glb_knap.proofs.text.read_line.Goals.{else-weight-ge1-via-then-weight-ge1+then-weight-le-MOST_NUMBER+else-value-le-MOST_NUMBER}
use Rattle.glb_knap.proofs.text.read_line.Goals.{else-weight-ge1-via-then-weight-ge1+else-weight-le-MOST_NUMBER}
use Rattle.glb_knap.proofs.text.read_line.Goals.{else-weight-ge1-via-else-weight-ge1}

pub returns-in_err-weight-clause-none : goal.returns-in_err-weight-clause-none
returns-in_err-weight-clause-none c =
    let no_line : (a b : ℕ)
    → BeginsWithout (λ text. IsLine text a b) c.args.bytes.now =
    λ a b text texts e p.
    c.in_err-weight.ensures.none a b text texts e p.0 in
    none_holds _ _ no_line

pub returns-else-weight-ge1-clause-none : goal.returns-else-weight-ge1-clause-none
returns-else-weight-ge1-clause-none c = λ a b text texts e p.
    let s = first_pair _ _ _ _ text texts a b c.in_ok-weight.ensures.some e p.0 in
    let p1 = p.1 in let p2 = p.2 in let p3 = p.3 in let s0 = s.0 in let s1 = s.1 in
    elim c.else-weight-ge1.branch [
      | else-weight-ge1-via-then-weight-ge1+then-weight-le-MOST_NUMBER+else-value-le-MOST_NUMBER w
          ↦ let h = w.if-value-le-MOST_NUMBER.false in omega arith
      | else-weight-ge1-via-then-weight-ge1+else-weight-le-MOST_NUMBER w
          ↦ let h = w.if-weight-le-MOST_NUMBER.false in omega arith
      | else-weight-ge1-via-else-weight-ge1 w ↦ let h = w.if-weight-ge1.false in omega arith
    ]
