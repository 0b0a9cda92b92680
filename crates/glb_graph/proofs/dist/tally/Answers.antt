use Rattle.std.proofs.Common.{◌≡◌, ◌+◌, ◌≤◌, max, Bool, true, false, not, cond, nat_eq, refl, ap, ◌∙◌, arith, eq-eqb, add-zero}
use Rattle.std.proofs.lemmas.Bool.{ne_eqb}
use Rattle.glb_graph.proofs.ValueFacts.{tally_took, tally_skipped, not_mark}
use Rattle.glb_graph.proofs.dist.tally.Goals as goal
use Rattle.glb_graph.proofs.dist.tally.Goals.{then-is_reached, else-is_reached}
use mir.Val.{bool_byte}

byte_of-not : (b : Bool) → bool_byte (not b) ≡ cond b 0 1
byte_of-not true = refl
byte_of-not false = refl

one_at_most : (b : Bool) → cond b 0 1 ≤ 1
one_at_most true = omega arith
one_at_most false = omega arith

pub loop-vertex-preserved : goal.loop-vertex-preserved
loop-vertex-preserved c =
    let vertex = c.loop-vertex.vertex in
    let start = c.args.start in
    elim c.if-is_reached.branch [
      | then-is_reached w ↦
          let small = not_mark _ (c.requires.small vertex (omega arith)) w.if-is_reached.true in
          let more : c.from-reached.result ≡ cond (nat_eq vertex start) 0 1 =
          c.from-reached.ensures ∙ rw (ne_eqb _ _ w.if-is_reached.true)
          (byte_of-not (nat_eq vertex start)) in
          tally_took _ _ _ _ _ _ _ (cond (nat_eq vertex start) 0 1) _ _ _ c.loop-vertex.invariant
          refl
          w.if-is_reached.true small refl (one_at_most (nat_eq vertex start))
          (ap (λ n. c.loop-vertex.reached + n) more)
          (ap (λ n. c.loop-vertex.sum + n) (c.from-sum.ensures ∙ w.steps-is))
          (c.max-greatest.ensures ∙ ap (max c.loop-vertex.greatest) w.steps-is)
      | else-is_reached w ↦
          let none : c.from-reached.result ≡ 0 =
          c.from-reached.ensures ∙ rw (eq-eqb _ _ w.if-is_reached.false) refl in
          tally_skipped _ _ _ _ _ _ _ _ _ c.loop-vertex.invariant w.if-is_reached.false
          (ap (λ n. c.loop-vertex.reached + n) none ∙ add-zero _)
          (ap (λ n. c.loop-vertex.sum + n) (c.from-sum.ensures ∙ w.steps-is) ∙ add-zero _)
          (omega (arith, c.max-greatest.ensures, w.steps-is))
    ]
