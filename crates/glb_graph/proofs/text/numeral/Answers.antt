use Rattle.std.proofs.Common.{◌+◌, ◌*◌, arith, subst, sym, refl}
use Rattle.glb_graph.proofs.LineFacts.{IsPart, part_none, part_small, part_more}
use Rattle.glb_graph.proofs.text.numeral.Goals as goal

pub loop-count-init : goal.loop-count-init
loop-count-init c = part_none _

pub overflow_mul-number : goal.overflow_mul-number
overflow_mul-number c = let few = c.loop-count.invariant.few
    in omega (arith, part_small _ _ _ c.loop-count.invariant (omega arith))

pub overflow_add-number : goal.overflow_add-number
overflow_add-number c = let few = c.loop-count.invariant.few in let bound =
    c.is_ascii_digit.ensures.bound
    in omega (
      arith,
      part_small _ _ _ c.loop-count.invariant (omega arith),
      c.from.ensures,
      c.from.type_inv,
    )

pub loop-count-preserved : goal.loop-count-preserved
loop-count-preserved c =
    let few = c.loop-count.invariant.few in
    let digit = c.if-is_ascii_digit.ensures.cases in
    subst (λ d. IsPart c.args.bytes.now (c.loop-count.number * 10 + d) (c.loop-count.count + 1))
    (sym c.from.ensures)
    (part_more _ _ _ _ c.loop-count.invariant (omega arith) (omega arith) refl (omega arith)
    (omega arith))
