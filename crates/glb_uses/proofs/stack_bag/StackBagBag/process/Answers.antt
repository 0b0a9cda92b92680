use Rattle.std.proofs.Common.{arith}
use Rattle.glb_laws.proofs.Expansions.{batch_append, batch_empty}
use Rattle.glb_uses.proofs.Tops.{taken_top, none_taken}
use Rattle.glb_uses.proofs.stack_bag.StackBagBag.process.Goals as goal

pub returns-in-Ok-false-clause-none : goal.returns-in-Ok-false-clause-none
returns-in-Ok-false-clause-none g c =
    let top = rw c.in-Ok-false.field-0-test at c.in-Ok-false.ensures.top in
    none_taken _ _ _ _ _ _ _ _ c.loop-done.invariant top.0

pub loop-done-preserved : goal.loop-done-preserved
loop-done-preserved g c =
    let top = rw c.in-Ok-true.field-0-test at c.in-Ok-true.ensures.top in
    batch_append _ _ _ _ _ _ _ _ _ _ _ c.loop-done.invariant (taken_top _ _ _ _ _ _ _ top)

pub returns-clause-none : goal.returns-clause-none
returns-clause-none g c = (
  λ zero. absurd (omega (arith, zero, c.requires.some)),
  λ empty. omega
      (arith, batch_empty _ _ _ _ _ _ _ _ c.loop-done.invariant empty, c.loop-done-test.false),
)
