use Rattle.std.proofs.Common.{arith}
use Rattle.glb_laws.proofs.Expansions.{batch_append}
use Rattle.glb_tree.proofs.Folds.{outcome_at_end, too_many}
use Rattle.glb_tree.proofs.run.run_one.Goals as goal

pub returns-in-Ok-eq0-clause-ok : goal.returns-in-Ok-eq0-clause-ok
returns-in-Ok-eq0-clause-ok g c =
    let laws = g.met.P.Value.Monoid.monoid_laws in
    let proper = g.met.P.Program.value_proper c.args.program.now in
    let so_far = c.loop-value.invariant.so_far in
    let last = c.in-Ok-eq0.ensures in
    outcome_at_end _ _ laws proper _ _ _ _ _ _ _ _ so_far last.done c.in-Ok-eq0.field-0-test
    (λ zero. last.short (omega (arith, zero, c.requires.batch.0))) c.loop-value.invariant.within

pub returns-then-items-limit-clause-fault : goal.returns-then-items-limit-clause-fault
returns-then-items-limit-clause-fault g c =
    let so_far = c.loop-value.invariant.so_far in
    let all = batch_append _ _ _ _ _ _ _ _ _ _ _ so_far c.in-Ok-process.ensures.done in
    too_many _ _ _ _ _ _ _ _ _ all (omega arith)

pub loop-value-preserved : goal.loop-value-preserved
loop-value-preserved g c = record {
  within = omega arith;
  fits = c.process.ensures.fits.kept c.args.program.now c.loop-value.invariant.fits;
  so_far = batch_append _ _ _ _ _ _ _ _ _ _ _ c.loop-value.invariant.so_far
      c.in-Ok-process.ensures.done;
}
