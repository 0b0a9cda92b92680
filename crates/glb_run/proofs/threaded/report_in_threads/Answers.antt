use Rattle.std.proofs.Common.{IfOk, IfErr, sym, subst}
use Rattle.glb_run.specs.inner.Tasks.{IsTaskReport, StopsTask}
use Rattle.glb_run.proofs.threaded.report_in_threads.Goals as goal

pub returns-in-Uts-clause-report : goal.returns-in-Uts-clause-report
returns-in-Uts-clause-report g c =
    subst (λ t. IfOk c.uts_in_threads.result (λ bytes. IsTaskReport t c.args.order.now bytes.items))
    (sym c.in-Uts.is) c.uts_in_threads.ensures.report

pub returns-in-Uts-clause-stops : goal.returns-in-Uts-clause-stops
returns-in-Uts-clause-stops g c =
    subst (λ t. IfErr c.uts_in_threads.result (StopsTask t c.args.order.now)) (sym c.in-Uts.is)
    c.uts_in_threads.ensures.stops
