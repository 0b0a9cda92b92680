use Rattle.std.proofs.Common.{IfOk, IfErr, sym, subst}
use Rattle.glb_run.specs.inner.Tasks.{IsTaskReport, StopsTask}
use Rattle.glb_run.proofs.job.report_calm.Goals as goal

pub returns-in-Uts-clause-report : goal.returns-in-Uts-clause-report
returns-in-Uts-clause-report c =
    subst (λ t. IfOk c.uts_report.result (λ bytes. IsTaskReport t c.args.order.now bytes.items))
    (sym c.in-Uts.is) c.uts_report.ensures.report

pub returns-in-Uts-clause-stops : goal.returns-in-Uts-clause-stops
returns-in-Uts-clause-stops c =
    subst (λ t. IfErr c.uts_report.result (StopsTask t c.args.order.now)) (sym c.in-Uts.is)
    c.uts_report.ensures.stops
