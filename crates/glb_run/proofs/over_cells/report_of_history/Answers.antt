use Rattle.std.proofs.Common.{◌≡◌, ◌≢◌, ◌≤◌, subst, sym}
use Rattle.glb_run.specs.ThreadedRuns.{IsCellsReport, IsThreadsReport}
use Rattle.glb_run.proofs.CellFacts.{cells_report}
use Rattle.glb_run.proofs.PlayedFacts.{ok_both}
use Rattle.glb_run.proofs.over_cells.report_of_history.Goals as goal

pub returns-clause-ok : goal.returns-clause-ok
returns-clause-ok g c =
    let q = c.args.params.now in
    let closed = c.args.closed in
    let total = c.args.value in
    let counters = c.args.counters in
    let children = g.P.Program.children in
    let value = g.P.Program.value in
    let combine = g.P.Value.Monoid.combine in
    let unit = g.P.Value.Monoid.unit in
    ok_both c.report_of.result _ _ _ c.report_of.ensures.ok
    (ok_both c.report_of.result _ _
    (λ report.
    (report ≡ record { items = closed.items; value = total; counters = counters })
    × ((closed.stop ≢ 2) × (closed.items ≤ q.limit)))
    c.report_of.ensures.told c.report_of.ensures.within (λ report same within. (same, within)))
    (λ report told both program roots k.
    subst
    (λ r. IsCellsReport (children program) (value program) combine unit q roots r.items r.value
    r.counters.items)
    (sym both.0)
    (cells_report (children program) (value program) combine unit
    (c.closed_runs_end_histories.ensures program) q roots closed.items closed.stop total
    counters.items k both.1.0 both.1.1
    (subst
    (λ r. IsThreadsReport (children program) (value program) combine unit q roots r.items r.value
    r.counters.items)
    both.0 (told program roots k.closed))))
