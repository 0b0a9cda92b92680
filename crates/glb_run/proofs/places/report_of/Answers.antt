use Rattle.std.proofs.Common.{sym, subst}
use Rattle.glb_core.specs.Counters.{all_awake, all_degrees}
use Rattle.glb_core.specs.Lifelines.{setup_for}
use Rattle.glb_rules.specs.Joins.{join_to}
use Rattle.glb_run.specs.ThreadedRuns.{IsThreadsReport}
use Rattle.glb_run.proofs.CloseFacts.{close_reports, close_too_many, closes_roots}
use Rattle.glb_run.proofs.places.report_of.Goals as goal

pub returns-then-items-params-clause-fault : goal.returns-then-items-params-clause-fault
returns-then-items-params-clause-fault g c = λ program roots k.
    let children = g.P.Program.children program in
    let q = c.args.params.now in
    let s = setup_for k.cube q roots in
    let closes =
    closes_roots children q c.requires k.cube k.graph roots k.bags k.same k.records k.live
    c.args.items c.args.stop k.closes
    in
    close_too_many children q c.requires k.cube k.graph roots k.bags k.same k.records k.live
    c.args.items c.args.stop k.closes c.if-items-params.true
    (c.closed_runs_have_an_outcome.ensures.too_many program (all_degrees s) (all_awake s) q.limit
    (join_to q.places roots) k.records k.live c.args.items c.args.stop closes
    c.if-items-params.true)

pub returns-clause-ok : goal.returns-clause-ok
returns-clause-ok g c = λ program roots k.
    let children = g.P.Program.children program in
    let value = g.P.Program.value program in
    let q = c.args.params.now in
    let s = setup_for k.cube q roots in
    let closes =
    closes_roots children q c.requires k.cube k.graph roots k.bags k.same k.records k.live
    c.args.items c.args.stop k.closes
    in
    let ends =
    c.closed_runs_have_an_outcome.ensures.outcome program (all_degrees s) (all_awake s) q.limit
    (join_to q.places roots) k.records k.live c.args.items c.args.stop c.args.value closes
    k.left.left c.if-stop-eq2.false c.if-items-params.false k.left.total_is
    in
    subst
    (IsThreadsReport children value g.P.Value.Monoid.combine g.P.Value.Monoid.unit q roots
    c.args.items c.args.value)
    (sym k.left.counters_are)
    (close_reports children q c.requires k.cube k.graph roots k.bags k.same k.records k.live
    c.args.items c.args.stop k.closes k.numbered c.if-items-params.false ends.1 value
    g.P.Value.Monoid.combine g.P.Value.Monoid.unit c.args.value ends.0)
