use Rattle.std.proofs.Common.{inr, ◌++◌, ap, subst, ◌∙◌}
use Rattle.std.proofs.lemmas.Result.{IfOk-weaker}
use Rattle.glb_graph.specs.Spots.{spot_children}
use Rattle.glb_graph.specs.declared.dist.Spot.TheVariants.{Root}
use Rattle.glb_run.specs.Reports.{trial_line}
use Rattle.glb_run.specs.Jobs.{IsDistReport}
use Rattle.glb_run.specs.inner.Stops.{StopsRun}
use Rattle.glb_run.proofs.job.trial_report.Goals as goal

pub returns-in-Err-dist_report-clause-stops : goal.returns-in-Err-dist_report-clause-stops
returns-in-Err-dist_report-clause-stops c =
    inr (subst (λ rows. StopsRun (spot_children rows) Root c.args.order.now
    c.in-Err-dist_report.fault)
    c.in_ok-graph.ensures.graph c.in-Err-dist_report.ensures.stops)

pub returns-clause-report : goal.returns-clause-report
returns-clause-report c =
    let line = trial_line c.args.k in
    let tree = c.in-Ok.bytes.items in
    let graph = c.in-Ok-dist_report.bytes.items in
    IfOk-weaker c.trial_bytes.result _ _
    (λ bytes whole. record {
      tree_text = tree;
      graph_text = graph;
      tree = c.in-Ok.ensures.report;
      graph = subst (λ rows. IsDistReport rows c.args.order.now graph)
          c.in_ok-graph.ensures.graph c.in-Ok-dist_report.ensures.report;
      whole = whole ∙ ap (λ t. line ++ t ++ c.deref-2.result.now) c.deref.ensures.value
          ∙ ap (λ t. line ++ tree ++ t) c.deref-2.ensures.value;
    })
    c.trial_bytes.ensures.bytes
