use Rattle.std.proofs.Common.{◌∙◌, ℕ, List, [], ap, get_or, map}
use Rattle.std.proofs.lemmas.Result.{IfErr-weaker, IfOk-weaker}
use Rattle.glb_rules.specs.Joins.{join_to}
use Rattle.glb_tree.specs.Runs.{HasCause}
use Rattle.glb_run.specs.ThreadedRuns.{IsThreadsReport}
use Rattle.glb_run.specs.inner.Plays.{IsClosed}
use Rattle.glb_run.proofs.GraphFacts.{graph_of}
use Rattle.glb_run.proofs.InboxFacts.{desks_again, desks_first, desks_programs}
use Rattle.glb_run.proofs.InboxFacts.{inboxes_close}
use Rattle.glb_run.proofs.over_inboxes.run_over_inboxes.Goals as goal

pub play_all-requires-clause-first : goal.play_all-requires-clause-first
play_all-requires-clause-first g c κs within =
    let made = c.in-Ok-new in
    desks_first made.post made.desks.items made.ensures.desks c.args.program.now c.args.params.now
    c.in-Ok.lines (map g.B.Bag.items c.in-Ok-bags_of.bags.items) made.ensures.program
    made.ensures.params made.ensures.lines
    (made.ensures.bags ∙ ap (map g.B.Bag.items) c.deref.ensures.value)

pub play_all-requires-clause-programs : goal.play_all-requires-clause-programs
play_all-requires-clause-programs g c κs within =
    let made = c.in-Ok-new in
    desks_programs made.post made.desks.items made.ensures.desks c.args.program.now
    c.args.params.now c.in-Ok.lines (map g.B.Bag.items c.in-Ok-bags_of.bags.items)
    made.ensures.program made.ensures.params made.ensures.lines
    (made.ensures.bags ∙ ap (map g.B.Bag.items) c.deref.ensures.value)

pub close-items-requires : goal.close-items-requires
close-items-requires g c =
    let made = c.in-Ok-new in
    record {
      desks = desks_again made.post made.desks.items made.ensures.desks c.args.program.now
          c.args.params.now c.in-Ok.lines (map g.B.Bag.items c.in-Ok-bags_of.bags.items)
          made.ensures.program made.ensures.params made.ensures.lines
          (made.ensures.bags ∙ ap (map g.B.Bag.items) c.deref.ensures.value)
          _ c.in-Ok-play_all.played.fabrics.items c.in-Ok-play_all.ensures.same;
    }

pub returns-clause-ok : goal.returns-clause-ok
returns-clause-ok g c =
    let made = c.in-Ok-new in
    let played = c.in-Ok-play_all.played in
    let program = c.args.program.now in
    let children = g.P.Program.children in
    let value = g.P.Program.value program in
    let combine = g.P.Value.Monoid.combine in
    let unit = g.P.Value.Monoid.unit in
    let q = c.args.params.now in
    let roots = λ (p : ℕ). get_or (map (λ v. v.items) c.args.roots.items) p [] in
    IfOk-weaker c.report_of.result
    (λ report. (x : g.row.P.Denot) (lists : ℕ → List g.row.P-Item.Denot)
    → IsClosed (children x) (g.P.Program.value x) combine unit q lists c.close-items.result.items
    c.close-items.result.stop played.value played.counters.items
    → IsThreadsReport (children x) (g.P.Program.value x) combine unit q lists report.items
    report.value report.counters.items)
    (λ report. IsThreadsReport (children program) value combine unit q roots report.items
    report.value report.counters.items)
    (λ report told. told program roots
    (inboxes_close made.post made.desks.items made.ensures.desks program q c.in-Ok.lines
    (map g.B.Bag.items c.in-Ok-bags_of.bags.items) made.ensures.program made.ensures.params
    made.ensures.lines (made.ensures.bags ∙ ap (map g.B.Bag.items) c.deref.ensures.value)
    children value combine unit roots _ c.close-items.result.live c.close-items.result.items
    c.close-items.result.stop played.value played.counters.items
    (graph_of c.in-Ok.lines q c.requires.limits c.in-Ok.ensures.places c.in-Ok.ensures.base
    c.in-Ok.ensures.dimension)
    c.in-Ok-bags_of.ensures.items c.close-items.ensures.closes c.close-items.ensures.records
    c.in-Ok-play_all.ensures.left))
    c.report_of.ensures.ok

pub returns-clause-fault : goal.returns-clause-fault
returns-clause-fault g c =
    let made = c.in-Ok-new in
    let played = c.in-Ok-play_all.played in
    let program = c.args.program.now in
    let children = g.P.Program.children in
    let value = g.P.Program.value program in
    let combine = g.P.Value.Monoid.combine in
    let unit = g.P.Value.Monoid.unit in
    let q = c.args.params.now in
    let roots = λ (p : ℕ). get_or (map (λ v. v.items) c.args.roots.items) p [] in
    IfErr-weaker c.report_of.result
    (λ fault. (x : g.row.P.Denot) (lists : ℕ → List g.row.P-Item.Denot)
    → IsClosed (children x) (g.P.Program.value x) combine unit q lists c.close-items.result.items
    c.close-items.result.stop played.value played.counters.items
    → HasCause (children x) (join_to q.places lists) q.limit fault)
    (λ fault. HasCause (children program) (join_to q.places roots) q.limit fault)
    (λ fault told. told program roots
    (inboxes_close made.post made.desks.items made.ensures.desks program q c.in-Ok.lines
    (map g.B.Bag.items c.in-Ok-bags_of.bags.items) made.ensures.program made.ensures.params
    made.ensures.lines (made.ensures.bags ∙ ap (map g.B.Bag.items) c.deref.ensures.value)
    children value combine unit roots _ c.close-items.result.live c.close-items.result.items
    c.close-items.result.stop played.value played.counters.items
    (graph_of c.in-Ok.lines q c.requires.limits c.in-Ok.ensures.places c.in-Ok.ensures.base
    c.in-Ok.ensures.dimension)
    c.in-Ok-bags_of.ensures.items c.close-items.ensures.closes c.close-items.ensures.records
    c.in-Ok-play_all.ensures.left))
    c.report_of.ensures.fault
