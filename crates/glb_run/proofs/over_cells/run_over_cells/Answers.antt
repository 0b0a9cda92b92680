use Rattle.std.proofs.Common.{ℕ, List, [], ap, get_or, map}
use Rattle.std.proofs.lemmas.Result.{IfErr-weaker, IfOk-weaker}
use Rattle.glb_rules.specs.Joins.{join_to}
use Rattle.glb_tree.specs.Runs.{HasCause}
use Rattle.glb_run.specs.ThreadedRuns.{IsCellsReport}
use Rattle.glb_run.specs.inner.CellRuns.{IsClosedHistory}
use Rattle.glb_run.proofs.CellFacts.{cells_close, first_berths}
use Rattle.glb_run.proofs.GraphFacts.{graph_of}
use Rattle.glb_run.proofs.over_cells.run_over_cells.Goals as goal

pub play_over-requires-clause-first : goal.play_over-requires-clause-first
play_over-requires-clause-first g c κs within =
    let made = c.in-Ok-new in
    first_berths made.cells c.args.program.now c.args.params.now c.in-Ok.lines
    (map g.B.Bag.items c.deref.result.now) (map g.B.Bag.items c.in-Ok-bags_of.bags.items)
    made.berths.items (ap (map g.B.Bag.items) c.deref.ensures.value) made.ensures.made
    made.ensures.many made.ensures.berths

pub returns-clause-ok : goal.returns-clause-ok
returns-clause-ok g c =
    let made = c.in-Ok-new in
    let played = c.in-Ok-play_over.played in
    let end = c.close-closed.result in
    let program = c.args.program.now in
    let children = g.P.Program.children in
    let value = g.P.Program.value program in
    let combine = g.P.Value.Monoid.combine in
    let unit = g.P.Value.Monoid.unit in
    let q = c.args.params.now in
    let bags = map g.B.Bag.items c.in-Ok-bags_of.bags.items in
    let roots = λ (p : ℕ). get_or (map (λ v. v.items) c.args.roots.items) p [] in
    IfOk-weaker c.report_of_history.result
    (λ report. (x : g.row.P.Denot) (lists : ℕ → List g.row.P-Item.Denot)
    → IsClosedHistory (children x) (g.P.Program.value x) combine unit q lists end.items end.stop
    played.value played.counters.items
    → IsCellsReport (children x) (g.P.Program.value x) combine unit q lists report.items
    report.value report.counters.items)
    (λ report. IsCellsReport (children program) value combine unit q roots report.items
    report.value report.counters.items)
    (λ report told. told program roots
    (cells_close made.cells program q c.in-Ok.lines bags made.berths.items
    (first_berths made.cells program q c.in-Ok.lines (map g.B.Bag.items c.deref.result.now) bags
    made.berths.items (ap (map g.B.Bag.items) c.deref.ensures.value) made.ensures.made
    made.ensures.many made.ensures.berths)
    children value combine unit roots played.fabrics.items end.live end.items end.stop played.value
    played.counters.items
    (graph_of c.in-Ok.lines q c.requires.limits c.in-Ok.ensures.places c.in-Ok.ensures.base
    c.in-Ok.ensures.dimension)
    c.in-Ok-bags_of.ensures.items c.in-Ok-play_over.ensures.berths c.close-closed.ensures.last
    c.close-closed.ensures.closes c.in-Ok-play_over.ensures.left))
    c.report_of_history.ensures.ok

pub returns-clause-fault : goal.returns-clause-fault
returns-clause-fault g c =
    let made = c.in-Ok-new in
    let played = c.in-Ok-play_over.played in
    let end = c.close-closed.result in
    let program = c.args.program.now in
    let children = g.P.Program.children in
    let value = g.P.Program.value program in
    let combine = g.P.Value.Monoid.combine in
    let unit = g.P.Value.Monoid.unit in
    let q = c.args.params.now in
    let bags = map g.B.Bag.items c.in-Ok-bags_of.bags.items in
    let roots = λ (p : ℕ). get_or (map (λ v. v.items) c.args.roots.items) p [] in
    IfErr-weaker c.report_of_history.result
    (λ fault. (x : g.row.P.Denot) (lists : ℕ → List g.row.P-Item.Denot)
    → IsClosedHistory (children x) (g.P.Program.value x) combine unit q lists end.items end.stop
    played.value played.counters.items
    → HasCause (children x) (join_to q.places lists) q.limit fault)
    (λ fault. HasCause (children program) (join_to q.places roots) q.limit fault)
    (λ fault told. told program roots
    (cells_close made.cells program q c.in-Ok.lines bags made.berths.items
    (first_berths made.cells program q c.in-Ok.lines (map g.B.Bag.items c.deref.result.now) bags
    made.berths.items (ap (map g.B.Bag.items) c.deref.ensures.value) made.ensures.made
    made.ensures.many made.ensures.berths)
    children value combine unit roots played.fabrics.items end.live end.items end.stop played.value
    played.counters.items
    (graph_of c.in-Ok.lines q c.requires.limits c.in-Ok.ensures.places c.in-Ok.ensures.base
    c.in-Ok.ensures.dimension)
    c.in-Ok-bags_of.ensures.items c.in-Ok-play_over.ensures.berths c.close-closed.ensures.last
    c.close-closed.ensures.closes c.in-Ok-play_over.ensures.left))
    c.report_of_history.ensures.fault
