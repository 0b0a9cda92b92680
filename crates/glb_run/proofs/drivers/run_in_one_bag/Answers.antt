use Rattle.std.proofs.Common.{◌∙◌, ◌∷◌, [], ap, not}
use Rattle.std.specs.Prelude.{nat_lt}
use Rattle.glb_run.proofs.RootFacts.{not_zero}
use Rattle.glb_run.proofs.TurnsFacts.{one_answer, stops_one}
use Rattle.glb_run.proofs.drivers.run_in_one_bag.Goals as goal

pub returns-in-Err-clause-stops : goal.returns-in-Err-clause-stops
returns-in-Err-clause-stops g c =
    stops_one (g.P.Program.children c.args.program.now) (g.P.Program.value c.args.program.now)
    g.P.Value.Monoid.combine g.P.Value.Monoid.unit c.args.root c.args.order.now
    c.in_ok-roots.roots.items c.in_ok-roots.ensures.all c.requires.driver c.in-Err.fault
    c.in-Err.ensures.fault c.in-Err.ensures.last_batch

pub returns-clause-run : goal.returns-clause-run
returns-clause-run g c =
    one_answer (g.P.Program.children c.args.program.now) (g.P.Program.value c.args.program.now)
    g.P.Value.Monoid.combine g.P.Value.Monoid.unit c.args.root c.args.order.now
    c.in_ok-roots.roots.items c.in-Ok.outcome.items c.in-Ok.outcome.value
    c.in_ok-counters.counters.items c.in_ok-numbers.numbers.items (not c.is_empty-awake.result)
    c.in_ok-roots.ensures.all c.requires.driver c.in-Ok.ensures.ok
    (ap not c.is_empty-awake.ensures ∙ not_zero _ ∙ ap (nat_lt 0) c.in_ok-roots.roots.ok.0)
    (c.in_ok-counters.ensures.list ∙ ap (λ k. k ∷ []) c.lone_counters.ensures)
    (c.in_ok-numbers.ensures.list ∙ ap (λ n. n ∷ []) (c.len.ensures ∙ c.in_ok-roots.roots.ok.0))
