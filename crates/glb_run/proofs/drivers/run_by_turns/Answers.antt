use Rattle.std.proofs.Common.{◌+◌, ◌%◌, ◌^◌, ◌∙◌, [], length, map, get_or, ap, sym}
use Rattle.glb_run.specs.Roots.{roots_of}
use Rattle.glb_run.proofs.RootFacts.{numbers_listed}
use Rattle.glb_run.proofs.TurnsFacts.{turns_answer, stops_turns}
use Rattle.glb_run.proofs.drivers.run_by_turns.Goals as goal

pub returns-in-Ok-clause-run : goal.returns-in-Ok-clause-run
returns-in-Ok-clause-run g c =
    turns_answer (g.P.Program.children c.args.program.now)
    (g.P.Program.value c.args.program.now) g.P.Value.Monoid.combine g.P.Value.Monoid.unit
    c.args.root c.args.order.now (λ p. get_or (map (λ v. v.items) c.in_ok-lists.lists.items) p [])
    c.in_ok-lists.ensures.lists (λ k. (c.new-rounds.result.next + k) % 2 ^ 32)
    c.new-rounds.ensures c.in-Ok.report.items c.in-Ok.report.value c.in-Ok.report.counters.items
    c.in-Ok.ensures.ok c.in_ok-roots.roots.items
    (c.in_ok-roots.ensures.numbers ∙ ap (map (λ v. length v.items)) c.deref.ensures.value
    ∙ numbers_listed (λ v. v.items) c.in_ok-lists.lists.items c.args.order.now.params.places
    (roots_of (g.P.Program.children c.args.program.now) c.args.order.now c.args.root)
    (sym c.in_ok-lists.lists.ok.0 ∙ c.in_ok-lists.ensures.many) c.in_ok-lists.ensures.lists)
    c.requires.driver c.requires.order.params.places.1

pub returns-in-Err-clause-stops : goal.returns-in-Err-clause-stops
returns-in-Err-clause-stops g c =
    stops_turns (g.P.Program.children c.args.program.now) (g.P.Program.value c.args.program.now)
    g.P.Value.Monoid.combine g.P.Value.Monoid.unit c.args.root c.args.order.now
    (λ p. get_or (map (λ v. v.items) c.in_ok-lists.lists.items) p []) c.in_ok-lists.ensures.lists
    c.requires.driver c.in-Err.fault c.in-Err.ensures.fault c.in-Err.ensures.last_batch
