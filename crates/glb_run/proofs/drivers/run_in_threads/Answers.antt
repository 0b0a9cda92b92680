use Rattle.std.proofs.Common.{◌∙◌, [], length, map, get_or, ap, sym}
use Rattle.glb_run.specs.Roots.{roots_of}
use Rattle.glb_run.proofs.RootFacts.{numbers_listed}
use Rattle.glb_run.proofs.ThreadsFacts.{threads_answer, stops_fault}
use Rattle.glb_run.proofs.drivers.run_in_threads.Goals as goal

pub returns-in-Ok-clause-run : goal.returns-in-Ok-clause-run
returns-in-Ok-clause-run g c =
    threads_answer (g.P.Program.children c.args.program.now)
    (g.P.Program.value c.args.program.now) g.P.Value.Monoid.combine g.P.Value.Monoid.unit
    c.args.root c.args.order.now (λ p. get_or (map (λ v. v.items) c.in_ok-lists.lists.items) p [])
    c.in_ok-lists.ensures.lists c.requires.driver c.in-Ok.played.items c.in-Ok.played.value
    c.in-Ok.played.counters.items c.in_ok-roots.roots.items c.in-Ok.ensures.ok
    (c.in_ok-roots.ensures.numbers ∙ ap (map (λ v. length v.items)) c.deref.ensures.value
    ∙ numbers_listed (λ v. v.items) c.in_ok-lists.lists.items c.args.order.now.params.places
    (roots_of (g.P.Program.children c.args.program.now) c.args.order.now c.args.root)
    (sym c.in_ok-lists.lists.ok.0 ∙ c.in_ok-lists.ensures.many) c.in_ok-lists.ensures.lists)
    c.requires.order.params.places.1

pub returns-in-Err-clause-stops : goal.returns-in-Err-clause-stops
returns-in-Err-clause-stops g c =
    stops_fault (g.P.Program.children c.args.program.now)
    (g.P.Program.value c.args.program.now) g.P.Value.Monoid.combine g.P.Value.Monoid.unit
    c.args.root c.args.order.now
    (λ p. get_or (map (λ v. v.items) c.in_ok-lists.lists.items) p []) c.in_ok-lists.ensures.lists
    c.requires.driver c.in-Err.fault c.in-Err.ensures.fault
