use Rattle.std.proofs.Common.{◌∙◌, ◌≤◌, ◌^◌, [], map, get_or, subst, ap, arith, sym}
use Rattle.glb_rules.specs.declared.params.Params.{Params}
use Rattle.glb_tree.specs.Runs.{PassesByAtMost}
use Rattle.glb_turns.specs.inner.Watches.{HasWatches}
use Rattle.glb_turns.proofs.WatchFacts.{watches_start}
use Rattle.glb_turns.proofs.ReportFacts.{starts_begin, begins_none, cause_moved, report_of}
use Rattle.glb_core.proofs.CallerLemmas.{joined_same}
use Rattle.glb_turns.proofs.driver.run_turns.Goals as goal

pub play-requires-clause-watches : goal.play-requires-clause-watches
play-requires-clause-watches g c =
    subst (λ ws. HasWatches g.B.Bag.items c.in-Ok-new.world ws) (sym c.deref_mut.ensures.value)
    (watches_start g.B.Bag.items c.in-Ok-new.world _ c.in-Ok-watches_of.watches.items c.lines.ensures
    c.in-Ok-watches_of.ensures.stale)

pub play-requires-clause-fits : goal.play-requires-clause-fits
play-requires-clause-fits g c = c.in-Ok-new.ensures.fits c.args.program.now c.in-Ok.ensures.fits

pub play-requires-clause-begins : goal.play-requires-clause-begins
play-requires-clause-begins g c = (
  λ p. get_or (map g.B.Bag.items c.in-Ok.bags.items) p [],
  starts_begin g.B.Bag.items (g.P.Program.value c.args.program.now) g.P.Value.Monoid.combine
      g.P.Value.Monoid.unit c.in-Ok-new.world c.args.params.now (map g.B.Bag.items c.in-Ok.bags.items)
      c.in-Ok-new.ensures.start,
)

pub play-requires-clause-none_done : goal.play-requires-clause-none_done
play-requires-clause-none_done g c =
    begins_none g.B.Bag.items (g.P.Program.value c.args.program.now) g.P.Value.Monoid.combine
    g.P.Value.Monoid.unit c.in-Ok-new.world
    (λ p. get_or (map g.B.Bag.items c.in-Ok.bags.items) p [])
    (starts_begin g.B.Bag.items (g.P.Program.value c.args.program.now) g.P.Value.Monoid.combine
    g.P.Value.Monoid.unit c.in-Ok-new.world c.args.params.now (map g.B.Bag.items c.in-Ok.bags.items)
    c.in-Ok-new.ensures.start)

pub returns-in-Ok-play-clause-ok : goal.returns-in-Ok-play-clause-ok
returns-in-Ok-play-clause-ok g c =
    let laws = g.met.P.Value.Monoid.monoid_laws in
    let proper = g.met.P.Program.value_proper c.args.program.now in
    let G =
    starts_begin g.B.Bag.items (g.P.Program.value c.args.program.now) g.P.Value.Monoid.combine
    g.P.Value.Monoid.unit c.in-Ok-new.world c.args.params.now
    (map g.B.Bag.items c.in-Ok.bags.items) c.in-Ok-new.ensures.start
    in
    let e = c.in-Ok-play.ensures.played _ G in
    let few : c.play.new.world.total ≤ 2 ^ 40 =
    omega (arith, c.in-Ok-play.ensures.within, c.requires.limits.limit.1)
    in
    report_of g.B.Bag.items (g.P.Program.children c.args.program.now)
    (g.P.Program.value c.args.program.now) laws proper c.in-Ok-new.world _ _ G c.play.new.world e
    c.args.params.now _ _ _ _ c.in-Ok-new.ensures.start.0 c.in-Ok.ensures.items
    c.in-Ok-play.ensures.within c.into_report.ensures.items c.into_report.ensures.value
    (c.into_report.ensures.world _ e.plays.world e.plays.stands)

pub returns-in-Err-play-clause-fault : goal.returns-in-Err-play-clause-fault
returns-in-Err-play-clause-fault g c =
    let G =
    starts_begin g.B.Bag.items (g.P.Program.value c.args.program.now) g.P.Value.Monoid.combine
    g.P.Value.Monoid.unit c.in-Ok-new.world c.args.params.now
    (map g.B.Bag.items c.in-Ok.bags.items) c.in-Ok-new.ensures.start
    in
    let cause = c.in-Err-play.ensures.fault _ G in
    let places = G.stands.shows.places ∙ ap (λ (q : Params). q.places) c.in-Ok-new.ensures.start.0 in
    cause_moved _ _ _ _ _ (joined_same _ _ _ _ places c.in-Ok.ensures.items) cause

pub returns-in-Err-play-clause-last_batch : goal.returns-in-Err-play-clause-last_batch
returns-in-Err-play-clause-last_batch g c =
    subst (λ (q : Params). PassesByAtMost q.batch c.args.params.now.limit c.in-Err-play.fault)
    c.in-Ok-new.ensures.start.0 c.in-Err-play.ensures.last_batch
