use Rattle.std.proofs.Common.{◌∙◌, sym, ap, arith}
use Rattle.std.proofs.lemmas.List.{length-set}
use Rattle.glb_rules.specs.World.{Setup}
use Rattle.glb_cube.specs.Lines.{Cube}
use Rattle.glb_turns.specs.inner.Watches.{IsWatchOf}
use Rattle.glb_turns.proofs.TurnFacts.{round_again, passed_more, found_here}
use Rattle.glb_turns.proofs.WatchFacts.{watch_set}
use Rattle.glb_turns.proofs.driver.find_decision.Goals as goal

pub returns-in-Some-clause-watches : goal.returns-in-Some-clause-watches
returns-in-Some-clause-watches g c =
    watch_set (IsWatchOf {I = g.row.P-Item.Denot} g.B.Bag.items c.args.world.now)
    c.loop-ahead.watches c.place_from-place.result c.decision_of.new.watch
    (λ p d l other. c.loop-ahead.invariant.watches p d l) c.decision_of.ensures.watch

pub returns-in-Some-clause-finds : goal.returns-in-Some-clause-finds
returns-in-Some-clause-finds g c = λ s w stands.
    let places = c.places-places.ensures.places ∙ ap (λ (x : Cube). x.places) c.lines.ensures in
    let same = ap (λ (t : Setup). t.places) stands.shows.setup ∙ sym places in
    let here =
    c.place_from-place.ensures
    ∙ round_again c.args.number c.loop-ahead.ahead c.places-places.result (omega arith)
    in
    found_here c.args.world.now.params.seed s w c.args.number c.loop-ahead.ahead
    c.place_from-place.result c.places-places.result same here
    (c.loop-ahead.invariant.passed s w stands) c.in-Some.event c.loop-ahead-test.true
    (c.in-Some.ensures.decides s w stands)

pub loop-ahead-preserved : goal.loop-ahead-preserved
loop-ahead-preserved g c = record {
  many = length-set c.loop-ahead.watches c.place_from-place.result c.decision_of.new.watch
      ∙ c.loop-ahead.invariant.many;
  watches = watch_set (IsWatchOf {I = g.row.P-Item.Denot} g.B.Bag.items c.args.world.now)
      c.loop-ahead.watches c.place_from-place.result c.decision_of.new.watch
      (λ p d l other. c.loop-ahead.invariant.watches p d l) c.decision_of.ensures.watch;
  passed = λ s w stands.
      let places = c.places-places.ensures.places ∙ ap (λ (x : Cube). x.places) c.lines.ensures in
      let same = ap (λ (t : Setup). t.places) stands.shows.setup ∙ sym places in
      let here =
      c.place_from-place.ensures
      ∙ round_again c.args.number c.loop-ahead.ahead c.places-places.result (omega arith)
      in
      passed_more c.args.world.now.params.seed s w c.args.number c.loop-ahead.ahead
      c.place_from-place.result c.places-places.result same here
      (c.loop-ahead.invariant.passed s w stands) (c.in-None.ensures.decides s w stands);
}
