use Rattle.std.proofs.Common.{◌≤◌, ◌∙◌, ap, subst, sym, arith}
use Rattle.glb_cube.specs.Lines.{Cube}
use Rattle.glb_core.specs.Standing.{Represents}
use Rattle.glb_core.proofs.CallerLemmas.{places_are}
use Rattle.glb_turns.specs.inner.Turns.{IsOver}
use Rattle.glb_turns.proofs.HaltFacts.{all_left, gone_alike, turn_leaves, turn_wants_none}
use Rattle.glb_turns.proofs.driver.halt.Goals as goal

pub loop-init : goal.loop-init
loop-init g c =
    let p = c.begin_halt.ensures.in_play.played in
    let places = c.places-places.ensures.places ∙ ap (λ (x : Cube). x.places) c.lines.ensures in
    record {
      in_play = c.begin_halt.ensures.in_play;
      few = (let S = p.2.shows in omega (arith, places, S.places, S.limits.places.1));
      same = places;
      total = omega (arith, c.begin_halt.ensures.most, c.requires.total);
      over = c.begin_halt.ensures.over;
      left = (p.0, p.1, p.2, p.3, omega arith);
    }

pub loop-preserved : goal.loop-preserved
loop-preserved g c =
    let x = c.loop.invariant.left in
    let t = c.in-Went.ensures.turned x.0 x.1 x.2 x.3 in
    let h =
    turn_leaves g.B.Bag.items c.args.code c.requires.code _ _ _ _ _ _ _ x.0 x.1 x.2 x.3 c.loop.invariant.over t
    in
    record {
      in_play = c.in-Went.ensures.in_play;
      few = c.loop.invariant.few;
      same = c.loop.invariant.same ∙ sym (ap (λ (y : Cube). y.places) c.in-Went.ensures.same.cube);
      total = omega (arith, c.in-Went.ensures.most, c.in-Went.ensures.few, c.loop.invariant.total);
      over = h.0;
      left = (x.0, t.next, t.stands, h.1, omega (arith, h.2, x.4));
    }

pub unreachable-requires : goal.unreachable-requires
unreachable-requires g c =
    let x = c.loop.invariant.left in
    let u = c.in-NoMemory.ensures.turned in
    turn_wants_none g.B.Bag.items c.args.code c.requires.code _ _ _ _ _ _ _ _ u.0 x.0 x.1 x.2
    c.loop.invariant.over (u.1 x.0 x.1 x.2 x.3) u.2

pub returns-in-AllGone : goal.returns-in-AllGone
returns-in-AllGone g c =
    let x = c.loop.invariant.left in
    let t = c.in-AllGone.ensures.turned x.0 x.1 x.2 x.3 in
    record {
      halted = record {
        over = subst (IsOver c.args.code) (sym t.1) c.loop.invariant.over;
        all_gone = λ s w S. gone_alike g.B.Bag.items c.loop.world x.0 s x.1 w x.2
            (subst (λ y. Represents g.B.Bag.items s y w) t.1 S) t.0;
      };
    }

pub returns : goal.returns
returns g c =
    let x = c.loop.invariant.left in
    let many : x.0.places ≤ _ =
    omega (arith, x.4, c.loop-test.false, c.loop.invariant.same, places_are g.B.Bag.items x.0 c.loop.world x.1 x.2.shows)
    in
    record {
      halted = record {
        over = c.loop.invariant.over;
        all_gone = λ s w S. gone_alike g.B.Bag.items c.loop.world x.0 s x.1 w x.2 S (all_left x.0 x.1 many);
      };
    }
