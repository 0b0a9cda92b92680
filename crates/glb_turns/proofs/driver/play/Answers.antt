use Rattle.std.proofs.Common.{◌≡◌, ◌∙◌, ◌<◌, ◌+◌, sym, subst, ap, refl, arith}
use Rattle.glb_rules.specs.declared.params.Params.{Params}
use Rattle.glb_core.specs.Tables.{WorldView}
use Rattle.glb_tree.specs.Runs.{IsTooMany}
use Rattle.glb_turns.proofs.PlayFacts.{plays_none, plays_led, plays_run, plays_played}
use Rattle.glb_turns.proofs.PlayFacts.{plays_bounded, plays_more, plays_too_many, plays_ended}
use Rattle.glb_turns.proofs.PlayFacts.{bound_small}
use Rattle.glb_turns.proofs.HaltFacts.{failed_runs}
use Rattle.glb_turns.proofs.driver.play.Goals as goal

pub loop-init : goal.loop-init
loop-init g c = record {
  many = c.requires.many;
  watches = c.requires.watches;
  fits = c.requires.fits;
  cube = refl;
  params = refl;
  within = omega (arith, c.requires.none_done);
  later = λ k. ap (g.S.Schedule.will c.args.schedule.now) (omega arith);
  plays = λ bags G. plays_none _ _ _ _ _ _ bags _ G;
}

pub turn-requires-clause-in_play : goal.turn-requires-clause-in_play
turn-requires-clause-in_play g c =
    let bags = c.requires.begins.0 in
    let G = c.requires.begins.1 in
    record {
      many = c.loop.invariant.many;
      watched = c.loop.invariant.watches;
      played = plays_played _ _ _ _ _ _ bags _ G _ _ (c.loop.invariant.plays bags G);
      fit = c.loop.invariant.fits;
    }

pub returns-in-AllGone-clause-within : goal.returns-in-AllGone-clause-within
returns-in-AllGone-clause-within g c =
    let bags = c.requires.begins.0 in
    let G = c.requires.begins.1 in
    let p = c.loop.invariant.plays bags G in
    let t = c.in-AllGone.ensures.turned _ p.world p.stands (plays_led _ _ _ _ _ _ bags _ G _ _ p) in
    omega (
      arith,
      ap (λ (x : WorldView g.row.B.Denot g.row.P-Value.Denot). x.total) t.1,
      c.loop.invariant.within,
    )

pub returns-in-AllGone-clause-played : goal.returns-in-AllGone-clause-played
returns-in-AllGone-clause-played g c = λ bags G.
    let p = c.loop.invariant.plays bags G in
    let t = c.in-AllGone.ensures.turned _ p.world p.stands (plays_led _ _ _ _ _ _ bags _ G _ _ p) in
    plays_ended _ _ _ _ _ _ bags _ G _ _ p _ t.0 t.1

pub returns-then-items-limit-clause-fault : goal.returns-then-items-limit-clause-fault
returns-then-items-limit-clause-fault g c = λ bags G.
    let p = c.loop.invariant.plays bags G in
    let t = c.in-Went.ensures.turned _ p.world p.stands (plays_led _ _ _ _ _ _ bags _ G _ _ p) in
    let number : c.turn-number.result ≡ g.S.Schedule.will c.args.schedule.now c.loop.counter =
    c.turn-number.ensures.number ∙ c.loop.invariant.later 0
    ∙ ap (g.S.Schedule.will c.args.schedule.now) (omega arith)
    in
    let more = plays_more _ _ _ _ _ _ bags _ G _ _ p _ _ number t c.loop.invariant.params in
    let above : c.args.limit < c.turn.new.world.total = omega (arith, c.total-items.ensures.total) in
    subst (IsTooMany _ _ _) (sym c.total-items.ensures.total)
    (plays_too_many _ _ _ _ _ _ bags _ G _ _ more c.args.limit above)

pub returns-then-items-limit-clause-last_batch : goal.returns-then-items-limit-clause-last_batch
returns-then-items-limit-clause-last_batch g c =
    let batch = ap (λ (q : Params). q.batch) c.loop.invariant.params in
    omega (arith, c.total-items.ensures.total, c.in-Went.ensures.most, c.loop.invariant.within, batch)

pub loop-preserved : goal.loop-preserved
loop-preserved g c = record {
  many = c.in-Went.ensures.in_play.many;
  watches = c.in-Went.ensures.in_play.watched;
  fits = c.in-Went.ensures.in_play.fit;
  cube = c.in-Went.ensures.same.cube ∙ c.loop.invariant.cube;
  params = c.in-Went.ensures.same.params ∙ c.loop.invariant.params;
  within = omega (arith, c.total-items.ensures.total);
  later = λ k. c.turn-number.ensures.later k ∙ c.loop.invariant.later (k + 1)
      ∙ ap (g.S.Schedule.will c.args.schedule.now) (omega arith);
  plays = λ bags G.
      let p = c.loop.invariant.plays bags G in
      let t = c.in-Went.ensures.turned _ p.world p.stands (plays_led _ _ _ _ _ _ bags _ G _ _ p) in
      let number : c.turn-number.result ≡ g.S.Schedule.will c.args.schedule.now c.loop.counter =
      c.turn-number.ensures.number ∙ c.loop.invariant.later 0
      ∙ ap (g.S.Schedule.will c.args.schedule.now) (omega arith)
      in
      plays_more _ _ _ _ _ _ bags _ G _ _ p _ _ number t c.loop.invariant.params;
}

pub unreachable-requires : goal.unreachable-requires
unreachable-requires g c =
    let bags = c.requires.begins.0 in
    let G = c.requires.begins.1 in
    let few = plays_bounded _ _ _ _ _ _ bags _ G _ _ (c.loop.invariant.plays bags G) in
    let small =
    bound_small _ (g.P.Program.children c.args.program.now) _ _ _ _ bags
    (g.S.Schedule.will c.args.schedule.now) G c.loop.world.total
    (omega (arith, c.loop.invariant.within, c.requires.limited))
    in
    omega (arith, few, small)

pub halt-requires-clause-running : goal.halt-requires-clause-running
halt-requires-clause-running g c =
    let bags = c.requires.begins.0 in
    let G = c.requires.begins.1 in
    let p = c.loop.invariant.plays bags G in
    let t = c.in-Went.ensures.turned _ p.world p.stands (plays_led _ _ _ _ _ _ bags _ G _ _ p) in
    let number : c.turn-number.result ≡ g.S.Schedule.will c.args.schedule.now c.loop.counter =
    c.turn-number.ensures.number ∙ c.loop.invariant.later 0
    ∙ ap (g.S.Schedule.will c.args.schedule.now) (omega arith)
    in
    plays_run _ _ _ _ _ _ bags _ G _ _
    (plays_more _ _ _ _ _ _ bags _ G _ _ p _ _ number t c.loop.invariant.params)

pub halt-requires-in-NoMemory-clause-running : goal.halt-requires-in-NoMemory-clause-running
halt-requires-in-NoMemory-clause-running g c =
    let bags = c.requires.begins.0 in
    let G = c.requires.begins.1 in
    let p = c.loop.invariant.plays bags G in
    let u = c.in-NoMemory.ensures.turned in
    failed_runs g.B.Bag.items _ _ _ _ _ _ u.0 _ p.world p.stands u.2 ∙ plays_run _ _ _ _ _ _ bags _ G _ _ p
