-- What a play of a schedule rests on, and what it ends in.
use Rattle.std.proofs.Common.{◌≡◌, ℕ, zero, suc, ◌+◌, ◌-◌, ◌*◌, ◌^◌, ◌<◌, ◌≤◌, List, [], ◌∷◌, ◌++◌}
use Rattle.std.proofs.Common.{length, refl, sym, ap, subst, ◌∙◌, arith, length-append}
use Rattle.std.proofs.Math.Nat.{mul-le-mul, pow-le-pow_left}
use Rattle.std.specs.Prelude.{Bool, true, false, cond, ◌==◌}
use Rattle.glb_tree.specs.Runs.{IsTooMany}
use Rattle.glb_tree.proofs.Sizes.{never_more}
use Rattle.glb_rules.specs.World.{Setup}
use Rattle.glb_rules.specs.Setups.{IsProper}
use Rattle.glb_rules.specs.Lawful.{sum_of_places, all_done, all_left}
use Rattle.glb_rules.specs.History.{start, Run, NoHalt}
use Rattle.glb_rules.specs.Finish.{AllGone as AreGone}
use Rattle.glb_rules.specs.Bound.{bound}
use Rattle.glb_rules.specs.Schedules.{DecidedRun, ScheduledTurn, ScheduledRun}
use Rattle.glb_rules.specs.declared.params.Params.{Params}
use Rattle.glb_rules.specs.Joins.{join_to}
use Rattle.glb_core.specs.Tables.{WorldView}
use Rattle.glb_core.specs.Standing.{Represents, HasFold}
use Rattle.glb_rules.specs.Schedules.{MintersKnowWhoAsks}
use Rattle.glb_rules.proofs.CallerLemmas.{start_lawful, run_stop, schedule_decides, decided_run}
use Rattle.glb_rules.proofs.CallerLemmas.{decided_run_halts_not, decided_run_led, start_led}
use Rattle.glb_rules.proofs.CallerLemmas.{run_lawful_from, run_bounded, done_count}
use Rattle.glb_core.specs.Lifelines.{setup_for}
use Rattle.glb_turns.specs.ScheduledRuns.{first_numbers}
use Rattle.glb_turns.specs.inner.Turns.{Begins, Plays, PlaysToEnd, TakesTurn, IsPlayed}
use Rattle.glb_turns.proofs.TurnFacts.{scheduled_then, scheduled_length}

-- no place tries more often than the limit
pub tries_most : (b : Bool) (n : ℕ) → n ≤ 64 → cond b 0 n ≤ 64
tries_most true n h = omega arith
tries_most false n h = h

-- so many numbers are so many
numbers_length : (will : ℕ → ℕ) (n : ℕ) → length (first_numbers will n) ≡ n
numbers_length will zero = refl
numbers_length will (suc n) = omega
    (arith, numbers_length will n, length-append (first_numbers will n) (will n ∷ []))

module _ {B I V : Type 0} (items : B → List I) (children : I → List I) (value : I → V)
    (combine : V → V → V) (unit : V)
    (first : WorldView B V) (bags : ℕ → List I) (will : ℕ → ℕ)
    (G : Begins items value combine unit first bags) where
  abbrev pub s : Setup
  s = setup_for first.cube first.params bags

  -- no turn yet
  pub plays_none : Plays items children value combine unit first bags will 0 first
  plays_none = record
      { events = []; world = start s bags; run = refl; stands = G.stands; fold = G.fold }

  module _ (n : ℕ) (x : WorldView B V) (p : Plays items children value combine unit first bags will n x)
    where
      pub P : IsProper s
      P = G.stands.proper

      pub decides : DecidedRun children s first.params.seed (start s bags) p.events p.world
      decides = schedule_decides children s first.params.seed P (start s bags) (first_numbers will n)
          p.events p.world p.run

      -- decisions alone led there
      pub plays_led : MintersKnowWhoAsks s p.world
      plays_led =
          (decided_run_led children s first.params.seed P (start s bags) p.events p.world
          (start_lawful s bags (λ q l. refl)) (start_led s bags) decides).1

      pub plays_played : IsPlayed items x
      plays_played = (s, p.world, p.stands, plays_led)

      pub history : Run children s (start s bags) p.events p.world
      history = decided_run children s first.params.seed (start s bags) p.events p.world decides

      pub no_halt : NoHalt p.events
      no_halt = decided_run_halts_not children s first.params.seed (start s bags) p.events p.world decides

      -- nobody has halted the run
      pub plays_run : x.stop ≡ 0
      plays_run = p.stands.shows.stop ∙ run_stop children s (start s bags) p.events p.world no_halt history

      -- there were no more turns than the bound
      pub plays_bounded : n ≤ bound s x.total
      plays_bounded =
          let events =
          scheduled_length children s first.params.seed (start s bags) p.world (first_numbers will n)
          p.events p.run
          in
          let few = run_bounded children s bags P (λ q l. refl) p.events p.world no_halt history in
          let all : bound s x.total ≡ bound s (sum_of_places s p.world (λ a. a.count.items)) =
          ap (bound s) p.stands.total
          in
          omega (arith, events, few, all, numbers_length will n)

      -- one turn more
      pub plays_more : (y : WorldView B V) (number : ℕ) → number ≡ will n
          → TakesTurn items children value combine unit x y number s p.world
          → x.params ≡ first.params
          → Plays items children value combine unit first bags will (n + 1) y
      plays_more y number is t same =
          let numbered =
          subst (λ k. ScheduledTurn children s x.params.seed p.world k t.event t.next) is t.turn
          in
          let turn =
          subst (λ (q : Params). ScheduledTurn children s q.seed p.world (will n) t.event t.next) same
          numbered
          in
          let more =
          scheduled_then children s first.params.seed (start s bags) p.world t.next (first_numbers will n)
          p.events (will n) t.event p.run turn
          in
          let e : suc n ≡ n + 1 = omega arith in
          record {
            events = p.events ++ t.event ∷ [];
            world = t.next;
            run = subst
                (λ m. ScheduledRun children s first.params.seed (start s bags) (first_numbers will m)
                (p.events ++ t.event ∷ []) t.next) e more;
            stands = t.stands;
            fold = t.fold p.fold;
          }

      -- where too many items were done, the trees have more nodes
      pub plays_too_many : (limit : ℕ) → limit < x.total
          → IsTooMany children (join_to s.places bags) limit x.total
      plays_too_many limit above =
          let L = run_lawful_from children s bags P (λ q l. refl) p.events p.world history in
          let count = done_count s p.world L.0 in
          let total = p.stands.total in
          record {
            above = above;
            large = λ small. omega (
              arith,
              never_more children (join_to s.places bags) (all_done s p.world)
                  (all_left s p.world) limit L.1 small,
              count,
              total,
            );
            expanded = (all_done s p.world, all_left s p.world, L.1, count ∙ sym total);
          }

      -- where every place is Gone, the play is at its end
      pub plays_ended : (y : WorldView B V) → AreGone s p.world → y ≡ x
          → PlaysToEnd items children value combine unit first bags will y
      plays_ended y gone same = record {
        turns = n;
        plays = record {
          events = p.events;
          world = p.world;
          run = p.run;
          stands = subst (λ z. Represents items s z p.world) (sym same) p.stands;
          fold = subst (λ z. HasFold value combine unit s z p.world) (sym same) p.fold;
        };
        all_gone = gone;
      }

  -- within the limits the bound is far from the last value
  pub bound_small : (total : ℕ) → total ≤ 2 ^ 40 → bound s total < 2 ^ 64 - 1
  bound_small total few =
      let q : Params = first.params in
      let places : first.cube.places ≤ 64 =
      omega (arith, G.stands.shows.places, G.stands.shows.limits.places.1)
      in
      let power : 2 ^ 6 ≤ first.cube.base ^ 6 = pow-le-pow_left G.stands.shows.cube.base 6 in
      let enough : first.cube.places ≤ first.cube.base ^ 6 = omega (arith, places, power) in
      let dimension : first.cube.dimension ≤ 6 =
      G.stands.shows.cube.dimension.least 6 (omega arith) enough
      in
      let tries : s.tries ≤ 64 = tries_most (q.places == 1) q.tries G.stands.shows.limits.tries in
      let few_items : total + first.cube.places ≤ 2 ^ 40 + 64 = omega (arith, few, places) in
      let few_each : 7 * s.tries + 11 * s.dimension + 2 * s.places + 3 ≤ 645 =
      omega (arith, tries, dimension, places)
      in
      let all : bound s total ≤ (2 ^ 40 + 64) * 645 = mul-le-mul few_items few_each in
      omega (arith, all)
