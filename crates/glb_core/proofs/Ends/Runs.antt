-- How long runs without Halt can be, and that they end.
use Rattle.std.proofs.Common.{◌≡◌, ◌≢◌, ℕ, zero, suc, ◌+◌, ◌*◌, ◌<◌, ◌≤◌, ◌⊎◌, List, [], ◌∷◌, ◌++◌}
use Rattle.std.proofs.Common.{length, refl, ◌∙◌, inl, inr, ⊎_elim, arith, length-append}
use Rattle.std.proofs.Math.Nat.{mul-le-mul_right}
use Rattle.glb_laws.specs.Tree.{IsSmall}
use Rattle.glb_tree.proofs.Sizes.{never_more}
use Rattle.glb_rules.specs.Joins.{join_to}
use Rattle.glb_rules.specs.World.{Setup, World}
use Rattle.glb_rules.specs.Setups.{IsProper}
use Rattle.glb_rules.specs.Lawful.{sum_of_places, all_done, all_left}
use Rattle.glb_rules.specs.History.{start, Run, NoHalt, AwakeBy}
use Rattle.glb_rules.specs.Finish.{AllGone, IsStuck, RunsOn}
use Rattle.glb_rules.specs.Bound.{bound}
use Rattle.glb_rules.proofs.Finish.Histories.{run_then}
use Rattle.glb_rules.proofs.Invariant.Steps.{run_stop}
use Rattle.glb_rules.proofs.Finish.NoneStuck.{stuck_finished}
use Rattle.glb_rules.specs.declared.event.Event.{Event}
use Rattle.glb_rules.specs.declared.event.Event.TheVariants as event
use Rattle.glb_rules.proofs.Bound.Runs.{done_count, run_lawful, run_lawful_from, run_bounded}

module _ {I : Type 0} (children : I → List I) (s : Setup) (bags : ℕ → List I) (P : IsProper s)
    (A : AwakeBy s bags) where
  -- in a run over small trees no more items are done than the trees have
  pub done_small : (most : ℕ) → IsSmall children (join_to s.places bags) most
      → (es : List Event) (w : World I) → Run children s (start s bags) es w
      → sum_of_places s w (λ a. a.count.items) ≤ most
  done_small most small es w r =
      let L = run_lawful_from children s bags P A es w r in
      let n = never_more children (join_to s.places bags) (all_done s w) (all_left s w) most L.1 small in
      let c = done_count s w L.0 in
      omega arith

  pub run_bounded_on : (most : ℕ) → IsSmall children (join_to s.places bags) most
      → (es : List Event) (w : World I) → NoHalt es → Run children s (start s bags) es w
      → length es ≤ bound s most
  run_bounded_on most small es w n r =
      let a = run_bounded children s bags P A es w n r in
      let d = done_small most small es w r in
      let m : (sum_of_places s w (λ a. a.count.items) + s.places) *
      (7 * s.tries + 11 * s.dimension + 2 * s.places + 3) ≤ bound s most =
      mul-le-mul_right (7 * s.tries + 11 * s.dimension + 2 * s.places + 3) (omega arith) in
      omega arith

  -- nothing but Halt is enabled any more, at some world up to this one, and it stays
  record Ended (worlds : ℕ → World I) (n : ℕ) : Type 0 where
    at : ℕ
    within : at ≤ n
    events : List Event
    halts_not : NoHalt events
    led : Run children s (start s bags) events (worlds at)
    stuck : IsStuck s (worlds at)
    stays : worlds n ≡ worlds at

  -- so many events have led to this world
  record Going (worlds : ℕ → World I) (n : ℕ) : Type 0 where
    events : List Event
    number : length events ≡ n
    halts_not : NoHalt events
    led : Run children s (start s bags) events (worlds n)

  no_halt_then : (es : List Event) (e : Event) → NoHalt es → ((p n : ℕ) → e ≢ event.Halt p n)
      → NoHalt (es ++ e ∷ [])
  no_halt_then [] e h n = (n, tt)
  no_halt_then (x ∷ es) e h n = (h.0, no_halt_then es e h.1 n)

  next_of : (worlds : ℕ → World I) → RunsOn children s worlds → (n : ℕ) → Going worlds n
      → Going worlds (suc n) ⊎ Ended worlds n
  next_of worlds R n g = ⊎_elim
      (λ x. inl (record {
        events = g.events ++ x.0 ∷ [];
        number = (let a = length-append g.events (x.0 ∷ []) in let b = g.number in omega arith);
        halts_not = no_halt_then g.events x.0 g.halts_not x.1;
        led = run_then children s (start s bags) (worlds n) (worlds (suc n)) g.events x.0 g.led x.2;
      }))
      (λ x. inr (record {
        at = n;
        within = omega arith;
        events = g.events;
        halts_not = g.halts_not;
        led =
            g.led;
        stuck = x.0;
        stays = refl;
      }))
      (R.goes_on n)

  -- a world at which nothing but Halt is enabled stays
  stays_stuck : (worlds : ℕ → World I) → RunsOn children s worlds → (n : ℕ) → Ended worlds n
      → Ended worlds (suc n)
  stays_stuck worlds R n x =
      let same : worlds (suc n) ≡ worlds n = ⊎_elim
      (λ y. absurd (let k : IsStuck s (worlds n) = rw x.stays x.stuck
      in k y.0 y.1 y.2.in_range y.2.enabled))
      (λ y. y.1)
      (R.goes_on n) in
      let l = x.within in
      record {
        at = x.at;
        within = omega arith;
        events = x.events;
        halts_not = x.halts_not;
        led = x.led;
        stuck = x.stuck;
        stays = same ∙ x.stays;
      }

  going_or_ended : (worlds : ℕ → World I) → worlds 0 ≡ start s bags → RunsOn children s worlds
      → (n : ℕ)
      → Going worlds (suc n) ⊎ Ended worlds n
  going_or_ended worlds first R zero =
      next_of worlds R zero (record { events = []; number = refl; halts_not = tt; led = first })
  going_or_ended worlds first R (suc n) = ⊎_elim
      (λ g. next_of worlds R (suc n) g)
      (λ x. inr (stays_stuck worlds R n x))
      (going_or_ended worlds first R n)

  -- a run over small trees that goes on while it can has ended after at most so many events
  pub runs_end : (most : ℕ) → IsSmall children (join_to s.places bags) most → (worlds : ℕ → World I)
      → worlds 0 ≡ start s bags → RunsOn children s worlds →
      ((worlds (bound s most)).live ≡ 0) × AllGone s (worlds (bound s most))
  runs_end most small worlds first R = ⊎_elim
      (λ g. absurd (let b =
      run_bounded_on most small g.events (worlds (suc (bound s most))) g.halts_not g.led in
      let n = g.number in omega arith))
      (λ x.
      let L = run_lawful children s bags P A x.events (worlds x.at) x.led in
      let z = run_stop children s (start s bags) x.events (worlds x.at) x.halts_not x.led in
      rw x.stays (stuck_finished s (worlds x.at) L P P.alone x.stuck z))
      (going_or_ended worlds first R (bound s most))
