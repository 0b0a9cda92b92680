-- What the step of a decision leads to.
use Rattle.std.proofs.Common.{◌≡◌, ◌≢◌, ℕ, ◌+◌, ◌-◌, ◌*◌, ◌/◌, ◌%◌, ◌<◌, ◌≤◌, List, sym, ap, subst}
use Rattle.std.proofs.Common.{◌∙◌, inl, inr, ⊎_elim, arith}
use Rattle.std.specs.Prelude.{nat_lt}
use Rattle.std.proofs.lemmas.Bool.{cases_Bool, ltb-true, ltb-false}
use Rattle.std.proofs.lemmas.Nat.{mod_below, mod-mul-add, div-add-mod'}
use Rattle.glb_rules.specs.Finish.{AllGone}
use Rattle.glb_rules.specs.World.{Setup, World}
use Rattle.glb_rules.specs.Setups.{IsProper}
use Rattle.glb_rules.specs.Events.{IsInRange}
use Rattle.glb_rules.specs.Lawful.{IsLawful}
use Rattle.glb_rules.specs.Steps.{IsEnabled}
use Rattle.glb_rules.specs.Schedules.{decision, Passes, IsDecided, IsWhole}
use Rattle.glb_rules.specs.declared.event.Action.TheVariants.{Do, Poll}
use Rattle.glb_core.specs.Tables.{WorldView}
use Rattle.glb_core.specs.Standing.{Represents, SimulatesFrom, Stutters, MemoryFails}
use Rattle.glb_rules.specs.Schedules.{MintersKnowWhoAsks}
use Rattle.glb_rules.proofs.CallerLemmas.{led_step, sees, decided, decided_step_led, some_turn}
use Rattle.glb_rules.proofs.CallerLemmas.{step_counts, step_few}
use Rattle.glb_core.proofs.CallerLemmas.{memory_failed}
use Rattle.glb_rules.specs.Sight.{state_at, sight_at}
use Rattle.glb_rules.specs.declared.kinds.Phase.TheVariants as phase
use Rattle.glb_rules.specs.declared.event.Event.{Event}
use Rattle.glb_rules.specs.declared.event.Event.TheVariants as event
use Rattle.glb_turns.specs.inner.Turns.{FindsPlace, TakesTurn, IsPlayed}

module _ {I : Type 0} (seed : ℕ) (s : Setup) (w : World I) (P : IsProper s) (L : IsLawful s w) (n p : ℕ)
    (e : Event)
    (f : FindsPlace seed s w n p e) where
  place_there : p < s.places
  place_there = subst (λ q. q < s.places) (sym f.place_is) (mod_below (n + f.ahead) s.places P.some)

  -- what was found is a decision
  pub found_decided : IsDecided seed s w e
  found_decided = (p, place_there, f.here, f.decides)

  -- and it is in range, and enabled
  pub found_enabled : IsInRange s e × IsEnabled s w e
  found_enabled =
      let d =
      decided s w p L place_there f.here (state_at seed s w p) (sight_at s w p)
      (sees seed s w p P L place_there) e f.decides
      in
      (d.0, d.1)

module _ {B I V : Type 0} (items : B → List I) (children : I → List I) (value : I → V)
    (combine : V → V → V) (unit : V)
    (s : Setup) (w : World I) (old new : WorldView B V) (S : Represents items s old w) (e : Event)
    (k : ℕ) where
  -- one step adds at most a batch to the items done
  pub leads_few : SimulatesFrom items children value combine unit old e k new s w
      → new.total ≤ old.total + s.batch
  leads_few l =
      let a = step_counts children s w l.next e l.step in
      let b = step_few children s w l.next e l.step in
      omega (arith, a, b, S.total, l.stands.total)

  module _ (D : MintersKnowWhoAsks s w) (n p : ℕ) (f : FindsPlace old.params.seed s w n p e) where
    -- decisions alone led on
    pub leads_played : SimulatesFrom items children value combine unit old e k new s w
        → IsPlayed items new
    leads_played l =
        let d = found_decided old.params.seed s w S.proper S.lawful n p e f in (
          s,
          l.next,
          l.stands,
          decided_step_led children s old.params.seed S.proper w l.next e S.lawful D
              d l.step,
        )

    -- the step is the turn
    pub leads_turn : (l : SimulatesFrom items children value combine unit old e k new s w)
        → IsWhole s e l.step.taken l.step.rest
        → TakesTurn items children value combine unit old new n s w
    leads_turn l whole = record {
      next = l.next;
      event = e;
      turn = record {
        ahead = f.ahead;
        within = f.within;
        passed = f.passed;
        here = subst (λ q. (w.place q).phase ≢ phase.Gone) f.place_is f.here;
        decides = subst (λ q. decision old.params.seed s w q ≡ Do e) f.place_is f.decides;
        step = l.step;
        whole = whole;
      };
      stands = l.stands;
      fold = l.fold;
    }

-- each place stands at some distance ahead of the number
round : (n places p : ℕ) → p < places → (j : ℕ) × (j < places) × ((n + j) % places ≡ p)
round n places p l =
    let r : ℕ = n % places in
    let split = div-add-mod' n places in
    let below = mod_below n places (omega arith) in
    elim (cases_Bool (nat_lt p r)) [
      | inl before ↦
          let lt : p < r = ltb-true p r before in
          let j : ℕ = places + p - r in
          let twice : (n / places + 1) * places ≡ n / places * places + places = grind arith in
          let e : n + j ≡ (n / places + 1) * places + p = omega (arith, split, below, lt, twice) in
          (j, omega arith, ap (λ m. m % places) e ∙ mod-mul-add (n / places + 1) places p l)
      | inr after ↦
          let le : r ≤ p = ltb-false p r after in
          let e : n + (p - r) ≡ n / places * places + p = omega (arith, split, le) in
          (p - r, omega arith, ap (λ m. m % places) e ∙ mod-mul-add (n / places) places p l)
    ]

module _ {I : Type 0} (seed : ℕ) (s : Setup) (w : World I) (P : IsProper s) (L : IsLawful s w)
    (D : MintersKnowWhoAsks s w) (n : ℕ) where
  -- where no place has anything to do, every place is Gone
  pub none_found : ((j : ℕ) → j < s.places → Passes seed s w ((n + j) % s.places)) → AllGone s w
  none_found passes = ⊎_elim
      (λ gone. gone)
      (λ acts.
      let at = round n s.places acts.0 acts.1 in
      let pass : Passes seed s w acts.0 = subst (Passes seed s w) at.2 (passes at.0 at.1) in
      absurd (⊎_elim (λ gone. acts.2 gone)
      (λ (polls : decision seed s w acts.0 ≡ Poll). let does : decision seed s w acts.0
      ≡ Do acts.3.0 = acts.3.1 in cc) pass))
      (some_turn seed s w P L D)

module _ {B I V : Type 0} (items : B → List I) (children : I → List I) (value : I → V)
    (combine : V → V → V) (unit : V)
    (s : Setup) (w : World I) (old new : WorldView B V) (S : Represents items s old w) where
  -- where nothing was done, the world is still one that decisions led to
  alike_played : MintersKnowWhoAsks s w → Stutters {I = I} items old new → IsPlayed items new
  alike_played D a = (s, w, a.1 s w S, D)

  alike_few : Stutters {I = I} items old new → new.total ≤ old.total + s.batch
  alike_few a = omega (arith, S.total, (a.1 s w S).total)

  -- and so where want of memory ended the event
  pub failed_played : MintersKnowWhoAsks s w → (n p : ℕ) (e : Event)
      → FindsPlace old.params.seed s w n p e
      → MemoryFails items children value combine unit old e new → IsPlayed items new
  failed_played D n p e f m = ⊎_elim
      (λ part. leads_played items children value combine unit s w old new S e part.0 D n p f (part.1 s w S))
      (λ a. alike_played D a) (memory_failed items children value combine unit old new e m)

  pub failed_few : (e : Event) → MemoryFails items children value combine unit old e new
      → new.total ≤ old.total + s.batch
  failed_few e m = ⊎_elim
      (λ part. leads_few items children value combine unit s w old new S e part.0 (part.1 s w S))
      (λ a. alike_few a) (memory_failed items children value combine unit old new e m)

  -- a Halt leads on too
  pub halted_played : MintersKnowWhoAsks s w → (p code k : ℕ)
      → SimulatesFrom items children value combine unit old (event.Halt p code) k new s w
      → IsPlayed items new
  halted_played D p code k l =
      (s, l.next, l.stands, led_step children s w l.next (event.Halt p code) S.lawful tt D l.step)
