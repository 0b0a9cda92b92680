-- What one turn rests on, and how turns join.
use Rattle.std.proofs.Common.{◌≡◌, ◌≢◌, ℕ, suc, ◌+◌, ◌*◌, ◌/◌, ◌%◌, ◌<◌, List, [], ◌∷◌, ◌++◌}
use Rattle.std.proofs.Common.{length, refl, sym, ap, subst, ◌∙◌, ⊎_elim, arith}
use Rattle.glb_rules.specs.World.{Setup, World}
use Rattle.glb_rules.specs.Schedules.{Passes, ScheduledTurn, ScheduledRun}
use Rattle.glb_turns.specs.inner.Turns.{DecidesAt, FindsPlace}
use Rattle.std.specs.Prelude.{Some}
use Rattle.std.proofs.lemmas.Bool.{cases_eq}
use Rattle.std.proofs.lemmas.Nat.{mod_below, mod-mul-add, div-add-mod'}
use Rattle.glb_rules.specs.declared.event.Event.{Event}

module _ {I : Type 0} (children : I → List I) (s : Setup) (seed : ℕ) where
  -- one more turn
  pub scheduled_then : (old mid new : World I) (ns : List ℕ) (es : List Event) (n : ℕ) (e : Event)
      → ScheduledRun children s seed old ns es mid → ScheduledTurn children s seed mid n e new
      → ScheduledRun children s seed old (ns ++ n ∷ []) (es ++ e ∷ []) new
  scheduled_then old mid new [] [] n e r t =
      (new, subst (λ w. ScheduledTurn children s seed w n e new) r t, refl)
  scheduled_then old mid new (m ∷ ns) (f ∷ es) n e r t =
      (r.0, r.1, scheduled_then r.0 mid new ns es n e r.2 t)
  scheduled_then old mid new [] (f ∷ es) n e r t = absurd r
  scheduled_then old mid new (m ∷ ns) [] n e r t = absurd r

  -- an event for each number
  pub scheduled_length : (old new : World I) (ns : List ℕ) (es : List Event)
      → ScheduledRun children s seed old ns es new
      → length es ≡ length ns
  scheduled_length old new [] [] r = refl
  scheduled_length old new (n ∷ ns) (e ∷ es) r = ap suc (scheduled_length r.0 new ns es r.2)
  scheduled_length old new [] (e ∷ es) r = absurd r
  scheduled_length old new (n ∷ ns) [] r = absurd r

module _ {I : Type 0} (seed : ℕ) (s : Setup) (w : World I) (n ahead q places : ℕ)
    (same : s.places ≡ places) (here : q ≡ (n + ahead) % places)
    (before : (j : ℕ) → j < ahead → Passes seed s w ((n + j) % s.places)) where
  place_is : q ≡ (n + ahead) % s.places
  place_is = subst (λ m. q ≡ (n + ahead) % m) (sym same) here

  -- one more place passes
  pub passed_more : Passes seed s w q → (j : ℕ) → j < ahead + 1
      → Passes seed s w ((n + j) % s.places)
  passed_more passes j l =
      ⊎_elim
      (λ (last : j ≡ ahead). subst (λ k. Passes seed s w ((n + k) % s.places)) (sym last)
      (subst (Passes seed s w) place_is passes))
      (λ (other : j ≢ ahead). before j (omega arith))
      (cases_eq j ahead)

  -- the place is found
  pub found_here : (e : Event) → ahead < places → DecidesAt seed s w q (Some e)
      → FindsPlace seed s w n q e
  found_here e l d = record {
    ahead = ahead;
    within = subst (λ m. ahead < m) (sym same) l;
    passed = before;
    place_is = place_is;
    here = d.0;
    decides = d.1;
  }

-- the number of a place is the same however often the rounds went
pub round_again : (n j m : ℕ) → 0 < m → (n % m + j) % m ≡ (n + j) % m
round_again n j m some =
    let r : ℕ = n % m + j in
    let a = div-add-mod' n m in
    let b = div-add-mod' r m in
    let twice : (n / m + r / m) * m ≡ n / m * m + r / m * m = grind arith in
    let e : n + j ≡ (n / m + r / m) * m + r % m = omega (arith, a, b, twice) in
    sym (ap (λ k. k % m) e ∙ mod-mul-add (n / m + r / m) m (r % m) (mod_below r m some))
