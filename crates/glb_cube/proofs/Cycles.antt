-- The places that differ in one digit alone, and the lines between them.
use Rattle.std.specs.Prelude.{Option, Some, None}
use Rattle.std.proofs.Common.{◌≡◌, inl, inr, ℕ, zero, suc, ◌+◌, ◌-◌, ◌*◌, ◌/◌, ◌%◌, ◌<◌, ◌≤◌, refl}
use Rattle.std.proofs.Common.{ap, sym, ◌∙◌, arith, rules}
use Rattle.std.proofs.lemmas.Bool.{lt-ltb, le-ltb, cond-true, cond-false, cases_lt}
use Rattle.std.proofs.lemmas.Nat.{div-mul-add, mod-mul-add}
use Rattle.glb_cube.specs.Digits.{digit, successor, first_below, target}

-- the digit d of k + unit * d, for each d
pub record IsCycle (base unit k : ℕ) : Type 0 where
  pub digit_is : (d : ℕ) → d < base → digit base unit (k + unit * d) ≡ d

spread : (base unit lo h d : ℕ) → lo + unit * (base * h) + unit * d ≡ (h * base + d) * unit + lo
spread base unit lo h d = omega arith

pub cycle : (base unit lo h : ℕ) → lo < unit → IsCycle base unit (lo + unit * (base * h))
cycle base unit lo h low =
    record {
      digit_is = λ d small. ap (λ n. (n / unit) % base) (spread base unit lo h d)
          ∙ ap (λ n. n % base) (div-mul-add (h * base + d) unit lo low) ∙ mod-mul-add h base d small;
    }

successor_up : (base unit k d : ℕ) → IsCycle base unit k → d + 1 < base
    → successor base unit (k + unit * d) ≡ k + unit * (d + 1)
successor_up base unit k d r small =
    simp (r.digit_is d (omega arith), lt-ltb (d + 1) base small) (omega arith)

successor_over : (base unit k d : ℕ) → IsCycle base unit k → d < base → base ≤ d + 1
    → successor base unit (k + unit * d) ≡ k + unit * 0
successor_over base unit k d r small top = simp (r.digit_is d small, le-ltb (d + 1) base top) (omega arith)

first_yes : (places base unit p t : ℕ) → successor base unit p < places
    → first_below places base unit p (suc t) ≡ Some (successor base unit p)
unfolding first_below
first_yes places base unit p t below = cond-true _ _ _ (lt-ltb (successor base unit p) places below)

first_no : (places base unit p t : ℕ) → places ≤ successor base unit p
    → first_below places base unit p (suc t)
    ≡ first_below places base unit (successor base unit p) t
unfolding first_below
first_no places base unit p t above = cond-false _ _ _ (le-ltb (successor base unit p) places above)

first_none : (places base unit p : ℕ) → first_below places base unit p zero ≡ None
unfolding first_below
first_none places base unit p = refl

-- above the last place of the cycle there is none up to the top digit
over : (places base unit k : ℕ) → IsCycle base unit k → k + unit * 0 < places → (t d : ℕ) → d < base
    → base ≤ d + t → (d + 1 < base → places ≤ k + unit * (d + 1))
    → first_below places base unit (k + unit * d) t ≡ Some (k + unit * 0)
over places base unit k r low zero d small enough above = absurd (omega arith)
over places base unit k r low (suc t) d small enough above = elim (cases_lt (d + 1) base) [
  | inl more ↦
      let up : successor base unit (k + unit * d) ≡ k + unit * (d + 1) =
      successor_up base unit k d r more in
      first_no places base unit (k + unit * d) t (rw up (above more))
      ∙ ap (λ n. first_below places base unit n t) up
      ∙ over places base unit k r low t (d + 1) more (omega arith) (λ _. omega (arith, above more))
  | inr top ↦
      let back : successor base unit (k + unit * d) ≡ k + unit * 0 =
      successor_over base unit k d r small top in
      first_yes places base unit (k + unit * d) t (rw back low) ∙ ap Some back
]

nothing : (places base unit k : ℕ) → IsCycle base unit k → (t d : ℕ) → d + t < base
    → places ≤ k + unit * (d + 1) → first_below places base unit (k + unit * d) t ≡ None
nothing places base unit k r zero d small above = first_none places base unit (k + unit * d)
nothing places base unit k r (suc t) d small above =
    let up : successor base unit (k + unit * d) ≡ k + unit * (d + 1) =
    successor_up base unit k d r (omega arith) in
    first_no places base unit (k + unit * d) t (rw up above)
    ∙ ap (λ n. first_below places base unit n t) up
    ∙ nothing places base unit k r t (d + 1) (omega arith) (omega (arith, above))

-- to the next digit, where there is one below `places`
pub target_up : (places base unit k d : ℕ) → IsCycle base unit k → d + 1 < base
    → k + unit * (d + 1) < places → target places base unit (k + unit * d)
    ≡ Some (k + unit * (d + 1))
target_up places base unit k d r small below =
    let up : successor base unit (k + unit * d) ≡ k + unit * (d + 1) = successor_up base unit k d r small in
    let more : base - 1 ≡ suc (base - 2) = omega arith in
    ap (λ n. first_below places base unit (k + unit * d) n) more
    ∙ first_yes places base unit (k + unit * d) (base - 2) (rw up below) ∙ ap Some up

-- else back to the digit 0, from another one
pub target_over : (places base unit k d : ℕ) → IsCycle base unit k → 0 < d → d < base
    → k + unit * 0 < places → (d + 1 < base → places ≤ k + unit * (d + 1))
    → target places base unit (k + unit * d) ≡ Some (k + unit * 0)
target_over places base unit k d r some small low above =
    over places base unit k r low (base - 1) d small (omega arith) above

pub target_none : (places base unit k : ℕ) → IsCycle base unit k → 2 ≤ base → places ≤ k + unit * 1
    → target places base unit (k + unit * 0) ≡ None
target_none places base unit k r two above = nothing places base unit k r (base - 1) 0 (omega arith) above

abbrev number_in : Option ℕ → ℕ
number_in None = 0
number_in (Some q) = q

pub some_same : (p q : ℕ) → Some p ≡ Some q → p ≡ q
some_same p q e = ap number_in e

first_small : (places base unit : ℕ) (t p q : ℕ) → first_below places base unit p t ≡ Some q
    → q < places
unfolding first_below
first_small places base unit zero p q e = absurd (search (rules, e))
first_small places base unit (suc t) p q e = elim (cases_lt (successor base unit p) places) [
  | inl below ↦ let same : Some (successor base unit p) ≡ Some q =
      sym (first_yes places base unit p t below) ∙ e in rw (sym (ap number_in same)) below
  | inr above ↦ first_small places base unit t (successor base unit p) q
      (sym (first_no places base unit p t above) ∙ e)
]

pub target_small : (places base unit p q : ℕ) → target places base unit p ≡ Some q → q < places
target_small places base unit p q e = first_small places base unit (base - 1) p q e
