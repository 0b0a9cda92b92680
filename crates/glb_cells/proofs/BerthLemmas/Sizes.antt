-- Numbers and choices that a state moves by.
use Rattle.std.proofs.Common.{◌≡◌, inl, inr, ℕ, zero, suc, eqb, ◌+◌, ◌-◌, ◌<◌, Bool, true, false, cond, List, [], ◌∷◌, min, length, refl, ◌∙◌, arith}
use Rattle.std.specs.Prelude.{nat_lt}
use Rattle.std.proofs.lemmas.Bool.{cases_lt, cond-true, cond-false, lt-ltb, le-ltb}
use Rattle.glb_rules.specs.Effects.{phase_after_batch, tries_after}
use Rattle.glb_rules.proofs.EdgeLemmas.Marks.{eq_other}
use Rattle.glb_rules.specs.declared.kinds.Phase.TheVariants as phase

-- one of two
pub either : {A : Type 0} (F : A → Type 0) (b : Bool) (x y : A) → F x → F y → F (cond b x y)
either F true x y f g = f
either F false x y f g = g

-- what neither of two changes
pub neither : {A C : Type 0} (f : A → C) (b : Bool) (x y : A) (z : C) → f x ≡ z → f y ≡ z
    → f (cond b x y) ≡ z
neither f true x y z d e = d
neither f false x y z d e = e

pub no_more : (n : ℕ) → min n 18446744073709551615 ≡ min (n + 0) 18446744073709551615
no_more n = omega arith

-- the phase and the tries after a batch, by the number of items
pub rest_phase : {A : Type 0} (xs : List A) (n : ℕ) → n ≡ min (length xs) 18446744073709551615
    → cond (eqb n 0) phase.Idle phase.Working ≡ phase_after_batch xs
rest_phase [] n e = let q : n ≡ 0 = omega arith in rw q refl
rest_phase (x ∷ xs) n e = some_phase n (omega arith)
  where
    some_phase : (n : ℕ) → 0 < n → cond (eqb n 0) phase.Idle phase.Working ≡ phase.Working
    some_phase zero l = absurd (omega arith)
    some_phase (suc n) l = rw (eq_other (suc n) 0 (λ z. cc)) refl

pub rest_tries : {A : Type 0} (most k : ℕ) (xs : List A) (n : ℕ)
    → n ≡ min (length xs) 18446744073709551615 → cond (eqb n 0) most k ≡ tries_after most k xs
rest_tries most k [] n e = let q : n ≡ 0 = omega arith in rw q refl
rest_tries most k (x ∷ xs) n e = some_tries n (omega arith)
  where
    some_tries : (n : ℕ) → 0 < n → cond (eqb n 0) most k ≡ k
    some_tries zero l = absurd (omega arith)
    some_tries (suc n) l = rw (eq_other (suc n) 0 (λ z. cc)) refl

-- the size after a gift
pub given_left : (s u bag part rest : ℕ) → (s < 18446744073709551615 → s ≡ bag) → bag ≡ part + rest
    → u ≡ min part 18446744073709551615
    → cond (nat_lt s 18446744073709551615) (s - u) s < 18446744073709551615
    → cond (nat_lt s 18446744073709551615) (s - u) s ≡ rest
given_left s u bag part rest h e f l = elim (cases_lt s 18446744073709551615) [
  | inl m ↦ let z : cond (nat_lt s 18446744073709551615) (s - u) s ≡ s - u =
      cond-true _ _ _ (lt-ltb s 18446744073709551615 m) in let b = h m in z ∙ (omega arith)
  | inr over ↦ let z : cond (nat_lt s 18446744073709551615) (s - u) s ≡ s =
      cond-false _ _ _ (le-ltb s 18446744073709551615 over) in absurd (omega arith)
]
