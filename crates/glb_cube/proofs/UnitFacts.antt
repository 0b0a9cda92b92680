-- What one round of a loop does.
use Rattle.std.specs.Prelude.{List, ◌++◌, Option}
use Rattle.std.proofs.Common.{◌≡◌, inl, inr, ℕ, zero, suc, ◌+◌, ◌-◌, ◌*◌, ◌^◌, ◌<◌, ◌≤◌, refl, ap}
use Rattle.std.proofs.Common.{sym, ◌∙◌, arith, append_assoc, append-nil}
use Rattle.std.proofs.lemmas.Bool.{cases_lt}
use Rattle.std.proofs.Math.Nat.{pow-suc, pow-zero, one-le-pow}
use Rattle.glb_cube.specs.Digits.{target, targets, one_of}
use Rattle.glb_cube.specs.Lines.{IsDimension}
use Rattle.glb_cube.proofs.WayFacts.{targets_more, targets_none}

-- the units of the dimensions are small
pub unit_small : (places base dimension i : ℕ) → IsDimension places base dimension → places ≤ 64
    → i < dimension → base ^ i ≤ 64
unit_small places base dimension zero d few less = omega (arith, pow-zero base)
unit_small places base dimension (suc i) d few less = elim (cases_lt (base ^ suc i) places) [
  | inl small ↦ omega arith
  | inr large ↦ absurd (omega (arith, d.least (suc i) (omega arith) large))
]

pub unit_some : (base i : ℕ) → 2 ≤ base → 1 ≤ base ^ i
unit_some base i two = one-le-pow i base (omega arith)

pub unit_more : (base i j : ℕ) → j ≡ i + 1 → base ^ i * base ≡ base ^ j
unit_more base i j e = sym (pow-suc base i) ∙ ap (λ x. base ^ x) (let f : suc i ≡ j = omega arith in f)

pub targets_round : (places base unit dimension i j p : ℕ) (out all : List ℕ) → i < dimension → j
    ≡ i + 1
    → out ++ targets places base unit (dimension - i) p ≡ all
    → (out ++ one_of (target places base unit p))
    ++ targets places base (unit * base) (dimension - j) p ≡ all
targets_round places base unit dimension i j p out all less e h =
    let more : dimension - i ≡ suc (dimension - j) = omega arith in
    append_assoc out _ _
    ∙ ap (λ x. out ++ x)
    (sym (ap (λ n. targets places base unit n p) more
    ∙ targets_more places base unit (dimension - j) p)) ∙ h

pub power_one : (base : ℕ) → base ≡ base ^ 1
power_one base = let e : 1 ≡ base ^ zero = sym (pow-zero base) in
    let f : base ≡ base ^ zero * base = omega (arith, ap (λ x. x * base) e) in f ∙ sym (pow-suc base zero)

pub targets_end : (places base unit dimension i p : ℕ) (out all : List ℕ) → dimension ≤ i → out
    ++ targets places base unit (dimension - i) p ≡ all → out ≡ all
targets_end places base unit dimension i p out all over h =
    let none : dimension - i ≡ zero = omega arith in
    sym (append-nil out)
    ∙ ap (λ x. out ++ x)
    (sym (ap (λ n. targets places base unit n p) none ∙ targets_none places base unit p)) ∙ h

pub targets_pushed : (places base unit dimension i p : ℕ) (o : Option ℕ) (out new all : List ℕ)
    → i < dimension
    → out ++ targets places base unit (dimension - i) p ≡ all → new ≡ out ++ one_of o
    → o ≡ target places base unit p
    → new ++ targets places base (unit * base) (dimension - (i + 1)) p ≡ all
targets_pushed places base unit dimension i p o out new all less h e f =
    rw e (rw f (targets_round places base unit dimension i (i + 1) p out all less refl h))
