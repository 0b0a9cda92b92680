-- Sums and greatest values of equal and of bounded numbers.
use Rattle.std.proofs.Common.{◌≡◌, ℕ, zero, suc, ◌*◌, ◌<◌, ◌≤◌, refl, ◌∙◌, ap, arith}
use Rattle.std.proofs.Math.Nat.{suc-mul}
use Rattle.glb_laws.specs.Sums.{sum_to, greatest_to}
use Rattle.glb_laws.specs.Tallies.{tallies}

-- equal numbers have one sum
pub sum_to-same : (n : ℕ) (f g : ℕ → ℕ) → ((t : ℕ) → t < n → f t ≡ g t) → sum_to n f ≡ sum_to n g
sum_to-same zero f g e = refl
sum_to-same (suc n) f g e =
    omega (arith, sum_to-same n f g (λ t l. e t (omega arith)), e n (omega arith))

-- equal numbers have one greatest
pub greatest_to-same : (n : ℕ) (f g : ℕ → ℕ) → ((t : ℕ) → t < n → f t ≡ g t)
    → greatest_to n f ≡ greatest_to n g
greatest_to-same zero f g e = refl
greatest_to-same (suc n) f g e =
    omega (arith, greatest_to-same n f g (λ t l. e t (omega arith)), e n (omega arith))

-- a sum is at most so many times the bound of its numbers
pub sum_to-most : (n c : ℕ) (f : ℕ → ℕ) → ((t : ℕ) → t < n → f t ≤ c) → sum_to n f ≤ n * c
sum_to-most zero c f most = omega arith
sum_to-most (suc n) c f most =
    omega (
      arith,
      sum_to-most n c f (λ t l. most t (omega arith)),
      most n (omega arith),
      suc-mul n c,
    )

-- the greatest is at most the bound of the numbers
pub greatest_to-most : (n c : ℕ) (f : ℕ → ℕ) → ((t : ℕ) → t < n → f t ≤ c) → greatest_to n f ≤ c
greatest_to-most zero c f most = omega arith
greatest_to-most (suc n) c f most =
    omega (arith, greatest_to-most n c f (λ t l. most t (omega arith)), most n (omega arith))

-- equal numbers make one value
pub same_tallies : (a a' b b' c c' : ℕ) → a ≡ a' → b ≡ b' → c ≡ c'
    → tallies a b c ≡ tallies a' b' c'
same_tallies a a' b b' c c' p q r =
    ap (λ n. tallies n b c) p ∙ ap (λ n. tallies a' n c) q ∙ ap (tallies a' b') r
