-- The greatest of some measures, and the first number that has it.
use Rattle.std.specs.Prelude.{◌≡◌, ℕ, ◌+◌, ◌-◌, ◌/◌, ◌%◌, ◌==◌, nat_lt, min, cond, List, [], ◌∷◌}
use Rattle.std.proofs.Common.{arith, refl}
use Rattle.std.proofs.lemmas.Grind.{common_steps}
use Rattle.glb_laws.specs.Monoid.{MonoidLaws}
use Rattle.glb_laws.specs.Numbers.{count_to}
use Rattle.glb_uses.specs.declared.greatest_first.GreatestFirst.{GreatestFirst}
use Rattle.glb_uses.specs.declared.greatest_first.GreatestFirst.TheVariants.{Nothing, Found}
use Rattle.glb_uses.specs.declared.greatest_first.Span.{Span}

-- the greater of two; of two that are as great, the first
abbrev pub better : GreatestFirst → GreatestFirst → GreatestFirst
better Nothing b = b
better (Found g f) Nothing = Found g f
better (Found g f) (Found h k) =
    cond (nat_lt h g) (Found g f) (cond (nat_lt g h) (Found h k) (Found g (min f k)))

-- it does not matter which two are compared first
better-assoc : (a b c : GreatestFirst) → better a (better b c) ≡ better (better a b) c
better-assoc Nothing b c = refl
better-assoc (Found g f) Nothing c = refl
better-assoc (Found g f) (Found h k) Nothing = grind (arith, common_steps)
better-assoc (Found g f) (Found h k) (Found m n) = grind (arith, common_steps)

-- nor which of two comes first
better-comm : (a b : GreatestFirst) → better a b ≡ better b a
better-comm Nothing Nothing = refl
better-comm Nothing (Found h k) = refl
better-comm (Found g f) Nothing = refl
better-comm (Found g f) (Found h k) = grind (arith, common_steps)

-- nothing is neutral
better-nothing : (a : GreatestFirst) → better a Nothing ≡ a
better-nothing Nothing = refl
better-nothing (Found g f) = refl

-- such values are a monoid; each of them is proper
pub better_laws : MonoidLaws (λ _. Unit {0}) Nothing better
better_laws = record {
  unit_proper = tt;
  combine_proper = λ a b p q. tt;
  left_unit = λ a p. refl;
  right_unit = λ a p. better-nothing a;
  assoc = λ a b c p q r. better-assoc a b c;
  comm = λ a b p q. better-comm a b;
}

-- the numbers in two halves, where there are two
abbrev pub halves : Span → List Span
halves x = cond (nat_lt 1 (x.to - x.from))
    (record { from = x.from; to = x.from + (x.to - x.from) / 2 }
    ∷ record { from = x.from + (x.to - x.from) / 2; to = x.to } ∷ []) []

-- how many numbers divide it
abbrev pub divisors : ℕ → ℕ
divisors n = count_to n (λ d. n % (d + 1) == 0)

-- a number alone, with its divisors
abbrev pub alone : Span → GreatestFirst
alone x = cond (x.to - x.from == 1) (Found (divisors x.from) x.from) Nothing
