-- Two monoids over the numbers below 2 ^ 64: a sum that stops at 2 ^ 64 - 1, and the greatest.
use Rattle.std.specs.Prelude.{ℕ, ◌+◌, ◌-◌, ◌^◌, ◌<◌, min, max}
use Rattle.std.proofs.Common.{ap, arith}
use Rattle.glb_laws.specs.Monoid.{MonoidLaws}
use Rattle.glb_laws.specs.declared.sat_sum.SatSum.{SatSum}
use Rattle.glb_laws.specs.declared.greatest.Greatest.{Greatest}

-- the sum, or 2 ^ 64 - 1 where that is less
abbrev pub capped_sum : ℕ → ℕ → ℕ
capped_sum a b = min (a + b) (2 ^ 64 - 1)

-- the value with this sum
abbrev pub sat_sum : ℕ → SatSum
sat_sum n = record { 0 = n }

-- the value with this greatest number
abbrev pub greatest : ℕ → Greatest
greatest n = record { 0 = n }

-- such sums are a monoid
pub sat_sum_laws : MonoidLaws {V = SatSum} (λ a. a.0 < 2 ^ 64) (sat_sum 0)
    (λ a b. sat_sum (capped_sum a.0 b.0))
sat_sum_laws = record {
  unit_proper = omega arith;
  combine_proper = λ a b p q. omega arith;
  left_unit = λ a p. ap sat_sum (omega arith);
  right_unit = λ a p. ap sat_sum (omega arith);
  assoc = λ a b c p q r. ap sat_sum (omega arith);
  comm = λ a b p q. ap sat_sum (omega arith);
}

-- the greatest is a monoid
pub greatest_laws : MonoidLaws {V = Greatest} (λ a. a.0 < 2 ^ 64) (greatest 0)
    (λ a b. greatest (max a.0 b.0))
greatest_laws = record {
  unit_proper = omega arith;
  combine_proper = λ a b p q. omega arith;
  left_unit = λ a p. ap greatest (omega arith);
  right_unit = λ a p. ap greatest (omega arith);
  assoc = λ a b c p q r. ap greatest (omega arith);
  comm = λ a b p q. ap greatest (omega arith);
}
