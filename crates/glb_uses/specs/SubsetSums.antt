-- Choices of some weights, and how many of them add up to a target.
use Rattle.std.specs.Prelude.{◌≡◌, ℕ, ◌+◌, ◌-◌, ◌^◌, ◌==◌, nat_lt, min, cond, List, [], ◌∷◌, ◌++◌}
use Rattle.std.specs.Prelude.{length, map, slice_index}
use Rattle.std.specs.Prelude.{◌<◌, Bool, true, false}
use Rattle.std.specs.List.{sum, count_by}
use Rattle.std.proofs.Common.{arith}
use Rattle.glb_laws.specs.Bounded.{capped_sum, sat_sum}
use Rattle.glb_laws.specs.Tree.{IsSmall, answer}
use Rattle.glb_laws.specs.declared.sat_sum.SatSum.{SatSum}
use Rattle.glb_uses.specs.declared.subset_sums.Undecided.{Undecided}

-- no weight is chosen or left yet, and the whole target is missing
abbrev pub undecided : ℕ → Undecided
undecided target = record { next = 0; missing = target }

-- the next weight is left, so that as much is missing
abbrev pub left : Undecided → Undecided
left x = record { next = x.next + 1; missing = x.missing }

-- a weight is chosen as the next one
abbrev pub chosen : Undecided → ℕ → Undecided
chosen x weight = record { next = x.next + 1; missing = x.missing - weight }

-- the next weight is left, or chosen where it is not more than what is missing
abbrev pub further : List ℕ → Undecided → List Undecided
further weights x = cond (nat_lt x.next (length weights))
    (left x ∷ cond (nat_lt x.missing (slice_index weights x.next)) []
    (chosen x (slice_index weights x.next) ∷ []))
    []

-- 1 where every weight is decided and nothing is missing, else 0
abbrev pub worth : List ℕ → Undecided → SatSum
worth weights x = sat_sum (cond (nat_lt x.next (length weights)) 0 (cond (x.missing == 0) 1 0))

-- 0 or a bit is a value of 64 bits
bit_small : (a b : Bool) → cond a 0 (cond b 1 0) < 2 ^ 64
bit_small true b = omega arith
bit_small false true = omega arith
bit_small false false = omega arith

-- so is each worth
pub worth_proper : (weights : List ℕ) (x : Undecided) → (worth weights x).0 < 2 ^ 64
worth_proper weights x = bit_small (nat_lt x.next (length weights)) (x.missing == 0)

-- all choices of some of the weights
abbrev pub choices : List ℕ → List (List ℕ)
choices [] = [] ∷ []
choices (weight ∷ weights) = choices weights ++ map (λ c. weight ∷ c) (choices weights)

-- how many of them add up to the target
abbrev pub count_of_sums : List ℕ → ℕ → ℕ
count_of_sums weights target = count_by (λ c. sum c == target) (choices weights)

-- that number, or 2 ^ 64 - 1 where it is more
abbrev pub sums : List ℕ → ℕ → SatSum
sums weights target = sat_sum (min (count_of_sums weights target) (2 ^ 64 - 1))

-- the answer of the root's tree, where it is within a limit, is how many choices add up to the
-- target
abbrev pub CountsSums : List ℕ → Undecided → ℕ → Type 0
CountsSums weights root target =
    (limit : ℕ) → IsSmall (further weights) (root ∷ []) limit
    → answer (further weights) (worth weights) (sat_sum 0)
    (λ a b. sat_sum (capped_sum a.0 b.0)) (root ∷ []) limit
    ≡ sums weights target
