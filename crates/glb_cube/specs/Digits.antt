-- Digits of a place in a base, and where the lifeline of a place in one dimension leads. A
-- dimension is named by its unit: the power of the base that its digit counts.
use Rattle.std.specs.Prelude.{ℕ, zero, suc, ◌+◌, ◌-◌, ◌*◌, ◌/◌, ◌%◌, cond, nat_lt, Option, Some}
use Rattle.std.specs.Prelude.{None, List, [], ◌∷◌, ◌++◌}

abbrev pub digit : ℕ → ℕ → ℕ → ℕ
digit base unit p = (p / unit) % base

-- the number with the digit raised by 1 modulo the base
abbrev pub successor : ℕ → ℕ → ℕ → ℕ
successor base unit p = cond (nat_lt (digit base unit p + 1) base) (p + unit)
    (p - digit base unit p * unit)

-- the first number below `places`, if there is one, that raising the digit again and again reaches
-- in so many tries
unfoldable pub first_below : ℕ → ℕ → ℕ → ℕ → ℕ → Option ℕ
first_below places base unit p zero = None
first_below places base unit p (suc tries) =
    cond (nat_lt (successor base unit p) places) (Some (successor base unit p))
    (first_below places base unit (successor base unit p) tries)

-- where the lifeline of a place in the dimension leads
abbrev pub target : ℕ → ℕ → ℕ → ℕ → Option ℕ
target places base unit p = first_below places base unit p (base - 1)

-- the number alone, or nothing
abbrev pub one_of : Option ℕ → List ℕ
one_of None = []
one_of (Some q) = q ∷ []

-- where the lifelines in so many dimensions lead, from the one with this unit on, by rising
-- dimension
unfoldable pub targets : ℕ → ℕ → ℕ → ℕ → ℕ → List ℕ
targets places base unit zero p = []
targets places base unit (suc dimensions) p =
    one_of (target places base unit p) ++ targets places base (unit * base) dimensions p
