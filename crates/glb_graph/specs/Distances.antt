-- The distance as a function, and the value of a vertex.
use Rattle.std.specs.Prelude.{ℕ, zero, suc, ◌-◌, ◌^◌, ◌==◌, min, Bool, true, false, cond, List, []}
use Rattle.std.specs.Prelude.{◌∷◌, length, Option, None, Some}
use Rattle.glb_laws.specs.Sums.{sum_to, greatest_to}
use Rattle.glb_laws.specs.Tallies.{Tallies, tallies}
use Rattle.glb_graph.specs.Rows.{targets_of}

-- some element passes the test
unfoldable pub any_of : (ℕ → Bool) → List ℕ → Bool
any_of test [] = false
any_of test (x ∷ xs) = cond (test x) true (any_of test xs)

-- whether a walk of so many edges leads there
unfoldable pub is_walk : List (List ℕ) → ℕ → ℕ → ℕ → Bool
is_walk rows s t zero = s == t
is_walk rows s t (suc n) = any_of (λ m. is_walk rows m t n) (targets_of rows s)

-- the first one of two, where it is there
unfoldable pub or_else : Option ℕ → Option ℕ → Option ℕ
or_else None other = other
or_else (Some n) other = Some n

-- the first number below `n` that passes the test
unfoldable pub first_below : (ℕ → Bool) → ℕ → Option ℕ
first_below test zero = None
first_below test (suc n) = or_else (first_below test n) (cond (test n) (Some n) None)

-- the least number of edges of a walk from s to t: where there is a walk at all, there is one with
-- fewer edges than there are vertices
unfoldable pub distance : List (List ℕ) → ℕ → ℕ → Option ℕ
distance rows s t = first_below (is_walk rows s t) (length rows)

-- one for a vertex other than s that is reached
unfoldable pub one_for : ℕ → ℕ → Option ℕ → ℕ
one_for s t None = 0
one_for s t (Some d) = cond (t == s) 0 1

-- the distance of a vertex that is reached, and 0 for one that is not
unfoldable pub steps_for : Option ℕ → ℕ
steps_for None = 0
steps_for (Some d) = d

-- of the vertices below n, how many others than s are reached
abbrev pub reached_of : (ℕ → Option ℕ) → ℕ → ℕ → ℕ
reached_of far s n = sum_to n (λ t. one_for s t (far t))

-- of the vertices below n that are reached, the sum of the distances
abbrev pub sum_of : (ℕ → Option ℕ) → ℕ → ℕ
sum_of far n = sum_to n (λ t. steps_for (far t))

-- of the vertices below n that are reached, the greatest distance
abbrev pub greatest_of : (ℕ → Option ℕ) → ℕ → ℕ
greatest_of far n = greatest_to n (λ t. steps_for (far t))

-- the number, or the last one of 64 bits
abbrev pub capped : ℕ → ℕ
capped n = min n (2 ^ 64 - 1)

-- of the vertices below n, how many others than s are reached, the sum of their distances and the
-- greatest of these
abbrev pub value_of : (ℕ → Option ℕ) → ℕ → ℕ → Tallies
value_of far s n =
    tallies (capped (reached_of far s n)) (capped (sum_of far n)) (capped (greatest_of far n))
