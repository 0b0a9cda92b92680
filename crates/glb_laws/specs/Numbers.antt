-- Lists of numbers, and paths over numbers.
use Rattle.std.specs.Prelude.{◌≡◌, ⊤, ℕ, zero, suc, ◌+◌, ◌==◌, Bool, true, false, cond, List, []}
use Rattle.std.specs.Prelude.{◌∷◌}

-- whether the number stands in the list
abbrev pub has_number : ℕ → List ℕ → Bool
has_number n [] = false
has_number n (m ∷ ms) = cond (n == m) true (has_number n ms)

-- no number stands twice in the list
abbrev pub IsDistinct : List ℕ → Type 0
IsDistinct [] = ⊤
IsDistinct (x ∷ xs) = (has_number x xs ≡ false) × IsDistinct xs

-- how many of the numbers below `bound` pass the test
abbrev pub count_to : ℕ → (ℕ → Bool) → ℕ
count_to zero f = 0
count_to (suc n) f = count_to n f + cond (f n) 1 0

-- each next place stands to the one before as `Line` says, from `a` over `ps` to `b`, which is the
-- last of them
abbrev pub IsPath : (ℕ → ℕ → Type 0) → ℕ → List ℕ → ℕ → Type 0
IsPath Line a [] b = a ≡ b
IsPath Line a (p ∷ ps) b = Line a p × IsPath Line p ps b
