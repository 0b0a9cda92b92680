-- Sums and greatest values over numbers that count up from 0.
use Rattle.std.specs.Prelude.{ℕ, zero, suc, ◌+◌, max}

-- f 0 + .. + f (n - 1)
abbrev pub sum_to : ℕ → (ℕ → ℕ) → ℕ
sum_to zero f = 0
sum_to (suc n) f = sum_to n f + f n

-- the greatest of f 0 to f (n - 1), and 0 where there are none
abbrev pub greatest_to : ℕ → (ℕ → ℕ) → ℕ
greatest_to zero f = 0
greatest_to (suc n) f = max (greatest_to n f) (f n)
