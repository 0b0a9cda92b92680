-- The optimum of a knapsack, over all choices of lines.
use Rattle.std.specs.Prelude.{◌≡◌, ◌⊎◌, ℕ, ◌+◌, ◌≤◌, List, [], ◌∷◌}

-- some choice of the lines, each a weight and a value, has this weight and this value: the first
-- line is left out of it, or is in it
abbrev pub IsChoice : List (ℕ × ℕ) → ℕ → ℕ → Type 0
IsChoice [] weight value = (weight ≡ 0) × (value ≡ 0)
IsChoice (line ∷ lines) weight value = IsChoice lines weight value
    ⊎ ((w : ℕ) × (v : ℕ) × IsChoice lines w v
    × (weight ≡ line.0 + w) × (value ≡ line.1 + v))

-- the greatest value of a choice of lines that are not heavier than the capacity together
pub record IsOptimum (capacity : ℕ) (lines : List (ℕ × ℕ)) (most : ℕ) : Type 0 where
  pub bound : (weight value : ℕ) → IsChoice lines weight value → weight ≤ capacity → value ≤ most
  pub attained : (weight : ℕ) × IsChoice lines weight most × (weight ≤ capacity)
