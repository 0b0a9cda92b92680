-- Where a run of one root begins.
use Rattle.std.specs.Prelude.{ℕ, zero, suc, List, [], ◌∷◌}

-- the root at place 0, and nothing elsewhere
abbrev pub at_first : {X : Type 0} → X → ℕ → List X
at_first root zero = root ∷ []
at_first root (suc p) = []
