-- Lists joined by number.
use Rattle.std.specs.Prelude.{ℕ, zero, suc, List, [], ◌++◌}

-- the lists f 0 to f (n - 1), joined
abbrev pub join_to : {I : Type 0} → ℕ → (ℕ → List I) → List I
join_to zero f = []
join_to (suc n) f = join_to n f ++ f n
