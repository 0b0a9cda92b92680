-- Items dealt out to places, one after the other and round.
use Rattle.std.specs.Prelude.{ℕ, ◌+◌, ◌%◌, ◌==◌, cond, List, [], ◌∷◌}

-- of items that are numbered from `number` on, those whose number modulo `places` is `place`
abbrev pub dealt_from : {X : Type 0} → ℕ → ℕ → ℕ → List X → List X
dealt_from places place number [] = []
dealt_from places place number (x ∷ xs) =
    cond (number % places == place) (x ∷ dealt_from places place (number + 1) xs)
    (dealt_from places place (number + 1) xs)

-- the items of a place, where the first item is numbered 0
abbrev pub dealt : {X : Type 0} → ℕ → List X → ℕ → List X
dealt places items place = dealt_from places place 0 items
