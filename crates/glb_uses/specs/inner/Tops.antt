-- What a stack does when its top is taken.
use Rattle.std.specs.Prelude.{◌≡◌, Bool, true, false, List, [], ◌∷◌, ◌++◌}

-- the last item, if any, is taken off the list, its children come in its place, and its value is
-- combined into `start`
abbrev pub TakesTop : {X V : Type 0} → (X → List X) → (X → V) → (V → V → V) → List X → V → Bool
    → List X → V → Type 0
TakesTop children value combine before start false after gain =
    (before ≡ []) × (after ≡ []) × (gain ≡ start)
TakesTop {X} children value combine before start true after gain =
    (rest : List X) × (item : X) × (before ≡ rest ++ item ∷ [])
    × (after ≡ rest ++ children item) × (gain ≡ combine start (value item))
