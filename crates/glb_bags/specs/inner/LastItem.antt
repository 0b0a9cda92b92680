-- A list that is worked on at its end.
use Rattle.std.specs.Prelude.{◌≡◌, List, [], ◌∷◌, ◌++◌}

-- the last item is taken out of the list, its children come in its place, and its value is combined
-- into `start`
pub record TakesLast {X V : Type 0} (children : X → List X) (value : X → V) (combine : V → V → V)
    (before : List X) (start : V) (after : List X) (gain : V) : Type 0 where
  pub item : X
  pub rest : List X
  pub before_is : before ≡ rest ++ item ∷ []
  pub after_is : after ≡ rest ++ children item
  pub gain_is : gain ≡ combine start (value item)
