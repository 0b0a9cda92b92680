-- The items of a list bag.
use Rattle.std.specs.Prelude.{Option, None, Some, List, [], ◌∷◌, ◌++◌}

-- the items of a list, with the one that is held aside, if any, at the end
abbrev pub with_held : {X : Type 0} → List X → Option X → List X
with_held xs None = xs
with_held xs (Some x) = xs ++ x ∷ []
