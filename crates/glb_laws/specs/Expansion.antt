-- Expansion: one item after another is taken out of a list, and its children are put in. Lists
-- are taken up to order.
use Rattle.std.specs.Prelude.{◌≡◌, ℕ, List, [], ◌∷◌, ◌++◌, length, fold, IsPermutation}

-- taking the items of `taken` one after the other, the first of them first, and putting the
-- children of each in, leads from `before` to `after`
abbrev pub Moves : {X : Type 0} → (X → List X) → List X → List X → List X → Type 0
Moves children before [] after = IsPermutation before after
Moves {X} children before (x ∷ taken) after =
    (rest : List X) × IsPermutation before (x ∷ rest)
    × Moves children (children x ++ rest) taken after

-- of the trees of `roots` the items in `done` were taken, in some order, and those in `left` are
-- still to take
pub record Expansion {X : Type 0} (children : X → List X) (roots done left : List X) : Type 0 where
  pub taken : List X
  pub order : IsPermutation taken done
  pub moves : Moves children roots taken left

-- the values of the items, combined one after the other into `start`
abbrev pub combined : {X V : Type 0} → (X → V) → (V → V → V) → V → List X → V
combined value combine start xs = fold (λ a x. combine a (value x)) start xs

-- `count` moves lead from `before` to `after`, and the values of the items that they take were
-- combined into `start`, which gave `gain`
pub record Expands {X V : Type 0} (children : X → List X) (value : X → V) (combine : V → V → V)
    (before : List X) (start : V) (count : ℕ) (after : List X) (gain : V) : Type 0 where
  pub taken : List X
  pub number : length taken ≡ count
  pub moves : Moves children before taken after
  pub value_is : gain ≡ combined value combine start taken
