-- A walk through a tree that leaves out what cannot be better.
use Rattle.std.specs.Prelude.{◌≡◌, ◌⊎◌, ℕ, ◌≤◌, List, [], ◌∷◌, ◌++◌, length, max, All}
use Rattle.glb_laws.specs.Expansion.{Expansion}
use Rattle.glb_bound.specs.Best.{IsNode}
use Rattle.glb_bound.specs.declared.search.Best.{Best}

-- a visit of x, with `before` waiting and the best `old`: the children of x wait too, or they are
-- left out, since no item of their trees is worth more than the best so raised
pub record Visits {X : Type 0} (children : X → List X) (worth cap : X → ℕ) (x : X)
    (before after : List X) (old new : ℕ) : Type 0 where
  pub waiting : (after ≡ before ++ children x) ⊎ ((after ≡ before) × (cap x ≤ new))
  pub raised : new ≡ max old (worth x)

-- of the trees of `roots` so many items were visited, those in `waiting` are still to visit, and
-- nothing that was visited or left out is worth more than `most`
pub record IsWalked {X : Type 0} (children : X → List X) (worth cap : X → ℕ) (roots : List X)
    (visited : ℕ) (waiting : List X) (most : ℕ) : Type 0 where
  pub done : List X
  pub skipped : List X
  pub number : length done ≡ visited
  pub expansion : Expansion children roots done (waiting ++ skipped)
  pub bounded : All (λ x. worth x ≤ most) done
  pub covered : All (λ x. cap x ≤ most) skipped

-- a walk of a root's tree that has left nothing out, and the best of what was visited
pub record IsOpened {X : Type 0} (children : X → List X) (worth cap : X → ℕ) (root : X)
    (visited : ℕ) (waiting : List X) (best : Best X) : Type 0 where
  pub walked : IsWalked children worth cap (root ∷ []) visited waiting best.worth
  pub node : IsNode children root best.item
  pub worth_is : worth best.item ≡ best.worth

-- the best stays, or is the item x
abbrev pub TakesBest : {X : Type 0} → (X → ℕ) → X → X → ℕ → X → ℕ → Type 0
TakesBest worth x old_item old new_item new =
    ((new_item ≡ old_item) × (new ≡ old)) ⊎ ((new_item ≡ x) × (new ≡ worth x))
