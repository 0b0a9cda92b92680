-- The best of a tree: the greatest worth that one of its nodes has. The tree need not end.
use Rattle.std.specs.Prelude.{◌≡◌, ℕ, ◌≤◌, List, Contains}
use Rattle.glb_laws.specs.Tree.{tree}
use Rattle.glb_laws.specs.declared.greatest.Greatest.{Greatest}

-- the number in an item's value
abbrev pub worth_of : {X : Type 0} → (X → Greatest) → X → ℕ
worth_of value x = (value x).0

-- the item is a node of the root's tree, at some depth
abbrev pub IsNode : {X : Type 0} → (X → List X) → X → X → Type 0
IsNode children root x = (depth : ℕ) × Contains (tree children root depth) x

-- no node of the root's tree, however deep it lies, is worth more, and some node is worth that much
pub record IsBest {X : Type 0} (children : X → List X) (worth : X → ℕ) (root : X) (most : ℕ)
    : Type 0 where
  pub bound : (depth : ℕ) (x : X) → Contains (tree children root depth) x → worth x ≤ most
  pub attained : (depth : ℕ) × (x : X) × Contains (tree children root depth) x × (worth x ≡ most)
