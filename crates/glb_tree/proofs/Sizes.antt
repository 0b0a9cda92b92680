-- No order of expansion takes more than the nodes of the trees.
use Rattle.std.proofs.Common.{ℕ, zero, suc, ◌+◌, ◌<◌, ◌≤◌, List, [], ◌∷◌, ◌++◌, length, ap, arith}
use Rattle.std.proofs.Common.{length-append}
use Rattle.std.specs.List.Sorted.{IsPermutation}
use Rattle.std.proofs.lemmas.List.Sorted.{length_permutation}
use Rattle.glb_laws.specs.Tree.{forest, IsSmall}
use Rattle.glb_laws.specs.Expansion.{Moves, Expansion}
use Rattle.glb_tree.proofs.Forests.{forest_size, forest_size-cons, forest_size-append}
use Rattle.glb_tree.proofs.Forests.{tree_size-suc, forest_same, forest_grows, taken_first}
use Rattle.glb_tree.proofs.Forests.{small_settles}

module _ {X : Type 0} (children : X → List X) where
  -- each root is a member
  forest_wide : (rs : List X) (d : ℕ) → length rs ≤ forest_size children rs (suc d)
  forest_wide [] d = omega arith
  forest_wide (r ∷ rs) d =
      omega (
        arith,
        forest_wide rs d,
        forest_size-cons children r rs (suc d),
        tree_size-suc children r d,
      )

  -- what was taken and what is left is no more than the trees, down to each depth that is enough
  pub moves_within : (roots taken left : List X) → Moves children roots taken left
      → (d : ℕ) → length taken < d → length taken + length left ≤ forest_size children roots d
  moves_within roots taken left m zero h = absurd (omega arith)
  moves_within roots [] left m (suc d) h =
      omega (arith, length_permutation roots left m, forest_wide roots d)
  moves_within roots (x ∷ taken) left t (suc d) h =
      let cs : List X = children x in
      let rest : List X = t.0 in
      let s : IsPermutation roots (x ∷ rest) = t.1 in
      let m : Moves children (cs ++ rest) taken left = t.2 in
      let below = moves_within (cs ++ rest) taken left m d (omega arith) in
      let first = length_permutation _ _ (taken_first children x roots rest d s) in
      let parts = length-append (forest children cs d) (forest children rest (suc d)) in
      omega (
        arith,
        below,
        first,
        parts,
        forest_size-append children cs rest d,
        forest_grows children d rest,
      )

  -- what was done and what is left is no more than the nodes
  pub never_more : (roots done left : List X) (most : ℕ) → Expansion children roots done left
      → IsSmall children roots most → length done + length left ≤ most
  never_more roots done left most e small =
      let number = length_permutation _ _ e.order in
      let deep : ℕ = suc (length e.taken) in
      let same = ap length
      (forest_same children deep (suc most) roots (small_settles children roots most small)) in
      omega (
        arith,
        number,
        moves_within roots e.taken left e.moves (deep + suc most) (omega arith),
        same,
      )
