-- Every order of expansion ends in the nodes of the trees.
use Rattle.std.proofs.Common.{◌≡◌, ℕ, zero, suc, ◌≤◌, List, [], ◌∷◌, ◌++◌, length, sym, ap, subst}
use Rattle.std.proofs.Common.{◌∙◌, arith}
use Rattle.std.specs.List.Sorted.{IsPermutation}
use Rattle.std.proofs.lemmas.List.{nil_from_length}
use Rattle.std.proofs.lemmas.List.Sorted.{IsPermutation-refl, IsPermutation-trans}
use Rattle.std.proofs.lemmas.List.Sorted.{IsPermutation-cons, length_permutation}
use Rattle.glb_laws.specs.Tree.{forest, IsSmall, nodes}
use Rattle.glb_laws.specs.Expansion.{Moves, Expansion}
use Rattle.glb_tree.proofs.Forests.{ForestEnds, forest-none, forest-append, forest_size-append}
use Rattle.glb_tree.proofs.Forests.{forest_grows, forest_stays, taken_first}

module _ {X : Type 0} (children : X → List X) where
  -- where an item was taken until nothing was left, what stood beside it ends at each depth that is
  -- enough
  rest_ends : (cs rest taken : List X) (d : ℕ)
      → IsPermutation (forest children (cs ++ rest) d) taken
      → IsPermutation (forest children (cs ++ rest) (suc d)) taken
      → ForestEnds children rest d
  rest_ends cs rest taken d now next =
      let same = length_permutation _ _ now in
      let same_next = length_permutation _ _ next in
      let size = forest_size-append children cs rest in
      omega (
        arith,
        same,
        same_next,
        size d,
        size (suc d),
        forest_grows children d cs,
        forest_grows children d rest,
      )

  -- what was taken until nothing was left is the trees, down to each depth that is enough
  pub moves_end : (roots taken : List X) → Moves children roots taken []
      → (d : ℕ) → length taken ≤ d → IsPermutation (forest children roots d) taken
  moves_end roots [] m d h =
      let e : roots ≡ [] = nil_from_length roots (sym (length_permutation roots [] m)) in
      let none : forest children roots d ≡ [] =
      ap (λ l. forest children l d) e ∙ forest-none children d in
      subst (λ l. IsPermutation l []) (sym none) (IsPermutation-refl [])
  moves_end roots (x ∷ taken) m zero h = absurd (omega arith)
  moves_end roots (x ∷ taken) (rest, s, m) (suc d) h =
      let cs : List X = children x in
      let now = moves_end (cs ++ rest) taken m d (omega arith) in
      let next = moves_end (cs ++ rest) taken m (suc d) (omega arith) in
      let stays = forest_stays children d rest (rest_ends cs rest taken d now next) in
      let below : forest children cs d ++ forest children rest (suc d) ≡ forest children
      (cs ++ rest) d =
      ap (λ l. forest children cs d ++ l) stays ∙ sym (forest-append children cs rest d)
      in
      let first =
      subst (λ l. IsPermutation (forest children roots (suc d)) (x ∷ l)) below
      (taken_first children x roots rest d s)
      in
      IsPermutation-trans _ _ _ first (IsPermutation-cons x _ _ now)

  -- the trees end
  pub ended_small : (roots done : List X) → Expansion children roots done []
      → IsSmall children roots (length done)
  ended_small roots done e =
      let same = length_permutation _ _ e.order in
      let all = moves_end roots e.taken e.moves (suc (length done)) (omega (arith, same)) in
      omega (arith, same, length_permutation _ _ all)

  -- what was taken is the nodes
  pub ended_nodes : (roots done : List X) → Expansion children roots done []
      → IsPermutation (nodes children roots (length done)) done
  ended_nodes roots done e =
      let same = length_permutation _ _ e.order in
      let all = moves_end roots e.taken e.moves (suc (length done)) (omega (arith, same)) in
      IsPermutation-trans _ _ _ all e.order
