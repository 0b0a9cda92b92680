-- A tree is its root and the trees of the root's children, dealt out to places.
use Rattle.std.proofs.Common.{◌≡◌, ℕ, suc, ◌<◌, ◌↔◌, List, [], ◌∷◌, ◌++◌}
use Rattle.std.proofs.Common.{sym, ap, subst, ◌∙◌, arith, append-nil}
use Rattle.std.specs.List.Sorted.{IsPermutation}
use Rattle.std.proofs.lemmas.List.Sorted.{length_permutation, IsPermutation-cons, IsPermutation-sym}
use Rattle.glb_laws.specs.Monoid.{MonoidLaws}
use Rattle.glb_laws.specs.Expansion.{combined}
use Rattle.glb_laws.specs.Joins.{join_to}
use Rattle.glb_laws.specs.Tree.{forest, IsSmall, nodes, answer}
use Rattle.glb_laws.proofs.Shuffles.{combined_permutation, combined_after}
use Rattle.glb_tree.specs.Spread.{dealt}
use Rattle.glb_tree.proofs.Dealing.{joined_dealt}
use Rattle.glb_tree.proofs.Forests.{tree-suc, forest-none, forest-cons, forest-IsPermutation}

module _ {X : Type 0} (children : X → List X) where
  -- the tree of one root
  alone : (root : X) (d : ℕ)
      → forest children (root ∷ []) (suc d) ≡ root ∷ forest children (children root) d
  alone root d =
      forest-cons children root [] (suc d)
      ∙ ap (λ l. l ++ forest children [] (suc d)) (tree-suc children root d)
      ∙ ap (λ l. (root ∷ forest children (children root) d) ++ l) (forest-none children (suc d))
      ∙ append-nil (root ∷ forest children (children root) d)

  -- the trees of the children, and those of the lists of all places
  pub below : (root : X) (places most : ℕ) → 0 < places
      → IsPermutation (nodes children (join_to places (dealt places (children root))) most)
      (nodes children (children root) most)
  below root places most some =
      forest-IsPermutation children _ _ (suc most) (joined_dealt places some (children root))

  -- the nodes are the root and those of the lists
  pub spread_nodes : (root : X) (places most : ℕ) → 0 < places
      → IsPermutation (nodes children (root ∷ []) (suc most))
      (root ∷ nodes children (join_to places (dealt places (children root))) most)
  spread_nodes root places most some =
      subst (λ l. IsPermutation l (root ∷ nodes children (join_to places (dealt places (children root))) most))
      (sym (alone root (suc most)))
      (IsPermutation-cons root _ _ (IsPermutation-sym _ _ (below root places most some)))

  -- the tree is small where those of the lists are
  pub spread_small : (root : X) (places most : ℕ) → 0 < places
      → IsSmall children (root ∷ []) (suc most)
      ↔ IsSmall children (join_to places (dealt places (children root))) most
  spread_small root places most some =
      let same = length_permutation _ _ (spread_nodes root places most some) in
      (λ h. omega (arith, h, same), λ h. omega (arith, h, same))

module _ {X V : Type 0} (children : X → List X) (value : X → V) {IsProper : V → Type 0}
    {unit : V} {combine : V → V → V} (laws : MonoidLaws IsProper unit combine)
    (proper : (x : X) → IsProper (value x)) where
  -- the answer is the root's value and that of the lists
  pub spread_answer : (root : X) (places most : ℕ) → 0 < places
      → answer children value unit combine (root ∷ []) (suc most)
      ≡ combine (value root) (answer children value unit combine
      (join_to places (dealt places (children root))) most)
  spread_answer root places most some =
      let rest : List X = nodes children (join_to places (dealt places (children root))) most in
      combined_permutation laws value proper _ _ (spread_nodes children root places most some) unit
      laws.unit_proper
      ∙ ap (λ s. combined value combine s rest) (laws.left_unit (value root) (proper root))
      ∙ sym (combined_after laws value proper rest (value root) (proper root))
