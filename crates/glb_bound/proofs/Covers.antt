-- Trees of which nothing is worth more than a number.
use Rattle.std.proofs.Common.{◌≡◌, ℕ, zero, suc, ◌≤◌, List, [], ◌∷◌, ◌++◌, subst}
use Rattle.std.proofs.Common.{arith}
use Rattle.std.specs.Prelude.{Contains, All}
use Rattle.std.proofs.lemmas.List.Elements.{All-cons, All-contains}
use Rattle.std.proofs.lemmas.List.Sorted.{All-permutation, IsPermutation-sym}
use Rattle.glb_laws.specs.Tree.{tree, forest}
use Rattle.glb_laws.specs.Expansion.{Expansion, Moves}
use Rattle.glb_bound.proofs.Members.{Contains-none, All-first, All-others, All-left, All-right}
use Rattle.glb_bound.proofs.Members.{forest-member, tree-member, tree-zero, either}

module _ {X : Type 0} (children : X → List X) (worth cap : X → ℕ) where
  -- nothing in the tree is worth more
  abbrev pub IsCovered : ℕ → X → Type 0
  IsCovered most x = (d : ℕ) (y : X) → Contains (tree children x d) y → worth y ≤ most

  -- where the trees of the children are covered, and the item is not worth more, its tree is
  covered_by_children : (most : ℕ) (x : X) → worth x ≤ most
      → All (IsCovered most) (children x) → IsCovered most x
  covered_by_children most x own below zero y h =
      absurd (Contains-none y (subst (λ l. Contains l y) (tree-zero children x) h))
  covered_by_children most x own below (suc d) y h =
      let itself : x ≡ y → worth y ≤ most = λ e. subst (λ z. worth z ≤ most) e own in
      let deeper : Contains (forest children (children x) d) y → worth y ≤ most =
      λ i. let f = forest-member children (children x) d y i in
      All-contains (IsCovered most) (children x) f.0 below f.1 d y f.2 in
      either itself deeper (tree-member children x d y h)

  -- what was taken is not worth more, and what is left is covered: so are all roots
  moves_cover : (most : ℕ) (roots taken left : List X) → Moves children roots taken left
      → All (λ x. worth x ≤ most) taken → All (IsCovered most) left
      → All (IsCovered most) roots
  moves_cover most roots [] left m own below =
      All-permutation (IsCovered most) left roots (IsPermutation-sym roots left m) below
  moves_cover most roots (x ∷ taken) left m own below =
      let Covered : X → Type 0 = IsCovered most in
      let Within : X → Type 0 = λ x. worth x ≤ most in
      let rest : List X = m.0 in
      let next = moves_cover most (children x ++ rest) taken left m.2
      (All-others Within x taken own) below in
      let first = covered_by_children most x (All-first Within x taken own)
      (All-left Covered (children x) rest next) in
      All-permutation Covered (x ∷ rest) roots (IsPermutation-sym roots (x ∷ rest) m.1)
      (All-cons Covered x rest first (All-right Covered (children x) rest next))

  -- the same of an expansion
  pub expansion_covers : (most : ℕ) (roots done left : List X) → Expansion children roots done left
      → All (λ x. worth x ≤ most) done → All (IsCovered most) left
      → All (IsCovered most) roots
  expansion_covers most roots done left e own below =
      moves_cover most roots e.taken left e.moves
      (All-permutation (λ x. worth x ≤ most) done e.taken (IsPermutation-sym _ _ e.order) own) below

  module _ (caps_value : (x : X) → worth x ≤ cap x)
      (caps_children : (x : X) → All (λ c. cap c ≤ cap x) (children x)) where
    -- where the cap is not above a number, the tree is covered
    covered_by_cap : (most : ℕ) (d : ℕ) (x y : X) → cap x ≤ most
        → Contains (tree children x d) y → worth y ≤ most
    covered_by_cap most zero x y h i =
        absurd (Contains-none y (subst (λ l. Contains l y) (tree-zero children x) i))
    covered_by_cap most (suc d) x y h i =
        let itself : x ≡ y → worth y ≤ most =
        λ e. subst (λ z. worth z ≤ most) e (omega (arith, caps_value x)) in
        let deeper : Contains (forest children (children x) d) y → worth y ≤ most =
        λ j. let f = forest-member children (children x) d y j in
        let lower : cap f.0 ≤ cap x =
        All-contains (λ c. cap c ≤ cap x) (children x) f.0 (caps_children x) f.1 in
        covered_by_cap most d f.0 y (omega arith) f.2 in
        either itself deeper (tree-member children x d y i)

    -- where the caps are not above a number, the trees are covered
    pub all_covered_by_cap : (most : ℕ) (xs : List X) → All (λ x. cap x ≤ most) xs
        → All (IsCovered most) xs
    all_covered_by_cap most xs h = λ k e lt d y i. covered_by_cap most d _ y (h k e lt) i
