-- Trees down to a depth: they grow with the depth until they have ended, and then they stay as they
-- are.
use Rattle.std.proofs.Common.{◌≡◌, ℕ, zero, suc, ◌+◌, ◌-◌, ◌≤◌, ◌⊎◌, inl, inr, List, [], ◌∷◌, ◌++◌}
use Rattle.std.proofs.Common.{length, refl, sym, ap, subst, ◌∙◌, arith, length-append}
use Rattle.std.specs.List.Sorted.{IsPermutation}
use Rattle.std.proofs.lemmas.List.Concat.{flat_map-append}
use Rattle.glb_laws.specs.Tree.{tree, forest, IsSmall, nodes}
use Rattle.glb_laws.proofs.Shuffles.{IsPermutation-flat_map}

module _ {X : Type 0} (children : X → List X) where
  -- how many members a tree has, down to a depth
  abbrev tree_size : X → ℕ → ℕ
  tree_size x d = length (tree children x d)

  -- how many members the trees of the roots have together
  abbrev pub forest_size : List X → ℕ → ℕ
  forest_size rs d = length (forest children rs d)

  -- one step deeper there is no more
  abbrev TreeEnds : X → ℕ → Type 0
  TreeEnds x d = tree_size x (suc d) ≤ tree_size x d

  -- one step deeper there is no more below any root
  abbrev pub ForestEnds : List X → ℕ → Type 0
  ForestEnds rs d = forest_size rs (suc d) ≤ forest_size rs d

  -- the first step of a tree
  pub tree-suc : (x : X) (d : ℕ) → tree children x (suc d) ≡ x ∷ forest children (children x) d
  unfolding tree forest
  tree-suc x d = refl

  -- no step, no tree
  tree-zero : (x : X) → tree children x zero ≡ []
  unfolding tree
  tree-zero x = refl

  -- no root, no tree
  pub forest-none : (d : ℕ) → forest children [] d ≡ []
  unfolding forest
  forest-none d = refl

  -- the trees of a root and of the others
  pub forest-cons : (r : X) (rs : List X) (d : ℕ)
      → forest children (r ∷ rs) d ≡ tree children r d ++ forest children rs d
  unfolding forest
  forest-cons r rs d = refl

  -- the trees of some roots and of others
  pub forest-append : (rs ss : List X) (d : ℕ)
      → forest children (rs ++ ss) d ≡ forest children rs d ++ forest children ss d
  unfolding forest
  forest-append rs ss d = flat_map-append (λ r. tree children r d) rs ss

  -- roots in another order have their trees in another order
  pub forest-IsPermutation : (rs ss : List X) (d : ℕ) → IsPermutation rs ss
      → IsPermutation (forest children rs d) (forest children ss d)
  unfolding forest
  forest-IsPermutation rs ss d s = IsPermutation-flat_map (λ r. tree children r d) rs ss s

  -- the first step of a tree is one member
  pub tree_size-suc : (x : X) (d : ℕ) → tree_size x (suc d) ≡ 1 + forest_size (children x) d
  tree_size-suc x d = ap length (tree-suc x d) ∙ omega arith

  -- sizes of trees add up
  pub forest_size-cons : (r : X) (rs : List X) (d : ℕ)
      → forest_size (r ∷ rs) d ≡ tree_size r d + forest_size rs d
  forest_size-cons r rs d =
      ap length (forest-cons r rs d) ∙ length-append (tree children r d) (forest children rs d)

  -- sizes of the trees of some roots and of others add up
  pub forest_size-append : (rs ss : List X) (d : ℕ)
      → forest_size (rs ++ ss) d ≡ forest_size rs d + forest_size ss d
  forest_size-append rs ss d =
      ap length (forest-append rs ss d)
      ∙ length-append (forest children rs d) (forest children ss d)

  -- one step deeper there is no less, if that holds of each tree
  forest_grows_by : (d : ℕ) → ((x : X) → tree_size x d ≤ tree_size x (suc d))
      → (rs : List X) → forest_size rs d ≤ forest_size rs (suc d)
  forest_grows_by d grows [] = omega (arith, ap length (forest-none d))
  forest_grows_by d grows (r ∷ rs) =
      omega (
        arith,
        grows r,
        forest_grows_by d grows rs,
        forest_size-cons r rs d,
        forest_size-cons r rs (suc d),
      )

  -- one step deeper a tree has no less
  tree_grows : (d : ℕ) (x : X) → tree_size x d ≤ tree_size x (suc d)
  tree_grows zero x = omega (arith, ap length (tree-zero x))
  tree_grows (suc d) x =
      omega (
        arith,
        tree_size-suc x d,
        tree_size-suc x (suc d),
        forest_grows_by d (tree_grows d) (children x),
      )

  -- one step deeper there is no less
  pub forest_grows : (d : ℕ) (rs : List X) → forest_size rs d ≤ forest_size rs (suc d)
  forest_grows d rs = forest_grows_by d (tree_grows d) rs

  -- where all trees together end, the first one ends
  first_ends : (d : ℕ) (r : X) (rs : List X) → ForestEnds (r ∷ rs) d → TreeEnds r d
  first_ends d r rs h =
      omega (
        arith,
        tree_grows d r,
        forest_grows d rs,
        forest_size-cons r rs d,
        forest_size-cons r rs (suc d),
      )

  -- where all trees together end, the others end
  others_end : (d : ℕ) (r : X) (rs : List X) → ForestEnds (r ∷ rs) d → ForestEnds rs d
  others_end d r rs h =
      omega (
        arith,
        tree_grows d r,
        forest_grows d rs,
        forest_size-cons r rs d,
        forest_size-cons r rs (suc d),
      )

  -- where the trees end, one step deeper they are the same list, if that holds of each tree
  forest_stays_by : (d : ℕ)
      → ((x : X) → TreeEnds x d → tree children x (suc d) ≡ tree children x d)
      → (rs : List X) → ForestEnds rs d → forest children rs (suc d) ≡ forest children rs d
  forest_stays_by d stays [] h = forest-none (suc d) ∙ sym (forest-none d)
  forest_stays_by d stays (r ∷ rs) h =
      forest-cons r rs (suc d)
      ∙ ap (λ l. l ++ forest children rs (suc d)) (stays r (first_ends d r rs h))
      ∙ ap (λ l. tree children r d ++ l) (forest_stays_by d stays rs (others_end d r rs h))
      ∙ sym (forest-cons r rs d)

  -- where a tree ends, one step deeper it is the same list
  tree_stays : (d : ℕ) (x : X) → TreeEnds x d → tree children x (suc d) ≡ tree children x d
  tree_stays zero x h = absurd (omega (arith, tree_size-suc x zero, ap length (tree-zero x)))
  tree_stays (suc d) x h =
      let below : ForestEnds (children x) d =
      omega (arith, tree_size-suc x d, tree_size-suc x (suc d)) in
      tree-suc x (suc d)
      ∙ ap (λ l. x ∷ l) (forest_stays_by d (tree_stays d) (children x) below)
      ∙ sym (tree-suc x d)

  -- where the trees end, one step deeper they are the same list
  pub forest_stays : (d : ℕ) (rs : List X) → ForestEnds rs d
      → forest children rs (suc d) ≡ forest children rs d
  forest_stays d rs h = forest_stays_by d (tree_stays d) rs h

  -- trees that end have ended one step deeper too, if that holds of each tree
  forest_settles_by : (d : ℕ) → ((x : X) → TreeEnds x d → TreeEnds x (suc d))
      → (rs : List X) → ForestEnds rs d → ForestEnds rs (suc d)
  forest_settles_by d settles [] h = omega (arith, ap length (forest-none (suc (suc d))))
  forest_settles_by d settles (r ∷ rs) h =
      let first = settles r (first_ends d r rs h) in
      let others = forest_settles_by d settles rs (others_end d r rs h) in
      omega (
        arith,
        first,
        others,
        forest_size-cons r rs (suc d),
        forest_size-cons r rs (suc (suc d)),
      )

  -- a tree that ends has ended one step deeper too
  tree_settles : (d : ℕ) (x : X) → TreeEnds x d → TreeEnds x (suc d)
  tree_settles zero x h = absurd (omega (arith, tree_size-suc x zero, ap length (tree-zero x)))
  tree_settles (suc d) x h =
      let below : ForestEnds (children x) d =
      omega (arith, tree_size-suc x d, tree_size-suc x (suc d)) in
      let deeper = forest_settles_by d (tree_settles d) (children x) below in
      omega (arith, deeper, tree_size-suc x (suc d), tree_size-suc x (suc (suc d)))

  -- trees that end have ended at each greater depth too
  settled : (n d : ℕ) (rs : List X) → ForestEnds rs d → ForestEnds rs (n + d)
  settled zero d rs h = subst (ForestEnds rs) (omega arith) h
  settled (suc n) d rs h =
      let e : suc (n + d) ≡ suc n + d = omega arith in
      subst (ForestEnds rs) e
      (forest_settles_by (n + d) (tree_settles (n + d)) rs (settled n d rs h))

  -- trees that end are the same list at each greater depth
  pub forest_same : (n d : ℕ) (rs : List X) → ForestEnds rs d
      → forest children rs (n + d) ≡ forest children rs d
  forest_same zero d rs h = ap (forest children rs) (omega arith)
  forest_same (suc n) d rs h =
      let e : suc n + d ≡ suc (n + d) = omega arith in
      ap (forest children rs) e ∙ forest_stays (n + d) rs (settled n d rs h) ∙ forest_same n d rs h

  -- a depth has as many members as steps, or the trees end there, if that holds of each tree
  forest_deep_by : (d : ℕ) → ((x : X) → (d ≤ tree_size x d) ⊎ TreeEnds x d)
      → (rs : List X) → (d ≤ forest_size rs d) ⊎ ForestEnds rs d
  forest_deep_by d deep [] = inr (omega (arith, ap length (forest-none (suc d))))
  forest_deep_by d deep (r ∷ rs) =
      elim (deep r) [
        | inl a ↦ inl (omega (arith, forest_size-cons r rs d))
        | inr a ↦
            elim (forest_deep_by d deep rs) [
              | inl b ↦ inl (omega (arith, forest_size-cons r rs d))
              | inr b ↦ inr (omega (arith, forest_size-cons r rs d, forest_size-cons r rs (suc d)))
            ]
      ]

  -- a tree has as many members as steps, or it ends there
  tree_deep : (d : ℕ) (x : X) → (d ≤ tree_size x d) ⊎ TreeEnds x d
  tree_deep zero x = inl (omega arith)
  tree_deep (suc d) x =
      elim (forest_deep_by d (tree_deep d) (children x)) [
        | inl a ↦ inl (omega (arith, tree_size-suc x d))
        | inr a ↦ inr (omega (arith, tree_size-suc x d, tree_size-suc x (suc d)))
      ]

  -- small trees end
  pub small_settles : (rs : List X) (most : ℕ) → IsSmall children rs most → ForestEnds rs (suc most)
  small_settles rs most h =
      elim (forest_deep_by (suc most) (tree_deep (suc most)) rs)
      [ inl a ↦ absurd (omega arith) | inr b ↦ b ]

  -- the nodes are the same for each number that is enough
  pub nodes_same : (roots : List X) (j k : ℕ) → j ≤ k → IsSmall children roots j
      → nodes children roots k ≡ nodes children roots j
  nodes_same roots j k h small =
      let e : suc k ≡ (k - j) + suc j = omega arith in
      ap (forest children roots) e ∙ forest_same (k - j) (suc j) roots (small_settles roots j small)

  -- a larger number is enough too
  pub small_more : (roots : List X) (j k : ℕ) → j ≤ k → IsSmall children roots j
      → IsSmall children roots k
  small_more roots j k h small = omega (arith, ap length (nodes_same roots j k h small))

  -- a root is taken: it comes first, and its children's trees stand in its place
  pub taken_first : (x : X) (roots rest : List X) (d : ℕ) → IsPermutation roots (x ∷ rest)
      → IsPermutation (forest children roots (suc d))
      (x ∷ (forest children (children x) d ++ forest children rest (suc d)))
  taken_first x roots rest d s =
      let below : List X = forest children (children x) d ++ forest children rest (suc d) in
      let e : forest children (x ∷ rest) (suc d) ≡ x ∷ below =
      forest-cons x rest (suc d) ∙ ap (λ l. l ++ forest children rest (suc d)) (tree-suc x d)
      in
      let order = forest-IsPermutation roots (x ∷ rest) (suc d) s in
      subst (IsPermutation (forest children roots (suc d))) e order
