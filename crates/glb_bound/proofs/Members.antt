-- Members of trees, and nodes.
use Rattle.std.proofs.Common.{◌≡◌, ℕ, zero, suc, ◌⊎◌, inl, inr, List, [], ◌∷◌, ◌++◌, refl, sym, subst}
use Rattle.std.proofs.Common.{arith}
use Rattle.std.specs.Prelude.{Contains, All}
use Rattle.std.proofs.lemmas.List.Elements.{Contains-append_left, Contains-append_right}
use Rattle.std.proofs.lemmas.List.Elements.{Contains-append_cases, All-append, All-cons}
use Rattle.std.proofs.lemmas.List.Elements.{All-contains, All-contains_itself}
use Rattle.std.proofs.lemmas.List.Sorted.{All-permutation}
use Rattle.glb_laws.specs.Tree.{tree, forest}
use Rattle.glb_laws.specs.Expansion.{Expansion}
use Rattle.glb_laws.proofs.Expansions.{expansion_least}
use Rattle.glb_tree.proofs.Forests.{tree-suc, forest-none, forest-cons}
use Rattle.glb_bound.specs.Best.{IsNode}

-- what follows from each of two follows from one or the other
pub either : {A B C : Type 0} → (A → C) → (B → C) → A ⊎ B → C
either f g (inl a) = f a
either f g (inr b) = g b

module _ {X : Type 0} where
  -- nothing is in no list
  pub Contains-none : (y : X) → Contains [] y → ⊥
  Contains-none y h = let lt = h.1 in omega arith

  -- the first is in the list
  pub Contains-first : (x : X) (xs : List X) → Contains (x ∷ xs) x
  Contains-first x xs = (0, omega arith, refl)

  -- what is in a list is its first or one of the others
  pub Contains-cons_cases : (x : X) (xs : List X) (y : X) → Contains (x ∷ xs) y
      → (x ≡ y) ⊎ Contains xs y
  Contains-cons_cases x xs y (zero, lt, e) = inl e
  Contains-cons_cases x xs y (suc k, lt, e) = inr (k, omega arith, e)

  -- what holds of a list holds of its first and of the others
  pub All-first : (P : X → Type 0) (x : X) (xs : List X) → All P (x ∷ xs) → P x
  All-first P x xs h = h 0 x (omega arith)

  pub All-others : (P : X → Type 0) (x : X) (xs : List X) → All P (x ∷ xs) → All P xs
  All-others P x xs h = λ k d lt. h (suc k) d (omega arith)

  -- what holds of two lists that are joined holds of each
  pub All-left : (P : X → Type 0) (xs ys : List X) → All P (xs ++ ys) → All P xs
  All-left P xs ys h =
      λ k d lt. All-contains P (xs ++ ys) _ h
      (Contains-append_left xs ys _ (All-contains_itself xs k d lt))

  pub All-right : (P : X → Type 0) (xs ys : List X) → All P (xs ++ ys) → All P ys
  All-right P xs ys h =
      λ k d lt. All-contains P (xs ++ ys) _ h
      (Contains-append_right xs ys _ (All-contains_itself ys k d lt))

module _ {X : Type 0} (children : X → List X) where
  -- no step, no tree
  pub tree-zero : (x : X) → tree children x zero ≡ []
  unfolding tree
  tree-zero x = refl

  -- a member of the tree of a root is one of the trees together
  pub forest-has : (rs : List X) (d : ℕ) (r y : X) → Contains rs r
      → Contains (tree children r d) y → Contains (forest children rs d) y
  forest-has [] d r y i h = absurd (Contains-none r i)
  forest-has (s ∷ rs) d r y i h =
      let first : s ≡ r → Contains (tree children s d ++ forest children rs d) y =
      λ e. Contains-append_left _ _ y (subst (λ x. Contains (tree children x d) y) (sym e) h) in
      let later : Contains rs r → Contains (tree children s d ++ forest children rs d) y =
      λ j. Contains-append_right (tree children s d) _ y (forest-has rs d r y j h) in
      subst (λ l. Contains l y) (sym (forest-cons children s rs d))
      (either first later (Contains-cons_cases s rs r i))

  -- a member of the trees together is one of the tree of some root
  pub forest-member : (rs : List X) (d : ℕ) (y : X) → Contains (forest children rs d) y
      → (r : X) × Contains rs r × Contains (tree children r d) y
  forest-member [] d y h =
      absurd (Contains-none y (subst (λ l. Contains l y) (forest-none children d) h))
  forest-member (r ∷ rs) d y h =
      let Found : Type 0 = (s : X) × Contains (r ∷ rs) s × Contains (tree children s d) y in
      let first : Contains (tree children r d) y → Found = λ i. (r, Contains-first r rs, i) in
      let later : Contains (forest children rs d) y → Found =
      λ i. let f = forest-member rs d y i in
      (f.0, Contains-append_right (r ∷ []) rs f.0 f.1, f.2) in
      either first later (Contains-append_cases _ _ y
      (subst (λ l. Contains l y) (forest-cons children r rs d) h))

  -- a member of a tree is its root, or in the tree of a child
  pub tree-member : (x : X) (d : ℕ) (y : X) → Contains (tree children x (suc d)) y
      → (x ≡ y) ⊎ Contains (forest children (children x) d) y
  tree-member x d y h =
      Contains-cons_cases x _ y (subst (λ l. Contains l y) (tree-suc children x d) h)

  -- an item is in its tree
  pub own_member : (x : X) (d : ℕ) → Contains (tree children x (suc d)) x
  own_member x d = subst (λ l. Contains l x) (sym (tree-suc children x d)) (Contains-first x _)

  -- the root is a node
  pub root_is_node : (x : X) → IsNode children x x
  root_is_node x = (1, own_member x 0)

  -- a child of a member stands one step deeper
  deeper : (d : ℕ) (root x c : X) → Contains (tree children root d) x → Contains (children x) c
      → Contains (tree children root (suc (suc d))) c
  deeper zero root x c h i =
      absurd (Contains-none x (subst (λ l. Contains l x) (tree-zero root) h))
  deeper (suc d) root x c h i =
      let Deeper : Type 0 = Contains (tree children root (suc (suc (suc d)))) c in
      let into : (r : X) → Contains (children root) r
      → Contains (tree children r (suc (suc d))) c → Deeper =
      λ r j k. subst (λ l. Contains l c) (sym (tree-suc children root (suc (suc d))))
      (Contains-append_right (root ∷ []) _ c (forest-has (children root) (suc (suc d)) r c j k)) in
      let own : root ≡ x → Deeper =
      λ e. into c (subst (λ z. Contains (children z) c) (sym e) i) (own_member c (suc d)) in
      let below : Contains (forest children (children root) d) x → Deeper =
      λ m. let f = forest-member (children root) d x m in
      into f.0 f.1 (deeper d f.0 x c f.2 i) in
      either own below (tree-member root d x h)

  -- the children of a node are nodes
  pub children_are_nodes : (root x : X) → IsNode children root x
      → All (IsNode children root) (children x)
  children_are_nodes root x (d, h) =
      λ k e lt. (suc (suc d), deeper d root x _ h (All-contains_itself (children x) k e lt))

  -- what is left of a root's tree is nodes
  pub left_are_nodes : (root : X) (done left : List X) → Expansion children (root ∷ []) done left
      → All (IsNode children root) left
  left_are_nodes root done left e =
      let Node : X → Type 0 = IsNode children root in
      expansion_least children (λ _ left. All Node left)
      (λ x _ rest h. All-append Node (children x) rest
      (children_are_nodes root x (All-first Node x rest h)) (All-others Node x rest h))
      (λ _ _ left left' _ s h. All-permutation Node left left' s h)
      (root ∷ []) (All-cons Node root [] (root_is_node root) (λ k d lt. absurd (omega arith)))
      done left e
