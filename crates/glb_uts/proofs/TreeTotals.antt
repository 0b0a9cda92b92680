-- The fold of the values of a tree's nodes is what the nodes add up to: no sum is cut.
use Rattle.std.proofs.Common.{◌≡◌, ℕ, zero, suc, ◌+◌, ◌-◌, ◌^◌, ◌<◌, ◌≤◌, ◌==◌, min, max, Bool, true, false, cond, List, [], ◌∷◌, length, get_or, ap, ◌∙◌, arith}
use Rattle.std.specs.List.{All, flat_map, range_with_len}
use Rattle.std.proofs.lemmas.List.{length-map}
use Rattle.std.proofs.lemmas.List.FromFn.{length-range_with_len}
use Rattle.std.proofs.lemmas.List.Elements.{All-nil, All-cons, All-head, All-tail, All-append, All-map, All-weaker, All-from_get_or}
use Rattle.std.proofs.lemmas.List.Sums.{sum_by-cons}
use Rattle.glb_laws.specs.declared.both.Both.{Both}
use Rattle.glb_laws.specs.declared.sat_sum.SatSum.{SatSum}
use Rattle.glb_laws.specs.declared.greatest.Greatest.{Greatest}
use Rattle.glb_laws.specs.Bounded.{sat_sum, greatest, capped_sum}
use Rattle.glb_laws.specs.Pair.{both}
use Rattle.glb_laws.specs.Expansion.{combined}
use Rattle.glb_laws.specs.Tree.{tree, forest, nodes, answer, IsSmall}
use Rattle.glb_uts.specs.declared.node.Node.{Node}
use Rattle.glb_uts.specs.declared.uts.Uts.{Uts}
use Rattle.glb_uts.specs.Binomial.{fan, child, children, value_of}
use Rattle.glb_uts.specs.Totals.{is_leaf, leaf_count, greatest_depth, totals, totals_of}

-- two sums and a greatest, joined one by one
abbrev pub joined : Both SatSum (Both SatSum Greatest) → Both SatSum (Both SatSum Greatest)
    → Both SatSum (Both SatSum Greatest)
joined a b =
    both (sat_sum (capped_sum a.0.0 b.0.0))
    (both (sat_sum (capped_sum a.1.0.0 b.1.0.0)) (greatest (max a.1.1.0 b.1.1.0)))

-- the same three numbers
same_totals : (n m l k d e : ℕ) → n ≡ m → l ≡ k → d ≡ e → totals n l d ≡ totals m k e
same_totals n m l k d e p q r =
    ap (λ x. totals x l d) p ∙ ap (λ y. totals m y d) q ∙ ap (λ z. totals m k z) r

-- a truth value counts one at most
one_at_most : (b : Bool) → cond b 1 0 ≤ 1
one_at_most true = omega arith
one_at_most false = omega arith

-- every element of lists that are made of each element
All-flat_map : {X Y : Type 0} (P : Y → Type 0) (f : X → List Y) (xs : List X)
    → All (λ x. All P (f x)) xs → All P (flat_map f xs)
All-flat_map P f [] h = All-nil P
All-flat_map P f (x ∷ xs) h =
    All-append P (f x) (flat_map f xs) (All-head (λ x. All P (f x)) x xs h)
    (All-flat_map P f xs (All-tail (λ x. All P (f x)) x xs h))

module _ (uts : Uts) where
  -- there are as many children as the node's draw says
  pub length-children : (node : Node) → length (children uts node) ≡ fan uts node
  unfolding children
  length-children node =
      length-map (range_with_len 0 (fan uts node)) (child node)
      ∙ length-range_with_len 0 (fan uts node)

  -- a fold over nodes, from any totals that leave room
  fold_of_values : (xs : List Node) (n l d : ℕ) → n + length xs < 2 ^ 64 → l + length xs < 2 ^ 64
      → All (λ node. node.depth < 2 ^ 64) xs
      → combined (value_of uts) joined (totals n l d) xs
      ≡ totals (n + length xs) (l + leaf_count uts xs) (max d (greatest_depth xs))
  unfolding greatest_depth
  fold_of_values [] n l d few fewer low = same_totals _ _ _ _ _ _ (omega arith) (omega arith)
      (omega arith)
  fold_of_values (x ∷ xs) n l d few fewer low =
      let one : ℕ = cond (fan uts x == 0) 1 0 in
      let small : one ≤ 1 = one_at_most (fan uts x == 0) in
      let deep : x.depth < 2 ^ 64 = All-head (λ node. node.depth < 2 ^ 64) x xs low in
      let leaf : cond (is_leaf uts x) 1 0 ≡ one = ap (λ k. cond (k == 0) 1 0) (length-children x) in
      let more : leaf_count uts (x ∷ xs) ≡ cond (is_leaf uts x) 1 0 + leaf_count uts xs =
      sum_by-cons (λ node. cond (is_leaf uts node) 1 0) x xs in
      let after = fold_of_values xs (capped_sum n 1) (capped_sum l one)
      (max d (min x.depth (2 ^ 64 - 1)))
      (omega arith) (omega (arith, small)) (All-tail (λ node. node.depth < 2 ^ 64) x xs low) in
      after
      ∙ same_totals _ _ _ _ _ _ (omega arith) (omega (arith, small, leaf, more))
      (omega (arith, deep))

  -- no node of a tree is deeper than the root by more than the tree's depth
  depths_in_tree : (depth : ℕ) (node : Node)
      → All (λ x. x.depth ≤ node.depth + depth) (tree (children uts) node depth)
  unfolding tree children
  depths_in_tree zero node = All-nil _
  depths_in_tree (suc depth) node =
      let IsLow : Node → Type 0 = λ x. x.depth ≤ node.depth + suc depth in
      let below : (number : ℕ)
      → All IsLow (tree (children uts) (child node number) depth) = λ number.
      All-weaker (λ x. x.depth ≤ (node.depth + 1) + depth) IsLow (λ x h. omega (arith, h)) _
      (depths_in_tree depth (child node number)) in
      All-cons IsLow node _ (omega arith)
      (All-flat_map IsLow (λ c. tree (children uts) c depth) (children uts node)
      (All-map (λ c. All IsLow (tree (children uts) c depth)) (child node)
      (range_with_len 0 (fan uts node))
      (All-from_get_or (λ number. All IsLow (tree (children uts) (child node number) depth))
      (range_with_len 0 (fan uts node)) 0
      (λ i lt. below (get_or (range_with_len 0 (fan uts node)) i 0)))))

  -- the answer of a small tree is what its nodes add up to
  pub answer_is_totals : (root : Node) (most : ℕ) → root.depth ≡ 0 → most ≤ 2 ^ 40
      → IsSmall (children uts) (root ∷ []) most
      → answer (children uts) (value_of uts) (totals 0 0 0) joined (root ∷ []) most
      ≡ totals_of uts (nodes (children uts) (root ∷ []) most)
  unfolding forest
  answer_is_totals root most top few small =
      let all : List Node = nodes (children uts) (root ∷ []) most in
      let IsLow : Node → Type 0 = λ x. x.depth < 2 ^ 64 in
      let in_tree : All IsLow (tree (children uts) root (suc most)) =
      All-weaker (λ x. x.depth ≤ root.depth + suc most) IsLow (λ x h. omega (arith, h, top, few)) _
      (depths_in_tree (suc most) root) in
      let low : All IsLow all =
      All-flat_map IsLow (λ r. tree (children uts) r (suc most)) (root ∷ [])
      (All-cons (λ r. All IsLow (tree (children uts) r (suc most))) root [] in_tree (All-nil _)) in
      fold_of_values all 0 0 0 (omega (arith, small, few)) (omega (arith, small, few)) low
      ∙ same_totals _ _ _ _ _ _ (omega arith) (omega arith) (omega arith)
