-- What the tree of the root comes to.
use Rattle.std.proofs.Common.{◌≡◌, ℕ, zero, suc, ◌+◌, ◌<◌, ◌≤◌, Bool, true, false}
use Rattle.std.proofs.Common.{cond, List, [], ◌∷◌, length, Option, None, Some, refl}
use Rattle.std.proofs.Common.{nat_eq, ap, ◌∙◌, arith}
use Rattle.std.proofs.lemmas.Bool.{lt-ltb}
use Rattle.glb_laws.specs.Expansion.{combined}
use Rattle.glb_laws.specs.Tree.{answer}
use Rattle.glb_laws.specs.Sums.{sum_to, greatest_to}
use Rattle.glb_laws.specs.Tallies.{tallies, no_tallies, join_tallies}
use Rattle.glb_laws.proofs.Expansions.{combined-append}
use Rattle.glb_graph.specs.Rows.{IsGraph}
use Rattle.glb_graph.specs.Distances.{is_walk, or_else, first_below, distance, one_for, steps_for}
use Rattle.glb_graph.specs.Distances.{reached_of, sum_of, greatest_of}
use Rattle.glb_graph.specs.Pairs.{joined_pairs, sum_of_distances, greatest_distance}
use Rattle.glb_graph.specs.Spots.{spots, spot_children, spot_value}
use Rattle.glb_graph.specs.declared.dist.Spot.TheVariants.{Root, Vertex}
use Rattle.glb_graph.proofs.SumFacts.{sum_to-most, greatest_to-most, same_tallies}
use Rattle.glb_graph.proofs.LawFacts.{root_tree}

-- of two distances that are bounded, the first one that is there is bounded
or_else-most : (o p : Option ℕ) (n : ℕ) → steps_for o ≤ n → steps_for p ≤ n
    → steps_for (or_else o p) ≤ n
unfolding or_else
or_else-most None p n a b = b
or_else-most (Some d) p n a b = a

-- a number that may be there is bounded by itself
some-most : (b : Bool) (n : ℕ) → steps_for (cond b (Some n) None) ≤ n
unfolding steps_for
some-most true n = omega arith
some-most false n = omega arith

-- the first number below n that passes a test is at most n
first_below-most : (test : ℕ → Bool) (n : ℕ) → steps_for (first_below test n) ≤ n
unfolding first_below steps_for
first_below-most test zero = omega arith
first_below-most test (suc n) =
    let before = first_below-most test n in
    let either = or_else-most (first_below test n) (cond (test n) (Some n) None) n before
    (some-most (test n) n) in
    omega (arith, either)

-- a pair counts for one at most
one_for-most : (s t : ℕ) (far : Option ℕ) → one_for s t far ≤ 1
unfolding one_for
one_for-most s t None = omega arith
one_for-most s t (Some d) = either (nat_eq t s)
  where
    either : (b : Bool) → cond b 0 1 ≤ 1
    either true = omega arith
    either false = omega arith

module _ (rows : List (List ℕ)) (G : IsGraph rows) where
  -- a distance is at most 20,000
  steps-most : (s t : ℕ) → steps_for (distance rows s t) ≤ 20000
  unfolding distance
  steps-most s t = omega (arith, first_below-most (is_walk rows s t) (length rows), G.few_vertices)

  -- a vertex reaches at most 20,000 others
  pub reached-most : (s : ℕ) → reached_of (distance rows s) s (length rows) ≤ 20000
  reached-most s =
      let most = sum_to-most (length rows) 1 _ (λ t _. one_for-most s t (distance rows s t)) in
      omega (arith, most, G.few_vertices)

  -- the sum of the distances from a vertex is at most 400,000,000
  pub sum-most : (s : ℕ) → sum_of (distance rows s) (length rows) ≤ 400000000
  sum-most s =
      let most = sum_to-most (length rows) 20000 _ (λ t _. steps-most s t) in
      omega (arith, most, G.few_vertices)

  -- the greatest distance from a vertex is at most 20,000
  pub greatest-most : (s : ℕ) → greatest_of (distance rows s) (length rows) ≤ 20000
  greatest-most s = greatest_to-most (length rows) 20000 _ (λ t _. steps-most s t)

  -- the value of a vertex is its three numbers, and none of them is capped
  pub vertex_value_is : (s : ℕ) → s < length rows → spot_value rows (Vertex s)
      ≡ tallies (reached_of (distance rows s) s (length rows))
      (sum_of (distance rows s) (length rows))
      (greatest_of (distance rows s) (length rows))
  vertex_value_is s l =
      rw (lt-ltb _ _ l)
      (same_tallies _ _ _ _ _ _ (omega (arith, reached-most s)) (omega (arith, sum-most s))
      (omega (arith, greatest-most s)))

  -- the values of the root and of the first vertices, combined
  first_vertices : (k : ℕ) → k ≤ length rows
      → combined (spot_value rows) join_tallies no_tallies (Root ∷ spots k)
      ≡ tallies (sum_to k (λ s. reached_of (distance rows s) s (length rows)))
      (sum_to k (λ s. sum_of (distance rows s) (length rows)))
      (greatest_to k (λ s. greatest_of (distance rows s) (length rows)))
  unfolding spots
  first_vertices zero l = refl
  first_vertices (suc k) l =
      let before = first_vertices k (omega arith) in
      let reached = sum_to-most k 20000 _ (λ s _. reached-most s) in
      let sum = sum_to-most k 400000000 _ (λ s _. sum-most s) in
      combined-append (spot_children rows) (spot_value rows) join_tallies (Root ∷ spots k)
      (Vertex k ∷ []) no_tallies
      ∙ ap (λ v. join_tallies v (spot_value rows (Vertex k))) before
      ∙ ap (join_tallies _) (vertex_value_is k (omega arith))
      ∙ same_tallies _ _ _ _ _ _ (omega (arith, reached, reached-most k, G.few_vertices))
      (omega (arith, sum, sum-most k, G.few_vertices)) refl

  -- the values of all nodes, combined, are the numbers of all pairs
  pub answer_is : (most : ℕ) → length rows + 1 ≤ most
      → answer (spot_children rows) (spot_value rows) no_tallies join_tallies (Root ∷ []) most
      ≡ tallies (joined_pairs rows) (sum_of_distances rows) (greatest_distance rows)
  answer_is most l =
      ap (combined (spot_value rows) join_tallies no_tallies) (root_tree rows most l)
      ∙ first_vertices (length rows) (omega arith)
