-- The answer of a tree of undecided weights is how many choices add up to the target.
use Rattle.std.proofs.Common.{◌≡◌, ℕ, zero, suc, ◌+◌, ◌-◌, ◌<◌, ◌^◌, List, [], ◌∷◌, ◌++◌}
use Rattle.std.proofs.Common.{refl, sym, ap, ◌∙◌, arith, Bool, true, false, length}
use Rattle.std.proofs.Common.{append_assoc, append-nil, length-append}
use Rattle.std.specs.Prelude.{◌==◌, nat_lt, cond, min, slice_index}
use Rattle.std.proofs.lemmas.Bool.{lt-ltb, le-ltb}
use Rattle.glb_laws.specs.Bounded.{capped_sum, sat_sum, sat_sum_laws}
use Rattle.glb_laws.specs.Expansion.{combined}
use Rattle.glb_laws.specs.Tree.{tree, forest}
use Rattle.glb_laws.specs.declared.sat_sum.SatSum.{SatSum}
use Rattle.glb_laws.proofs.Shuffles.{combined_proper, combined_after}
use Rattle.glb_laws.proofs.Expansions.{combined-append}
use Rattle.glb_tree.proofs.Forests.{tree-suc, forest-none, forest-cons, nodes_same}
use Rattle.glb_uses.specs.SubsetSums.{left, chosen, further, worth, count_of_sums, CountsSums}
use Rattle.glb_uses.specs.SubsetSums.{worth_proper}
use Rattle.glb_uses.specs.declared.subset_sums.Undecided.{Undecided}
use Rattle.glb_uses.proofs.Counting.{count-none, count-more}

-- two such values as one
abbrev join : SatSum → SatSum → SatSum
join a b = sat_sum (capped_sum a.0 b.0)

-- a number, or 2 ^ 64 - 1 where it is more
abbrev capped : ℕ → SatSum
capped n = sat_sum (min n (2 ^ 64 - 1))

-- capped numbers are joined to their capped sum
capped-sum : (m n : ℕ) → join (capped m) (capped n) ≡ capped (m + n)
capped-sum m n = ap sat_sum (omega arith)

-- a bit is not cut
bit_capped : (b : Bool) → sat_sum (cond b 1 0) ≡ capped (cond b 1 0)
bit_capped true = refl
bit_capped false = refl

-- what stands right behind a front
behind : (front : List ℕ) (weight : ℕ) (rest : List ℕ)
    → slice_index (front ++ weight ∷ rest) (length front) ≡ weight
behind [] weight rest = refl
behind (f ∷ front) weight rest = behind front weight rest

module _ (weights : List ℕ) where
  -- the values of some nodes, joined
  abbrev joined : List Undecided → SatSum
  joined xs = combined (worth weights) join (sat_sum 0) xs

  joined_proper : (xs : List Undecided) → (joined xs).0 < 2 ^ 64
  joined_proper xs =
      combined_proper sat_sum_laws (worth weights) (worth_proper weights) xs (sat_sum 0)
      (omega arith)

  -- the values of some nodes and of others
  joined-append : (xs ys : List Undecided) → joined (xs ++ ys) ≡ join (joined xs) (joined ys)
  joined-append xs ys =
      combined-append (λ x. further weights x) (worth weights) join xs ys (sat_sum 0)
      ∙ sym (combined_after sat_sum_laws (worth weights) (worth_proper weights) ys (joined xs)
      (joined_proper xs))

  -- a node without worth does not count
  joined-cons : (x : Undecided) (xs : List Undecided) → worth weights x ≡ sat_sum 0
      → joined (x ∷ xs) ≡ joined xs
  joined-cons x xs e = ap (λ v. combined (worth weights) join (join (sat_sum 0) v) xs) e

  -- the nodes of the trees of these roots, down to a depth
  abbrev below : List Undecided → ℕ → List Undecided
  below roots depth = forest (further weights) roots depth

  abbrev tree_of : Undecided → ℕ → List Undecided
  tree_of x depth = tree (further weights) x depth

  -- what a weight that may be chosen adds
  chosen_counts : (b : Bool) (x : Undecided) (weight : ℕ) (n depth : ℕ)
      → joined (tree_of (chosen x weight) depth) ≡ capped n
      → joined (below (cond b [] (chosen x weight ∷ [])) depth) ≡ capped (cond b 0 n)
  chosen_counts true x weight n depth e = ap joined (forest-none (further weights) depth)
  chosen_counts false x weight n depth e =
      ap joined (forest-cons (further weights) (chosen x weight) [] depth
      ∙ ap (λ l. tree_of (chosen x weight) depth ++ l) (forest-none (further weights) depth)
      ∙ append-nil _)
      ∙ e

  -- where every weight is decided, nothing comes next
  further_end : (x : Undecided) → nat_lt x.next (length weights) ≡ false → further weights x ≡ []
  further_end x e =
      ap (λ b. cond b (left x ∷ cond (nat_lt x.missing (slice_index weights x.next)) []
      (chosen x (slice_index weights x.next) ∷ [])) []) e

  -- what comes next where a weight is not decided
  further_more : (x : Undecided) (weight : ℕ) → nat_lt x.next (length weights) ≡ true
      → slice_index weights x.next ≡ weight
      → further weights x ≡ left x ∷ cond (nat_lt x.missing weight) [] (chosen x weight ∷ [])
  further_more x weight e reads =
      ap (λ b. cond b (left x ∷ cond (nat_lt x.missing (slice_index weights x.next)) []
      (chosen x (slice_index weights x.next) ∷ [])) []) e
      ∙ ap (λ w. left x ∷ cond (nat_lt x.missing w) [] (chosen x w ∷ [])) reads

  -- what a node is worth where every weight is decided, and where one is not
  worth_end : (x : Undecided) → nat_lt x.next (length weights) ≡ false
      → worth weights x ≡ capped (cond (x.missing == 0) 1 0)
  worth_end x e =
      ap (λ b. sat_sum (cond b 0 (cond (x.missing == 0) 1 0))) e ∙ bit_capped (x.missing == 0)

  worth_more : (x : Undecided) → nat_lt x.next (length weights) ≡ true
      → worth weights x ≡ sat_sum 0
  worth_more x e = ap (λ b. sat_sum (cond b 0 (cond (x.missing == 0) 1 0))) e

  -- the answer of the tree of an undecided rest is how many of its choices add up to what is
  -- missing
  tree_counts : (rest front : List ℕ) (x : Undecided) (depth : ℕ) → weights ≡ front ++ rest
      → x.next ≡ length front → length rest < depth
      → joined (tree_of x depth) ≡ capped (count_of_sums rest x.missing)
  tree_counts rest front x zero parts at deep = absurd (omega arith)
  tree_counts [] front x (suc depth) parts at deep =
      let long : length weights ≡ length front = ap length (parts ∙ append-nil front) in
      let end : nat_lt x.next (length weights) ≡ false = le-ltb _ _ (omega arith) in
      ap joined (tree-suc (further weights) x depth
      ∙ ap (λ l. x ∷ below l depth) (further_end x end)
      ∙ ap (λ l. x ∷ l) (forest-none (further weights) depth))
      ∙ sat_sum_laws.left_unit (worth weights x) (worth_proper weights x)
      ∙ worth_end x end
      ∙ ap capped (sym (count-none x.missing))
  tree_counts (weight ∷ rest) front x (suc depth) parts at deep =
      let long : length weights ≡ length front + suc (length rest) =
      ap length parts ∙ length-append front (weight ∷ rest) in
      let here : nat_lt x.next (length weights) ≡ true = lt-ltb _ _ (omega arith) in
      let reads : slice_index weights x.next ≡ weight =
      ap (λ l. slice_index l x.next) parts
      ∙ ap (λ i. slice_index (front ++ weight ∷ rest) i) at
      ∙ behind front weight rest in
      let more : List ℕ = front ++ weight ∷ [] in
      let parts' : weights ≡ more ++ rest = parts ∙ sym (append_assoc front (weight ∷ []) rest) in
      let at' : x.next + 1 ≡ length more =
      omega (arith, at, length-append front (weight ∷ [])) in
      let short : length rest < depth = omega arith in
      let heavy : Bool = nat_lt x.missing weight in
      let others : List Undecided = cond heavy [] (chosen x weight ∷ []) in
      let m : ℕ = count_of_sums rest x.missing in
      let n : ℕ = count_of_sums rest (x.missing - weight) in
      let first = tree_counts rest more (left x) depth parts' at' short in
      let second = chosen_counts heavy x weight n depth
      (tree_counts rest more (chosen x weight) depth parts' at' short) in
      ap joined (tree-suc (further weights) x depth
      ∙ ap (λ l. x ∷ below l depth) (further_more x weight here reads))
      ∙ joined-cons x (below (left x ∷ others) depth) (worth_more x here)
      ∙ ap joined (forest-cons (further weights) (left x) others depth)
      ∙ joined-append (tree_of (left x) depth) (below others depth)
      ∙ ap (λ v. join v (joined (below others depth))) first
      ∙ ap (λ v. join (capped m) v) second
      ∙ capped-sum m (cond heavy 0 n)
      ∙ ap capped (sym (count-more weight rest x.missing))

  -- So the answer of the root's tree is how many choices add up to the target. The tree is looked at
  -- so deep that it is whole within the limit, and that a step for each weight is left.
  pub counts_sums : (root : Undecided) (target : ℕ) → root.next ≡ 0 → root.missing ≡ target
      → CountsSums weights root target
  counts_sums root target first all limit small =
      let enough : ℕ = limit + length weights in
      let same = nodes_same (further weights) (root ∷ []) limit enough (omega arith) small in
      ap joined (sym same
      ∙ forest-cons (further weights) root [] (suc enough)
      ∙ ap (λ l. tree_of root (suc enough) ++ l) (forest-none (further weights) (suc enough))
      ∙ append-nil _)
      ∙ tree_counts weights [] root (suc enough) refl first (omega arith)
      ∙ ap (λ t. capped (count_of_sums weights t)) all
