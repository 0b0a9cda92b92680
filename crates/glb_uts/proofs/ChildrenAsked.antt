-- Children that are asked for by parent and number.
use Rattle.std.proofs.Common.{◌≡◌, ℕ, ◌+◌, ◌^◌, ◌<◌, ◌≤◌, Bool, true, false, not, cond, nat_eq, nat_le, nat_lt, List, [], ◌∷◌, ◌++◌, length, map, get_or, Some, slice_get, refl, sym, ap, ap₂, ◌∙◌, arith, take, drop, set, inl, inr, append_assoc, append-nil, length-append, length-drop, length-take, take-add}
use Rattle.std.specs.List.{All}
use Rattle.std.proofs.lemmas.List.{take_more_set, take_more, map-append, get_or-set_other, get_or-set_same, get_or_default, take_at, take_all, drop_all, length-map}
use Rattle.std.proofs.lemmas.Bool.{cases_lt}
use Rattle.std.specs.Cmp.Lexicographic.{same_text}
use lib.Pointwise.{pointwise}
use borrow.Rule.Slice.PartMut.{put_mid}
use Rattle.std.proofs.lemmas.List.FromFn.{get_or-map-range_with_len}
use Rattle.std.proofs.lemmas.List.Elements.{All-head, All-tail}
use Rattle.std.proofs.lemmas.Option.{slice_get-get_or}
use borrow.Author.Tests.{leb-false}
use Rattle.glb_uts.specs.declared.node.Node.{Node}
use Rattle.glb_uts.specs.declared.uts.Uts.{Uts}
use Rattle.glb_uts.specs.Descriptors.{draw}
use Rattle.glb_uts.specs.Binomial.{fan, child, children}
use Rattle.glb_uts.specs.inner.Siblings.{child_of, IsWithin}
use Rattle.glb_uts.proofs.TreeTotals.{length-children}

-- a node that has children is not too deep for them
pub depth_of_parent : (uts : Uts) (node : Node) → 0 < fan uts node → node.depth < 2 ^ 41
depth_of_parent uts node some = part (nat_le (2 ^ 41) node.depth) refl
  where
    width : ℕ
    width = cond node.root uts.b0 (cond (nat_lt (draw node.descriptor) uts.q) uts.m 0)

    part : (b : Bool) → nat_le (2 ^ 41) node.depth ≡ b → node.depth < 2 ^ 41
    part true e =
        let none : fan uts node ≡ 0 = ap
        (λ b. cond b 0 (cond node.root uts.b0 (cond (nat_lt (draw node.descriptor) uts.q) uts.m 0)))
        e in
        absurd (omega arith)
    part false e = leb-false (2 ^ 41) node.depth e

-- no node has more children than the root or than an inner node
pub fan_within : (uts : Uts) (node : Node) (most : ℕ) → uts.b0 ≤ most → uts.m ≤ most
    → fan uts node ≤ most
fan_within uts node most b0 m =
    deep (nat_le (2 ^ 41) node.depth) (top node.root (drawn (nat_lt (draw node.descriptor) uts.q)))
  where
    drawn : (b : Bool) → cond b uts.m 0 ≤ most
    drawn true = m
    drawn false = omega arith

    top : (b : Bool) {k : ℕ} → k ≤ most → cond b uts.b0 k ≤ most
    top true h = b0
    top false h = h

    deep : (b : Bool) {k : ℕ} → k ≤ most → cond b 0 k ≤ most
    deep true h = omega arith
    deep false h = h

module _ (uts : Uts) where
  -- a child by its number
  pub child_at : (node : Node) (number : ℕ) → number < length (children uts node)
      → slice_get (children uts node) number ≡ Some (child node number)
  unfolding children
  child_at node number within =
      let few : number < fan uts node = omega (arith, length-children uts node) in
      slice_get-get_or (children uts node) number node within
      ∙ ap Some (get_or-map-range_with_len (child node) 0 (fan uts node) number number node few
      (omega arith))

  -- what is asked for is within the numbers of 32 bits
  pub asked_within : (most : ℕ) (asked : List (Node × ℕ)) → uts.b0 ≤ most → uts.m ≤ most
      → most < 2 ^ 32
      → All (λ a. a.1 < length (children uts a.0)) asked → All IsWithin asked
  asked_within most asked b0 m small numbers k d lt =
      let a : Node × ℕ = get_or asked k d in
      let number : a.1 < length (children uts a.0) = numbers k d lt in
      let width = length-children uts a.0 in
      record {
        depth = depth_of_parent uts a.0 (omega (arith, width));
        number = omega (arith, width, fan_within uts a.0 most b0 m);
      }

  -- the children that are asked for, one by one
  pub children_asked : (asked : List (Node × ℕ))
      → All (λ a. a.1 < length (children uts a.0)) asked
      → map Some (map child_of asked) ≡ map (λ a. slice_get (children uts a.0) a.1) asked
  children_asked [] h = refl
  children_asked (a ∷ asked) h =
      ap₂ (λ o l. o ∷ l)
      (sym (child_at a.0 a.1 (All-head (λ b. b.1 < length (children uts b.0)) a asked h)))
      (children_asked asked (All-tail (λ b. b.1 < length (children uts b.0)) a asked h))

-- one more of a row is written
pub one_more_written : {X Y : Type 0} (f : X → Y) (asked : List X) (into : List Y) (i : ℕ) (a : X)
    (y : Y) → i < length asked → i < length into → a ≡ get_or asked i a → y ≡ f a
    → take i into ≡ map f (take i asked)
    → take (i + 1) (set into i y) ≡ map f (take (i + 1) asked)
one_more_written f asked into i a y lt lt' read is done =
    take_more_set into i y lt'
    ∙ ap₂ (λ l z. l ++ z ∷ []) done (is ∙ ap f read)
    ∙ sym (map-append f (take i asked) (get_or asked i a ∷ []))
    ∙ ap (map f) (sym (take_more asked i a lt))

-- one more element of a list is what belongs there
pub one_more_filled : {X Y : Type 0} (f : X → Y) (asked : List X) (into : List Y) (d : Y) (i : ℕ)
    (e : X) → i < length asked → i < length into → e ≡ get_or asked i e
    → ((k : ℕ) (a : X) → k < i → a ≡ get_or asked k a → get_or into k d ≡ f a)
    → (k : ℕ) (a : X) → k < i + 1 → a ≡ get_or asked k a → get_or (set into i (f e)) k d ≡ f a
one_more_filled f asked into d i e lt lt' read before k a less is = elim (cases_lt k i) [
  | inl below ↦ get_or-set_other into i k (f e) d (omega arith) ∙ before k a below is
  | inr above ↦
      let here : k ≡ i = omega arith in
      ap (λ j. get_or (set into i (f e)) j d) here
      ∙ get_or-set_same into i (f e) d lt'
      ∙ ap f (read ∙ get_or_default asked i e a lt ∙ ap (λ j. get_or asked j a) (sym here)
      ∙ sym is)
]

-- two texts that do not differ
pub not_other : (xs ys : List ℕ) → false ≡ not (pointwise nat_eq xs ys) → xs ≡ ys
not_other xs ys e = same_text xs ys (part (pointwise nat_eq xs ys) e)
  where
    part : (b : Bool) → false ≡ not b → true ≡ b
    part true e = refl
    part false e = absurd (cc)

-- one more child of a row
pub one_more_in_row : (asked : List (Node × ℕ)) (i : ℕ) (none : Node × ℕ) → i < length asked
    → (get_or asked i none).0.descriptor ≡ (get_or asked 0 none).0.descriptor
    → (get_or asked i none).1 ≡ (get_or asked 0 none).1 + i
    → ((k : ℕ) (a b : Node × ℕ) → k < i → a ≡ get_or asked k a → b ≡ get_or asked 0 b
    → (a.0.descriptor ≡ b.0.descriptor) × (a.1 ≡ b.1 + k))
    → (k : ℕ) (a b : Node × ℕ) → k < i + 1 → a ≡ get_or asked k a → b ≡ get_or asked 0 b
    → (a.0.descriptor ≡ b.0.descriptor) × (a.1 ≡ b.1 + k)
one_more_in_row asked i none lt same next before k a b less is first = elim (cases_lt k i) [
  | inl below ↦ before k a b below is first
  | inr above ↦
      let here : k ≡ i = omega arith in
      let last : a ≡ get_or asked i none =
      is ∙ ap (λ j. get_or asked j a) here ∙ get_or_default asked i a none lt in
      let head : b ≡ get_or asked 0 none =
      first ∙ get_or_default asked 0 b none (omega arith) in (
        ap (λ x. x.0.descriptor) last ∙ same ∙ ap (λ x. x.0.descriptor) (sym head),
        ap (λ x. x.1) last ∙ next ∙ ap₂ (λ x n. x.1 + n) (sym head) (sym here),
      )
]

-- a part of a row is written behind what is written already
pub part_written : {X Y : Type 0} (f : X → Y) (asked : List X) (into part : List Y)
    (from count more : ℕ) → from + count ≤ length asked → length into ≡ length asked
    → count ≡ more
    → take from into ≡ map f (take from asked) → part ≡ map f (take more (drop from asked))
    → take (from + count) (put_mid from count into part) ≡ map f (take (from + count) asked)
part_written f asked into part from count more within same n done is =
    let before = take from into in
    let rest = drop count (drop from into) in
    let size : length part ≡ count =
    omega (
      arith,
      ap length is,
      length-map (take more (drop from asked)) f,
      length-take more (drop from asked),
      length-drop from asked,
    ) in
    let long : length (before ++ part) ≡ from + count =
    omega (arith, length-append before part, length-take from into, size) in
    ap (take (from + count)) (sym (append_assoc before part rest))
    ∙ take_at (before ++ part) rest (from + count) long
    ∙ ap₂ (λ l m. l ++ m) done (is ∙ ap (λ k. map f (take k (drop from asked))) (sym n))
    ∙ sym (map-append f (take from asked) (take count (drop from asked)))
    ∙ ap (map f) (sym (take-add from count asked))

-- the last part of a row is written
pub rest_written : {X Y : Type 0} (f : X → Y) (asked : List X) (into part : List Y)
    (from done count more : ℕ) → from ≤ length asked → length into ≡ length asked → done ≡ from
    → from + count ≡ length asked → more ≡ count
    → take done into ≡ map f (take done asked) → part ≡ map f (take more (drop from asked))
    → put_mid from count into part ≡ map f asked
rest_written f asked into part from done count more within same here all n before is =
    let none : drop count (drop from into) ≡ [] =
    drop_all count (drop from into) (omega (arith, length-drop from into)) in
    ap₂ (λ l m. l ++ m)
    (ap (λ k. take k into) (sym here) ∙ before ∙ ap (λ k. map f (take k asked)) here)
    (ap (λ l. part ++ l) none ∙ append-nil part ∙ is
    ∙ ap (λ k. map f (take k (drop from asked))) n)
    ∙ sym (map-append f (take from asked) (take count (drop from asked)))
    ∙ ap (map f) (sym (take-add from count asked))
    ∙ ap (map f) (take_all (from + count) asked (omega arith))

-- the only one of a row is written
pub only_written : {X Y : Type 0} (f : X → Y) (asked : List X) (into : List Y) (d : X) (y : Y)
    → length asked ≡ 1 → length into ≡ 1 → y ≡ f (get_or asked 0 d)
    → set into 0 y ≡ map f asked
only_written f [] into d y one one' is = absurd (omega arith)
only_written f (a ∷ b ∷ asked) into d y one one' is = absurd (omega arith)
only_written f (a ∷ []) [] d y one one' is = absurd (omega arith)
only_written f (a ∷ []) (z ∷ w ∷ into) d y one one' is = absurd (omega arith)
only_written f (a ∷ []) (z ∷ []) d y one one' is = ap (λ x. x ∷ []) is
