-- Children that are asked for together, and made.
use Rattle.std.proofs.Common.{◌≡◌, ℕ, zero, suc, ◌+◌, ◌-◌, ◌<◌, ◌≤◌, ◌++◌, ◌∷◌, [], List, length, take, drop, get_or, Some, map, refl, sym, ap, ap₂, subst, ◌∙◌, arith, append-nil, length-append, length-take, take-add, slice_get}
use Rattle.std.specs.List.{All, range_with_len}
use Rattle.std.proofs.lemmas.List.Elements.{All-append}
use Rattle.std.proofs.lemmas.List.{map-append, length-map, take-map, drop-map, drop_more, drop_at, take_all, take_at}
use Rattle.std.proofs.lemmas.List.FromFn.{length-map-range_with_len, get_or-map-range_with_len}
use Rattle.std.proofs.lemmas.Option.{slice_get-get_or}
use Rattle.glb_bags.specs.declared.entry.Entry.{Entry}
use Rattle.glb_bags.specs.declared.entry.Entry.TheVariants.{Range}
use Rattle.glb_bags.specs.Ranges.{AllWhole, IsKept, all_items, all_made}
use Rattle.glb_bags.specs.inner.Entries.{IsReady, IsAsked}
use Rattle.glb_bags.proofs.RangesOfChildren.{AllWhole-append, AllWhole-left, AllWhole-right, all_items-append, all_made-append, empty_range, last_known}

-- lists are equal where what is read of them is
pub same_when_read : {X : Type 0} (xs ys : List X) → map Some xs ≡ map Some ys → xs ≡ ys
same_when_read [] [] e = refl
same_when_read [] (y ∷ ys) e = cc
same_when_read (x ∷ xs) [] e = cc
same_when_read (x ∷ xs) (y ∷ ys) e =
    let tails : map Some xs ≡ map Some ys = cc in
    let heads : x ≡ y = cc in
    ap₂ (λ a as'. a ∷ as') heads (same_when_read xs ys tails)

-- the elements of a list from a place on, read one by one
read_in_a_row : {X : Type 0} (xs : List X) (d : X) (from count : ℕ) → from + count ≤ length xs
    → map Some (take count (drop from xs)) ≡ map (slice_get xs) (range_with_len from count)
read_in_a_row xs d from zero within = refl
read_in_a_row xs d from (suc count) within =
    ap (λ l. map Some (take (suc count) l)) (drop_more xs from d (omega arith))
    ∙ ap₂ (λ o l. o ∷ l) (sym (slice_get-get_or xs from d (omega arith)))
    (read_in_a_row xs d (from + 1) count (omega arith))

-- the children of a parent are read by their numbers
read_of_asked : {X : Type 0} (children : X → List X) (parent : X) (ns : List ℕ)
    → map (λ a. slice_get (children a.0) a.1) (map (λ n. let a : X × ℕ = (parent, n) in a) ns)
    ≡ map (slice_get (children parent)) ns
read_of_asked children parent [] = refl
read_of_asked children parent (n ∷ ns) =
    ap (λ l. slice_get (children parent) n ∷ l) (read_of_asked children parent ns)

module _ {X : Type 0} (children : X → List X) where
  -- the last children of the last entry are asked for
  pub asked_of_last : (old new front : List (Entry X)) (asked : List (X × ℕ)) (parent : X)
      (first made end count from : ℕ) → AllWhole children old
      → old ≡ front ++ Range parent first made end ∷ []
      → new ≡ front ++ Range parent first from end ∷ []
      → end ≤ made → 1 ≤ count → first ≤ from → from + count ≡ made
      → asked ≡ map (λ n. (parent, n)) (range_with_len from count)
      → IsAsked children old new asked
  asked_of_last old new front asked parent first made end count from whole o n none some low all a =
      let xs : List X = children parent in
      let before = subst (AllWhole children) o whole in
      let left = AllWhole-left children front (Range parent first made end ∷ []) before in
      let last = (AllWhole-right children front (Range parent first made end ∷ []) before).0 in
      let full : from + count ≡ end = omega (arith, last.2) in
      let nothing : all_made children old ≡ all_made children front =
      ap (all_made children) o
      ∙ all_made-append children front (Range parent first made end ∷ [])
      ∙ ap (λ l. all_made children front ++ l)
      (append-nil _ ∙ empty_range xs made end none)
      ∙ append-nil _ in
      let group : all_made children new
      ≡ all_made children front ++ take count (drop from xs) =
      ap (all_made children) n
      ∙ all_made-append children front (Range parent first from end ∷ [])
      ∙ ap (λ l. all_made children front ++ l)
      (append-nil _ ∙ ap (λ k. take k (drop from xs)) (omega arith)) in
      record {
        whole = subst (AllWhole children) (sym n)
            (AllWhole-append children front (Range parent first from end ∷ []) left
            ((last.0, low, omega arith, last.3), tt));
        count = omega (
          arith,
          ap length o,
          ap length n,
          length-append front (Range parent first made end ∷ []),
          length-append front (Range parent first from end ∷ []),
        );
        same = ap (all_items children) n
            ∙ all_items-append children front (Range parent first from end ∷ [])
            ∙ sym (all_items-append children front (Range parent first made end ∷ []))
            ∙ sym (ap (all_items children) o);
        numbers = λ k d lt.
            let within : k < count =
            omega (
              arith,
              ap length a,
              length-map-range_with_len {X = X × ℕ} (λ i. (parent, i)) from count,
            ) in
            let is : get_or asked k d ≡ (parent, from + k) =
            ap (λ l. get_or l k d) a
            ∙ get_or-map-range_with_len {X = X × ℕ} (λ i. (parent, i)) from count k (from + k) d within
            refl in
            subst (λ b. b.1 < length (children b.0)) (sym is) (omega (arith, last.3));
        made_is = ap (map Some) group
            ∙ map-append Some (all_made children front) (take count (drop from xs))
            ∙ ap₂ (λ l m. l ++ m) (ap (map Some) (sym nothing))
            (read_in_a_row xs parent from count (omega (arith, last.3))
            ∙ sym (read_of_asked children parent (range_with_len from count))
            ∙ sym (ap (map (λ b. slice_get (children b.0) b.1)) a));
        ready = λ e read.
            subst IsReady (sym (last_known new front (Range parent first from end) e n read).0)
            (omega arith);
      }

  -- what was asked for and made is kept
  pub kept_with_group : (old new : List (Entry X)) (asked : List (X × ℕ))
      (made group after : List X)
      → IsKept children old made → IsAsked children old new asked
      → map Some group ≡ map (λ a. slice_get (children a.0) a.1) asked → after ≡ made ++ group
      → IsKept children new after
  kept_with_group old new asked made group after kept is given after_is = record {
    whole = is.whole;
    made_is = same_when_read after (all_made children new)
        (ap (map Some) after_is ∙ map-append Some made group
        ∙ ap₂ (λ l m. l ++ m) (ap (map Some) kept.made_is) given
        ∙ sym is.made_is);
  }

  -- what was made of all children of an item, behind what was asked for before
  pub group_of_all : (old asked : List (X × ℕ)) (fresh : List X) (x : X) (fan count : ℕ)
      → asked ≡ old ++ map (λ n. (x, n)) (range_with_len 0 fan)
      → map Some fresh ≡ map (λ a. slice_get (children a.0) a.1) asked
      → fan ≡ length (children x) → length old ≡ count
      → (map Some (take count fresh) ≡ map (λ a. slice_get (children a.0) a.1) old)
      × (drop count fresh ≡ children x)
  group_of_all old asked fresh x fan count a given wide long =
      let ns : List ℕ = range_with_len 0 fan in
      let front = map (λ b. slice_get (children b.0) b.1) old in
      let size : length front ≡ count = length-map old (λ b. slice_get (children b.0) b.1) ∙ long in
      let parts : map Some fresh ≡ front ++ map (slice_get (children x)) ns =
      given ∙ ap (map (λ b. slice_get (children b.0) b.1)) a
      ∙ map-append (λ b. slice_get (children b.0) b.1) old
      (map (λ n. let b : X × ℕ = (x, n) in b) ns)
      ∙ ap (λ l. front ++ l) (read_of_asked children x ns) in (
        sym (take-map Some count fresh) ∙ ap (take count) parts
            ∙ take_at front (map (slice_get (children x)) ns) count size,
        same_when_read (drop count fresh) (children x)
            (sym (drop-map Some count fresh) ∙ ap (drop count) parts
            ∙ drop_at front (map (slice_get (children x)) ns) count size
            ∙ sym (read_in_a_row (children x) x 0 fan (omega arith))
            ∙ ap (map Some) (take_all fan (children x) (omega arith))),
      )

  -- the same where more stands behind what was made
  pub group_within : (old asked : List (X × ℕ)) (fresh : List X) (x : X) (fan count n : ℕ)
      → asked ≡ old ++ map (λ n. (x, n)) (range_with_len 0 fan)
      → map Some (take n fresh) ≡ map (λ a. slice_get (children a.0) a.1) asked
      → fan ≡ length (children x) → length old ≡ count → n ≡ length asked
      → (map Some (take count fresh) ≡ map (λ a. slice_get (children a.0) a.1) old)
      × (take (n - count) (drop count fresh) ≡ children x)
  group_within old asked fresh x fan count n a given wide long all =
      let some : List X = take n fresh in
      let front : List X = take count fresh in
      let back : List X = take (n - count) (drop count fresh) in
      let made : length some ≡ length asked =
      sym (length-map some Some) ∙ ap length given
      ∙ length-map asked (λ b. slice_get (children b.0) b.1) in
      let more : count + (n - count) ≡ n =
      omega (
        arith,
        ap length a,
        length-append old (map (λ n. let b : X × ℕ = (x, n) in b) (range_with_len 0 fan)),
      ) in
      let size : length front ≡ count =
      omega (arith, length-take count fresh, length-take n fresh) in
      let parts : some ≡ front ++ back =
      ap (λ i. take i fresh) (sym more) ∙ take-add count (n - count) fresh in
      let both = group_of_all old asked some x fan count a given wide long in (
        ap (map Some) (sym (ap (take count) parts ∙ take_at front back count size)) ∙ both.0,
        sym (ap (drop count) parts ∙ drop_at front back count size) ∙ both.1,
      )

  -- all children of an item may be asked for
  pub numbers_of_all : (old asked : List (X × ℕ)) (x : X) (fan : ℕ)
      → asked ≡ old ++ map (λ n. (x, n)) (range_with_len 0 fan) → fan ≡ length (children x)
      → All (λ a. a.1 < length (children a.0)) old
      → All (λ a. a.1 < length (children a.0)) asked
  numbers_of_all old asked x fan a wide before =
      subst (All (λ b. b.1 < length (children b.0))) (sym a)
      (All-append (λ b. b.1 < length (children b.0)) old (map (λ n. (x, n)) (range_with_len 0 fan))
      before (λ k d lt.
      let within : k < fan =
      omega (arith, length-map-range_with_len {X = X × ℕ} (λ n. (x, n)) 0 fan) in
      subst (λ b. b.1 < length (children b.0))
      (sym (get_or-map-range_with_len {X = X × ℕ} (λ n. (x, n)) 0 fan k k d within
      (omega arith)))
      (omega arith)))
