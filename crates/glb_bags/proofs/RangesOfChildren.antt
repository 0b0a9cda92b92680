-- Entries without their last item, and entries joined and cut.
use Rattle.std.proofs.Common.{◌≡◌, ℕ, ◌+◌, ◌-◌, ◌<◌, ◌≤◌, Bool, true, false, ◌++◌, ◌∷◌, [], List, length, take, drop, get_or, cond, nat_lt, refl, sym, ap, subst, ◌∙◌, arith, append_assoc, append-nil, length-append, length-drop, length-take, take-add, get_or-drop, set, length-set}
use Rattle.std.proofs.lemmas.List.{get_or_default, take_more, take_more_set, take_all, nil_from_length, drop-drop, take_at}
use borrow.Author.Tests.{ltb-true, ltb-false}
use Rattle.std.proofs.lemmas.List.Concat.{flat_map-append}
use Rattle.std.specs.List.{sum_by, slice_range}
use Rattle.std.proofs.lemmas.List.Sums.{sum_by-cons}
use Rattle.glb_bags.specs.declared.entry.Entry.{Entry}
use Rattle.glb_bags.specs.declared.entry.Entry.TheVariants.{One, Range}
use Rattle.glb_bags.specs.Ranges.{entry_items, made_items, IsWhole, AllWhole, IsKept, all_items, all_made}
use Rattle.glb_bags.specs.inner.Entries.{entry_size, made_size, IsReady, without_last, all_children}

module _ {X : Type 0} (children : X → List X) where
  pub all_items-append : (es fs : List (Entry X))
      → all_items children (es ++ fs) ≡ all_items children es ++ all_items children fs
  all_items-append es fs = flat_map-append (entry_items children) es fs

  pub all_made-append : (es fs : List (Entry X))
      → all_made children (es ++ fs) ≡ all_made children es ++ all_made children fs
  all_made-append es fs = flat_map-append (made_items children) es fs

  pub AllWhole-append : (es fs : List (Entry X)) → AllWhole children es → AllWhole children fs
      → AllWhole children (es ++ fs)
  AllWhole-append [] fs g h = h
  AllWhole-append (e ∷ es) fs g h = (g.0, AllWhole-append es fs g.1 h)

  pub AllWhole-left : (es fs : List (Entry X)) → AllWhole children (es ++ fs)
      → AllWhole children es
  AllWhole-left [] fs h = tt
  AllWhole-left (e ∷ es) fs h = (h.0, AllWhole-left es fs h.1)

  pub AllWhole-right : (es fs : List (Entry X)) → AllWhole children (es ++ fs)
      → AllWhole children fs
  AllWhole-right [] fs h = h
  AllWhole-right (e ∷ es) fs h = AllWhole-right es fs h.1

-- a part of a list, and its last element
pub last_of_range : {X : Type 0} (xs : List X) (from end : ℕ) (d : X) → from < end → end ≤ length xs
    → slice_range xs from end ≡ slice_range xs from (end - 1) ++ get_or xs (end - 1) d ∷ []
last_of_range xs from end d some within =
    let k : ℕ = end - 1 - from in
    let long : k < length (drop from xs) = omega (arith, length-drop from xs) in
    let place : from + k ≡ end - 1 = omega arith in
    let all : k + 1 ≡ end - from = omega arith in
    ap (λ n. take n (drop from xs)) (sym all)
    ∙ take_more (drop from xs) k d long
    ∙ ap (λ y. take k (drop from xs) ++ y ∷ [])
    (get_or-drop from xs k d ∙ ap (λ i. get_or xs i d) place)

-- an empty part of a list
pub empty_range : {X : Type 0} (xs : List X) (from end : ℕ) → end ≤ from
    → slice_range xs from end ≡ []
empty_range xs from end h =
    let none : end - from ≡ 0 = omega arith in
    ap (λ n. take n (drop from xs)) none

-- a part of a list, cut in two
pub cut_of_range : {X : Type 0} (xs : List X) (from middle end : ℕ) → from ≤ middle → middle ≤ end
    → slice_range xs from end ≡ slice_range xs from middle ++ slice_range xs middle end
cut_of_range xs from middle end a b =
    let all : end - from ≡ (middle - from) + (end - middle) = omega arith in
    let place : from + (middle - from) ≡ middle = omega arith in
    ap (λ n. take n (drop from xs)) all
    ∙ take-add (middle - from) (end - middle) (drop from xs)
    ∙ ap (λ l. take (middle - from) (drop from xs) ++ take (end - middle) l)
    (drop-drop (middle - from) from xs ∙ ap (λ n. drop n xs) place)

-- how long a part of a list is
pub length-range : {X : Type 0} (xs : List X) (from end : ℕ) → end ≤ length xs
    → length (slice_range xs from end) ≡ end - from
length-range xs from end h =
    omega (arith, length-take (end - from) (drop from xs), length-drop from xs)

-- an entry gives up its last item, which is made
pub record GivesUp {X : Type 0} (children : X → List X) (e : Entry X) : Type 0 where
  pub item : X
  pub items_are : entry_items children e ≡ all_items children (without_last e) ++ item ∷ []
  pub made_are : made_items children e ≡ all_made children (without_last e) ++ item ∷ []

module _ {X : Type 0} (children : X → List X) where
  pub gives_up : (e : Entry X) → IsWhole children e → IsReady e → GivesUp children e
  gives_up (One x) whole ready = record { item = x; items_are = refl; made_are = refl }
  gives_up (Range parent first made end) whole ready =
      let xs : List X = children parent in
      let d : X = parent in
      record {
        item = get_or xs (end - 1) d;
        items_are = last_of_range xs first end d whole.0 whole.3
            ∙ ap (λ l. l ++ get_or xs (end - 1) d ∷ []) (sym (items (nat_lt (first + 1) end) refl));
        made_are = last_of_range xs made end d ready whole.3
            ∙ ap (λ l. l ++ get_or xs (end - 1) d ∷ []) (sym (mades (nat_lt (first + 1) end) refl));
      }
    where
      rest : List (Entry X)
      rest = Range parent first made (end - 1) ∷ []

      items : (b : Bool) → nat_lt (first + 1) end ≡ b
          → all_items children (cond b (Range parent first made (end - 1) ∷ []) [])
          ≡ slice_range (children parent) first (end - 1)
      items true e = append-nil _
      items false e =
          let h : end ≤ first + 1 = ltb-false (first + 1) end e in
          sym (empty_range (children parent) first (end - 1) (omega arith))

      mades : (b : Bool) → nat_lt (first + 1) end ≡ b
          → all_made children (cond b (Range parent first made (end - 1) ∷ []) [])
          ≡ slice_range (children parent) made (end - 1)
      mades true e = append-nil _
      mades false e =
          let h : end ≤ first + 1 = ltb-false (first + 1) end e in
          sym (empty_range (children parent) made (end - 1) (omega (arith, whole.1)))

  pub without_last-whole : (e : Entry X) → IsWhole children e → IsReady e
      → AllWhole children (without_last e)
  without_last-whole (One x) whole ready = tt
  without_last-whole (Range parent first made end) whole ready = part (nat_lt (first + 1) end) refl
    where
      part : (b : Bool) → nat_lt (first + 1) end ≡ b
          → AllWhole children (cond b (Range parent first made (end - 1) ∷ []) [])
      part true e =
          let l : first + 1 < end = ltb-true (first + 1) end e in
          ((omega arith, whole.1, omega (arith, ready), omega (arith, whole.3)), tt)
      part false e = tt

  pub all_children-whole : (x : X) (n : ℕ) (opened : Bool) → n ≡ length (children x)
      → AllWhole children (all_children x n opened)
  all_children-whole x n opened h = part (nat_lt 0 n) refl
    where
      low : (o : Bool) → cond o 0 n ≤ n
      low true = omega arith
      low false = omega arith

      part : (b : Bool) → nat_lt 0 n ≡ b
          → AllWhole children (cond b (Range x 0 (cond opened 0 n) n ∷ []) [])
      part true e =
          let l : 0 < n = ltb-true 0 n e in
          ((l, omega arith, low opened, omega arith), tt)
      part false e = tt

  -- all children of an item are a range, whatever is made of it
  range_of_all : (x : X) (n : ℕ) → n ≡ length (children x)
      → slice_range (children x) 0 n ≡ children x
  range_of_all x n h =
      let z : n - 0 ≡ n = omega arith in
      ap (λ m. take m (children x)) z ∙ take_all n (children x) (omega arith)

  pub all_children-items : (x : X) (n : ℕ) (opened : Bool) → n ≡ length (children x)
      → all_items children (all_children x n opened) ≡ children x
  all_children-items x n opened h = part (nat_lt 0 n) refl
    where
      part : (b : Bool) → nat_lt 0 n ≡ b
          → all_items children (cond b (Range x 0 (cond opened 0 n) n ∷ []) []) ≡ children x
      part true e = append-nil _ ∙ range_of_all x n h
      part false e =
          let l : n ≤ 0 = ltb-false 0 n e in
          sym (nil_from_length (children x) (omega arith))

  pub all_children-made : (x : X) (n : ℕ) (opened : Bool) → n ≡ length (children x)
      → all_made children (all_children x n opened) ≡ cond opened (children x) []
  all_children-made x n opened h = part (nat_lt 0 n) opened refl
    where
      part : (b o : Bool) → nat_lt 0 n ≡ b
          → all_made children (cond b (Range x 0 (cond o 0 n) n ∷ []) []) ≡ cond o (children x) []
      part true true e = append-nil _ ∙ range_of_all x n h
      part true false e = append-nil _ ∙ empty_range (children x) n n (omega arith)
      part false true e =
          let l : n ≤ 0 = ltb-false 0 n e in
          sym (nil_from_length (children x) (omega arith))
      part false false e = refl

-- a list and its last element
pub last_split : {X : Type 0} (xs : List X) (x : X) → 0 < length xs
    → x ≡ get_or xs (length xs - 1) x → xs ≡ take (length xs - 1) xs ++ x ∷ []
last_split xs x some read =
    let i : ℕ = length xs - 1 in
    let more = take_more xs i x (omega arith) in
    let end : take (i + 1) xs ≡ xs = take_all (i + 1) xs (omega arith) in
    sym end ∙ more ∙ ap (λ y. take i xs ++ y ∷ []) (sym read)

-- the same of a list whose last element is known
pub last_known : {X : Type 0} (xs front : List X) (x y : X) → xs ≡ front ++ x ∷ []
    → y ≡ get_or xs (length xs - 1) y → (y ≡ x) × (take (length xs - 1) xs ≡ front)
last_known {X = X} xs front x y e read =
    let long : length xs ≡ length front + 1 =
    omega (arith, ap length e, length-append front (x ∷ [])) in
    let k : length xs - 1 ≡ length front = omega arith in (
      read ∙ ap (λ i. get_or xs i y) k ∙ ap (λ l. get_or l (length front) y) e
          ∙ last_read front,
      ap (λ i. take i xs) k ∙ ap (take (length front)) e
          ∙ take_at front (x ∷ []) (length front) refl,
    )
  where
    last_read : (ys : List X) → get_or (ys ++ x ∷ []) (length ys) y ≡ x
    last_read [] = refl
    last_read (z ∷ ys) = last_read ys

module _ {X : Type 0} (children : X → List X) where
  pub size_of_items : (e : Entry X) → IsWhole children e
      → length (entry_items children e) ≡ entry_size e
  size_of_items (One x) h = refl
  size_of_items (Range parent first made end) h = length-range (children parent) first end h.3

  pub size_of_made : (e : Entry X) → IsWhole children e
      → length (made_items children e) ≡ made_size e
  size_of_made (One x) h = refl
  size_of_made (Range parent first made end) h = length-range (children parent) made end h.3

  some_items : (e : Entry X) → IsWhole children e → 1 ≤ length (entry_items children e)
  some_items (One x) h = omega arith
  some_items (Range parent first made end) h =
      omega (arith, size_of_items (Range parent first made end) h, h.0)

  -- each whole entry has an item
  pub AllWhole-some : (es : List (Entry X)) → AllWhole children es
      → length es ≤ length (all_items children es)
  AllWhole-some [] h = omega arith
  AllWhole-some (e ∷ es) h =
      omega (
        arith,
        AllWhole-some es h.1,
        some_items e h.0,
        length-append (entry_items children e) (all_items children es),
      )

  pub AllWhole-size : (es : List (Entry X)) → AllWhole children es
      → length (all_items children es) ≡ sum_by entry_size es
  AllWhole-size [] h = refl
  AllWhole-size (e ∷ es) h =
      omega (
        arith,
        AllWhole-size es h.1,
        size_of_items e h.0,
        length-append (entry_items children e) (all_items children es),
        sum_by-cons entry_size e es,
      )

  pub AllWhole-made : (es : List (Entry X)) → AllWhole children es
      → length (all_made children es) ≡ sum_by made_size es
  AllWhole-made [] h = refl
  AllWhole-made (e ∷ es) h =
      omega (
        arith,
        AllWhole-made es h.1,
        size_of_made e h.0,
        length-append (made_items children e) (all_made children es),
        sum_by-cons made_size e es,
      )

-- a bag before and after its last item was expanded
pub record IsTaken {X : Type 0} (children : X → List X) (entries after : List (Entry X))
    (made_after : List X) (item : X) : Type 0 where
  pub rest : List X
  pub before_is : all_items children entries ≡ rest ++ item ∷ []
  pub after_is : all_items children after ≡ rest ++ children item
  pub kept : IsKept children after made_after

module _ {X : Type 0} (children : X → List X) where
  -- the last entry of whole ones is whole
  pub last_whole : (entries front : List (Entry X)) (e : Entry X) → AllWhole children entries
      → entries ≡ front ++ e ∷ [] → IsWhole children e
  last_whole entries front e whole o =
      (AllWhole-right children front (e ∷ []) (subst (AllWhole children) o whole)).0

  -- where the last item is made, something is made
  pub some_made : (entries front : List (Entry X)) (made : List X) (e : Entry X)
      → IsKept children entries made → entries ≡ front ++ e ∷ [] → IsReady e → 0 < length made
  some_made entries front made e kept o ready =
      let whole = last_whole entries front e kept.whole o in
      let last = gives_up children e whole ready in
      let rest : List X = all_made children (without_last e) in
      omega (
        arith,
        ap length kept.made_is,
        ap (λ l. length (all_made children l)) o,
        ap length (all_made-append children front (e ∷ [])),
        length-append (all_made children front) (made_items children e ++ []),
        length-append (made_items children e) [],
        ap length last.made_are,
        length-append rest (last.item ∷ []),
      )

  -- the last entry gives up its last item, and the item's children come last
  pub taken : (entries front after : List (Entry X)) (made made_after : List X) (e : Entry X)
      (item : X) (fan : ℕ) (opened : Bool) → IsKept children entries made
      → entries ≡ front ++ e ∷ [] → IsReady e → item ≡ get_or made (length made - 1) item
      → made_after ≡ take (length made - 1) made ++ cond opened (children item) []
      → fan ≡ length (children item)
      → after ≡ (front ++ without_last e) ++ all_children item fan opened
      → IsTaken children entries after made_after item
  taken entries front after made made_after e item fan opened kept o ready read cut wide n =
      let left = AllWhole-left children front (e ∷ []) (subst (AllWhole children) o kept.whole) in
      let whole = last_whole entries front e kept.whole o in
      let last = gives_up children e whole ready in
      let before : List (Entry X) = front ++ without_last e in
      let mades : made ≡ all_made children before ++ last.item ∷ [] =
      kept.made_is ∙ ap (all_made children) o
      ∙ all_made-append children front (e ∷ [])
      ∙ ap (λ l. all_made children front ++ l) (append-nil _ ∙ last.made_are)
      ∙ sym (append_assoc (all_made children front) (all_made children (without_last e))
      (last.item ∷ []))
      ∙ ap (λ l. l ++ last.item ∷ []) (sym (all_made-append children front (without_last e))) in
      let known = last_known made (all_made children before) last.item item mades read in
      record {
        rest = all_items children before;
        before_is = ap (all_items children) o
            ∙ all_items-append children front (e ∷ [])
            ∙ ap (λ l. all_items children front ++ l) (append-nil _ ∙ last.items_are)
            ∙ sym (append_assoc (all_items children front) (all_items children (without_last e))
            (last.item ∷ []))
            ∙ ap (λ l. l ++ last.item ∷ []) (sym (all_items-append children front (without_last e)))
            ∙ ap (λ x. all_items children before ++ x ∷ []) (sym known.0);
        after_is = ap (all_items children) n
            ∙ all_items-append children before (all_children item fan opened)
            ∙ ap (λ l. all_items children before ++ l)
            (all_children-items children item fan opened wide);
        kept = record {
          whole = subst (AllWhole children) (sym n)
              (AllWhole-append children before (all_children item fan opened)
              (AllWhole-append children front (without_last e) left
              (without_last-whole children e whole ready))
              (all_children-whole children item fan opened wide));
          made_is = cut ∙ ap (λ l. l ++ cond opened (children item) []) known.1
              ∙ ap (λ l. all_made children before ++ l)
              (sym (all_children-made children item fan opened wide))
              ∙ sym (all_made-append children before (all_children item fan opened))
              ∙ sym (ap (all_made children) n);
        };
      }

-- a list whose last element was read, and is known
pub last_read : {X : Type 0} (xs : List X) (e x : X) (n : ℕ) → n ≡ length xs → 0 < length xs
    → e ≡ get_or xs (n - 1) e → e ≡ x → xs ≡ take (length xs - 1) xs ++ x ∷ []
last_read xs e x n long some read is =
    let k : n - 1 ≡ length xs - 1 = omega arith in
    last_split xs e some (read ∙ ap (λ i. get_or xs i e) k)
    ∙ ap (λ y. take (length xs - 1) xs ++ y ∷ []) is

-- a list whose last element is replaced
pub last_set : {X : Type 0} (xs : List X) (y : X) (n : ℕ) → n ≡ length xs → 0 < length xs
    → set xs (n - 1) y ≡ take (length xs - 1) xs ++ y ∷ []
last_set xs y n long some =
    let k : n - 1 ≡ length xs - 1 = omega arith in
    let size : length (set xs (length xs - 1) y) ≡ length xs = length-set xs (length xs - 1) y in
    ap (λ i. set xs i y) k
    ∙ sym (take_all (length xs - 1 + 1) (set xs (length xs - 1) y) (omega arith))
    ∙ take_more_set xs (length xs - 1) y (omega arith)

-- the last element of a list that has one
pub record LastOf {X : Type 0} (xs : List X) : Type 0 where
  pub element : X
  pub read : element ≡ get_or xs (length xs - 1) element
  pub split : xs ≡ take (length xs - 1) xs ++ element ∷ []

pub last_of : {X : Type 0} (xs : List X) → 0 < length xs → LastOf xs
last_of [] some = absurd (omega arith)
last_of (x ∷ xs) some =
    let i : ℕ = length (x ∷ xs) - 1 in
    let read = get_or_default (x ∷ xs) i x (get_or (x ∷ xs) i x) (omega arith) in
    record {
      element = get_or (x ∷ xs) i x;
      read = read;
      split = last_split (x ∷ xs) (get_or (x ∷ xs) i x) some read;
    }

-- the last entry is changed in its place
pub last_changed : {X : Type 0} (old front : List (Entry X)) (e read rest : Entry X) (n : ℕ)
    → n ≡ length old → 0 < length old → old ≡ front ++ e ∷ [] → read ≡ get_or old (n - 1) read
    → rest ∷ [] ≡ without_last read → set old (n - 1) rest ≡ front ++ without_last e
last_changed old front e read rest n long some split at is =
    let k : n - 1 ≡ length old - 1 = omega arith in
    let known = last_known old front e read split (at ∙ ap (λ i. get_or old i read) k) in
    last_set old rest n long some
    ∙ ap (λ l. l ++ rest ∷ []) known.1
    ∙ ap (λ l. front ++ l) (is ∙ ap without_last known.0)

-- the last entry is taken off, since it has no other item
pub last_gone : {X : Type 0} (old new front : List (Entry X)) (e read : Entry X) (n m : ℕ)
    → n ≡ length old → m ≡ length old → old ≡ front ++ e ∷ [] → read ≡ get_or old (n - 1) read
    → [] ≡ without_last read → new ≡ take (m - 1) old → new ≡ front ++ without_last e
last_gone old new front e read n m long same split at is cut =
    let k : n - 1 ≡ length old - 1 = omega arith in
    let j : m - 1 ≡ length old - 1 = omega arith in
    let known = last_known old front e read split (at ∙ ap (λ i. get_or old i read) k) in
    cut ∙ ap (λ i. take i old) j ∙ known.1 ∙ sym (append-nil front)
    ∙ ap (λ l. front ++ l) (is ∙ ap without_last known.0)
