-- The roots with which the places of a run start.
use Rattle.std.proofs.Common.{◌≡◌, ℕ, zero, suc, ◌+◌, ◌%◌, ◌==◌, ◌<◌, ◌≤◌, Bool, true, false, cond}
use Rattle.std.proofs.Common.{List, [], ◌∷◌, ◌++◌, length, map, get_or, refl, sym, ap, subst, ◌∙◌}
use Rattle.std.proofs.Common.{arith, rules, ⊎_elim}
use Rattle.std.specs.Prelude.{All, Some, nat_lt, not, slice_get, IsPermutation}
use Rattle.std.specs.List.{range_with_len}
use Rattle.std.proofs.lemmas.Bool.{cases_lt, lt-ltb, ne_eqb}
use Rattle.std.proofs.lemmas.Nat.{mod_below}
use Rattle.std.proofs.lemmas.List.{length-append, get_or-map, get_or_past}
use Rattle.std.proofs.lemmas.List.FromFn.{length-map-range_with_len, get_or-map-range_with_len}
use Rattle.std.proofs.lemmas.List.Sorted.{length_permutation}
use Rattle.std.proofs.lemmas.Option.{same_Some, slice_get-get_or, slice_get_within}
use Rattle.glb_laws.proofs.Joins.{join_same}
use Rattle.glb_tree.specs.Spread.{dealt, dealt_from}
use Rattle.glb_tree.proofs.Dealing.{joined_dealt}
use Rattle.glb_stats.specs.Balances.{HasSmallUnits, IsBalanced, StartsByRoots}
use Rattle.glb_cube.specs.Lines.{Cube}
use Rattle.glb_rules.specs.Joins.{join_to}
use Rattle.glb_rules.specs.Setups.{has_items}
use Rattle.glb_rules.specs.declared.params.Params.{Params}
use Rattle.glb_core.specs.Counters.{all_awake}
use Rattle.glb_core.specs.Lifelines.{setup_for}
use Rattle.glb_run.specs.Roots.{at_first, roots_by, numbers_of}
use Rattle.glb_run.specs.Runs.{lone_counters, AreLoneCounters}

module _ {X : Type 0} where
  -- a place is dealt no more than there is
  dealt_few : (places p n : ℕ) (xs : List X) → length (dealt_from places p n xs) ≤ length xs
  dealt_few places p n [] = omega arith
  dealt_few places p n (x ∷ xs) = go (n % places == p) (dealt_few places p (n + 1) xs)
    where
      go : (b : Bool) → length (dealt_from places p (n + 1) xs) ≤ length xs
          → length (cond b (x ∷ dealt_from places p (n + 1) xs) (dealt_from places p (n + 1) xs))
          ≤ suc (length xs)
      go true h = omega (arith, h)
      go false h = omega (arith, h)

  -- a number that is no place is dealt nothing
  dealt_beyond : (places p n : ℕ) (xs : List X) → 0 < places → places ≤ p
      → dealt_from places p n xs ≡ []
  dealt_beyond places p n [] some high = refl
  dealt_beyond places p n (x ∷ xs) some high =
      let low = mod_below n places some in
      let rest = dealt_beyond places p (n + 1) xs some high in
      rw (ne_eqb (n % places) p (λ e. omega (arith, low, e, high))) rest

  -- lists that are dealt to the places, and of which there are no others
  pub lists_dealt : (places : ℕ) (items : List X) (lists : List (List X)) → 0 < places
      → length lists ≡ places
      → ((p : ℕ) → p < places → get_or lists p [] ≡ dealt places items p)
      → (p : ℕ) → get_or lists p [] ≡ dealt places items p
  lists_dealt places items lists some many dealt_are p =
      ⊎_elim (λ low. dealt_are p low)
      (λ high. get_or_past lists p [] (omega (arith, many, high))
      ∙ sym (dealt_beyond places p 0 items some high))
      (cases_lt p places)

  -- nothing stands at the places after the first
  first_alone : (root : X) (places : ℕ) → 0 < places → join_to places (at_first root) ≡ root ∷ []
  first_alone root zero some = absurd (omega (arith, some))
  first_alone root (suc zero) some = refl
  first_alone root (suc (suc n)) some =
      ap (λ l. l ++ []) (first_alone root (suc n) (omega arith))

  -- where the children are few, the roots of each place are
  pub few_roots : (spread : Bool) (places most : ℕ) (children : X → List X) (root : X) (p : ℕ)
      → length (children root) ≤ most → 1 ≤ most
      → length (roots_by spread places children root p) ≤ most
  few_roots true places most children root p few one =
      omega (arith, dealt_few places p 0 (children root), few)
  few_roots false places most children root zero few one = one
  few_roots false places most children root (suc p) few one = omega arith

  -- and those of all places
  pub few_in_all : (spread : Bool) (places most : ℕ) (children : X → List X) (root : X)
      → 0 < places → length (children root) ≤ most → 1 ≤ most
      → length (join_to places (roots_by spread places children root)) ≤ most
  few_in_all true places most children root some few one =
      omega (arith, length_permutation _ _ (joined_dealt places some (children root)), few)
  few_in_all false places most children root some few one =
      omega (arith, ap length (first_alone root places some), one)

  -- lists that agree, joined
  pub joined_alike : (n m : ℕ) (f g : ℕ → List X) → n ≡ m → ((p : ℕ) → f p ≡ g p)
      → join_to n f ≡ join_to m g
  joined_alike n m f g e same = ap (λ k. join_to k f) e ∙ join_same m g f (λ p low. same p)

module _ {A X : Type 0} (of : A → List X) where
  -- a list behind others
  list_behind : (done rest : List A) (x : A)
      → get_or (map of (done ++ x ∷ rest)) (length done) [] ≡ of x
  list_behind [] rest x = refl
  list_behind (y ∷ ys) rest x = list_behind ys rest x

  -- one list more is joined
  pub joined_more : (whole done rest : List A) (x : A) (all longer : List X)
      → whole ≡ done ++ x ∷ rest → longer ≡ all ++ of x
      → all ≡ join_to (length done) (λ p. get_or (map of whole) p [])
      → longer ≡ join_to (length (done ++ x ∷ [])) (λ p. get_or (map of whole) p [])
  joined_more whole done rest x all longer e more so_far =
      let f : ℕ → List X = λ p. get_or (map of whole) p [] in
      let here : f (length done) ≡ of x =
      ap (λ (l : List A). get_or (map of l) (length done) []) e ∙ list_behind done rest x in
      let one : length (done ++ x ∷ []) ≡ suc (length done) =
      omega (arith, length-append done (x ∷ [])) in
      more ∙ ap (λ l. l ++ of x) so_far ∙ ap (λ l. join_to (length done) f ++ l) (sym here)
      ∙ ap (λ n. join_to n f) (sym one)

  -- the lengths of lists, by number
  numbers_from : (lists : List A) (a : ℕ) (roots : ℕ → List X)
      → ((p : ℕ) → p < length lists → get_or (map of lists) p [] ≡ roots (a + p))
      → map (λ l. length (of l)) lists
      ≡ map (λ p. length (roots p)) (range_with_len a (length lists))
  numbers_from [] a roots are = refl
  numbers_from (l ∷ lists) a roots are =
      let here : a + 0 ≡ a = omega arith in
      let first : length (of l) ≡ length (roots a) =
      ap length (are 0 (omega arith) ∙ ap roots here) in
      let rest = numbers_from lists (a + 1) roots
      (λ p low. are (suc p) (omega (arith, low))
      ∙ ap roots (let e : a + suc p ≡ a + 1 + p = omega arith in e)) in
      ap (λ n. n ∷ map (λ k. length (of k)) lists) first
      ∙ ap (λ ns. length (roots a) ∷ ns) rest

  -- how many roots each place has
  pub numbers_listed : (lists : List A) (places : ℕ) (roots : ℕ → List X) → length lists ≡ places
      → ((p : ℕ) → get_or (map of lists) p [] ≡ roots p)
      → map (λ l. length (of l)) lists ≡ numbers_of places roots
  numbers_listed lists places roots many are =
      numbers_from lists 0 roots (λ p low. are p ∙ ap roots (let e : p ≡ 0 + p = omega arith in e))
      ∙ ap (λ n. numbers_of n roots) many

  -- where the roots of each place are few, each list is short
  pub lists_few : (lists : List A) (most : ℕ) (roots : ℕ → List X)
      → ((p : ℕ) → get_or (map of lists) p [] ≡ roots p)
      → ((p : ℕ) → length (roots p) ≤ most)
      → All (λ l. length (of l) ≤ most) lists
  lists_few lists most roots are few p d low =
      omega (
        arith,
        ap length (sym (get_or-map of lists p d [] low) ∙ are p),
        few p,
      )

-- a number that is not 0 is above it
pub not_zero : (n : ℕ) → not (n == 0) ≡ nat_lt 0 n
not_zero zero = refl
not_zero (suc n) =
    ap not (ne_eqb (suc n) 0 (λ e. omega (arith, e))) ∙ sym (lt-ltb 0 (suc n) (omega arith))

-- a list has a member where its length is above 0
of_length : {X : Type 0} (xs : List X) → has_items xs ≡ nat_lt 0 (length xs)
of_length [] = refl
of_length (x ∷ xs) = sym (lt-ltb 0 (suc (length xs)) (omega arith))

-- and where that of another order of it is
has_some : {X : Type 0} (xs ys : List X) → IsPermutation xs ys
    → has_items ys ≡ nat_lt 0 (length xs)
has_some xs ys h = of_length ys ∙ ap (nat_lt 0) (length_permutation xs ys h)

-- what stands at a number of a list by number
stands : {A : Type 0} (f : ℕ → A) (n p : ℕ) (x : A)
    → slice_get (map f (range_with_len 0 n)) p ≡ Some x → (x ≡ f p) × (p < n)
stands f n p x e =
    let here = slice_get_within (map f (range_with_len 0 n)) p x e in
    let low : p < n = omega (arith, here, length-map-range_with_len f 0 n) in (
      same_Some _ _ (sym e ∙ slice_get-get_or (map f (range_with_len 0 n)) p (f 0) here)
          ∙ get_or-map-range_with_len f 0 n p p (f 0) low (omega arith),
      low,
    )

-- each place starts awake exactly where it has roots
pub starts_by_roots : {X : Type 0} (c : Cube) (q : Params) (roots bags : ℕ → List X)
    → c.places ≡ q.places
    → ((p : ℕ) → p < q.places → IsPermutation (roots p) (bags p))
    → StartsByRoots (all_awake (setup_for c q bags)) (numbers_of q.places roots)
starts_by_roots c q roots bags many same = λ p is_awake number awake has.
    let a = stands (λ k. has_items (bags k)) c.places p is_awake awake in
    let b = stands (λ k. length (roots k)) q.places p number has in
    a.0 ∙ has_some (roots p) (bags p) (same p b.1) ∙ ap (nat_lt 0) (sym b.0)

-- the one place of a run in one bag
lone_balanced : (awake : Bool) (items : ℕ)
    → IsBalanced (lone_counters awake items ∷ []) items (0 ∷ []) (awake ∷ [])
lone_balanced true items = search rules
lone_balanced false items = search rules

lone_starts : (awake : Bool) (number : ℕ) → awake ≡ nat_lt 0 number
    → StartsByRoots (awake ∷ []) (number ∷ [])
lone_starts awake number e = λ p is_awake n a b. go p is_awake n a b
  where
    go : (p : ℕ) (is_awake : Bool) (n : ℕ) → slice_get (awake ∷ []) p ≡ Some is_awake
        → slice_get (number ∷ []) p ≡ Some n → is_awake ≡ nat_lt 0 n
    go zero is_awake n a b = sym (same_Some _ _ a) ∙ e ∙ ap (nat_lt 0) (same_Some _ _ b)
    go (suc p) is_awake n a b = absurd (omega (arith, slice_get_within (number ∷ []) (suc p) n b))

-- its counters, where it was awake exactly where there are roots
pub lone_told : {X : Type 0} (roots : List X) (awake : Bool) (items : ℕ)
    → awake ≡ nat_lt 0 (length roots)
    → AreLoneCounters roots items (lone_counters awake items ∷ [])
lone_told roots awake items e =
    let has : has_items roots ≡ awake = of_length roots ∙ sym e in
    record {
      counters_are = ap (λ b. lone_counters b items ∷ []) (sym has);
      balance = subst (λ b. IsBalanced (lone_counters awake items ∷ []) items (0 ∷ []) (b ∷ []))
          (sym has) (lone_balanced awake items);
      starts = lone_starts (has_items roots) (length roots) (of_length roots);
    }

-- and they can be written
pub lone_small : (awake : Bool) (items : ℕ) → All HasSmallUnits (lone_counters awake items ∷ [])
lone_small awake items = search rules
