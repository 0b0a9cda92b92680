-- Entries that are cut in two, with what is made of them.
use Rattle.std.proofs.Common.{◌≡◌, ℕ, ◌-◌, ◌<◌, ◌≤◌, ◌++◌, ◌∷◌, [], List, length, take, drop, map, min, max, sym, ap, ap₂, subst, ◌∙◌, arith, append-nil, length-append, length-drop, length-take, take-append-drop, get_or, inl, inr}
use Rattle.std.proofs.lemmas.List.{take_at, drop_at}
use Rattle.std.proofs.lemmas.Bool.{cases_lt}
use Rattle.std.specs.List.{sum_by, slice_range}
use Rattle.glb_bags.specs.declared.entry.Entry.{Entry}
use Rattle.glb_bags.specs.declared.entry.Entry.TheVariants.{Range}
use Rattle.glb_bags.specs.Ranges.{AllWhole, IsKept, closed_item, all_items, all_made}
use Rattle.glb_bags.specs.inner.Entries.{made_size, IsCut}
use Rattle.glb_bags.specs.declared.entry.Made.{Made}
use Rattle.glb_bags.proofs.OpenedItems.{held_closed}
use Rattle.glb_bags.proofs.RangesOfChildren.{AllWhole-left, AllWhole-right, AllWhole-some, AllWhole-made, all_items-append, all_made-append, cut_of_range, empty_range, length-range}

-- entries that were cut in two, each with what is made of it
pub record IsCutKept {X : Type 0} (children : X → List X) (old part : List (Entry X))
    (part_made : List X) (rest : List (Entry X)) (rest_made : List X) : Type 0 where
  pub part_kept : IsKept children part part_made
  pub rest_kept : IsKept children rest rest_made
  pub joined : all_items children old ≡ all_items children part ++ all_items children rest
  pub part_some : 0 < length (all_items children part)
  pub rest_some : 0 < length (all_items children rest)

module _ {X : Type 0} (children : X → List X) where
  -- where no item is opened, what is kept is held
  pub cut_held : (old part rest : List (Entry X)) (xs ys : List X) (ms ns : List (Made X))
      → IsCutKept children old part xs rest ys → ms ≡ map closed_item xs → ns ≡ map closed_item ys
      → IsCut children old part ms rest ns
  cut_held old part rest xs ys ms ns is m n = record {
    part_held = held_closed children part xs ms is.part_kept m;
    rest_held = held_closed children rest ys ns is.rest_kept n;
    joined = is.joined;
    part_some = is.part_some;
    rest_some = is.rest_some;
  }

  -- what is made of the first entries is at most all that is made
  pub made_before : (old : List (Entry X)) (made : List X) (half : ℕ) → IsKept children old made
      → sum_by made_size (take half old) ≤ length made
  made_before old made half kept =
      let part = take half old in
      let rest = drop half old in
      let parts : old ≡ part ++ rest = sym (take-append-drop half old) in
      let whole = AllWhole-left children part rest (subst (AllWhole children) parts kept.whole) in
      omega (
        arith,
        AllWhole-made children part whole,
        ap length kept.made_is,
        ap (λ l. length (all_made children l)) parts,
        ap length (all_made-append children part rest),
        length-append (all_made children part) (all_made children rest),
      )

  -- cut between two entries
  pub cut_between : (old part rest : List (Entry X)) (made part_made rest_made : List X)
      (half count : ℕ) → IsKept children old made → 1 ≤ half → half < length old
      → part ≡ take half old → rest ≡ drop half old → count ≡ sum_by made_size (take half old)
      → part_made ≡ take count made → rest_made ≡ drop count made
      → IsCutKept children old part part_made rest rest_made
  cut_between old part rest made part_made rest_made half count kept some below p r n pm rm =
      let parts : old ≡ part ++ rest =
      sym (take-append-drop half old) ∙ ap (λ l. l ++ drop half old) (sym p)
      ∙ ap (λ l. part ++ l) (sym r) in
      let both = subst (AllWhole children) parts kept.whole in
      let first = AllWhole-left children part rest both in
      let second = AllWhole-right children part rest both in
      let all : made ≡ all_made children part ++ all_made children rest =
      kept.made_is ∙ ap (all_made children) parts ∙ all_made-append children part rest in
      let long : length (all_made children part) ≡ count =
      AllWhole-made children part first ∙ ap (sum_by made_size) p ∙ sym n in
      record {
        part_kept = record {
          whole = first;
          made_is = pm ∙ ap (take count) all
              ∙ take_at (all_made children part) (all_made children rest) count long;
        };
        rest_kept = record {
          whole = second;
          made_is = rm ∙ ap (drop count) all
              ∙ drop_at (all_made children part) (all_made children rest) count long;
        };
        joined = ap (all_items children) parts ∙ all_items-append children part rest;
        part_some = omega
            (arith, AllWhole-some children part first, ap length p, length-take half old);
        rest_some = omega
            (arith, AllWhole-some children rest second, ap length r, length-drop half old);
      }

  -- what is made of a range, cut in two
  made_cut : (xs : List X) (from middle end : ℕ) → from ≤ end → middle ≤ end → end ≤ length xs
      → (take (middle - from) (slice_range xs from end) ≡ slice_range xs (min from middle) middle)
      × (drop (middle - from) (slice_range xs from end) ≡ slice_range xs (max from middle) end)
  made_cut xs from middle end a b within = elim (cases_lt from middle) [
    | inl lt ↦
        let low : min from middle ≡ from = omega arith in
        let high : max from middle ≡ middle = omega arith in
        let cut = cut_of_range xs from middle end (omega arith) b in
        let long = length-range xs from middle (omega arith) in (
          ap (take (middle - from)) cut
              ∙ take_at (slice_range xs from middle) (slice_range xs middle end) (middle - from)
              long
              ∙ ap (λ k. slice_range xs k middle) (sym low),
          ap (drop (middle - from)) cut
              ∙ drop_at (slice_range xs from middle) (slice_range xs middle end) (middle - from)
              long
              ∙ ap (λ k. slice_range xs k end) (sym high),
        )
    | inr ge ↦
        let none : middle - from ≡ 0 = omega arith in
        let low : min from middle ≡ middle = omega arith in
        let high : max from middle ≡ from = omega arith in (
          ap (λ k. take k (slice_range xs from end)) none
              ∙ sym (empty_range xs (min from middle) middle (omega arith)),
          ap (λ k. drop k (slice_range xs from end)) none
              ∙ ap (λ k. slice_range xs k end) (sym high),
        )
  ]

  -- cut inside the only range
  pub cut_inside : (old part rest : List (Entry X)) (made part_made rest_made : List X)
      (parent : X) (first from middle end : ℕ) → IsKept children old made
      → old ≡ Range parent first from end ∷ [] → first < middle → middle < end
      → part ≡ Range parent first (min from middle) middle ∷ []
      → rest ≡ Range parent middle (max from middle) end ∷ []
      → part_made ≡ take (middle - from) made → rest_made ≡ drop (middle - from) made
      → IsCutKept children old part part_made rest rest_made
  cut_inside old part rest made part_made rest_made parent first from middle end kept o a b p r pm
      rm =
      let xs : List X = children parent in
      let whole = (subst (AllWhole children) o kept.whole).0 in
      let all : made ≡ slice_range xs from end =
      kept.made_is ∙ ap (all_made children) o ∙ append-nil _ in
      let cut = made_cut xs from middle end whole.2 (omega arith) whole.3 in
      let part_is : AllWhole children part =
      subst (AllWhole children) (sym p)
      ((a, omega (arith, whole.1), omega arith, omega (arith, whole.3)), tt) in
      let rest_is : AllWhole children rest =
      subst (AllWhole children) (sym r) ((b, omega arith, omega (arith, whole.2), whole.3), tt) in
      record {
        part_kept = record {
          whole = part_is;
          made_is = pm ∙ ap (take (middle - from)) all ∙ cut.0 ∙ sym (append-nil _)
              ∙ ap (all_made children) (sym p);
        };
        rest_kept = record {
          whole = rest_is;
          made_is = rm ∙ ap (drop (middle - from)) all ∙ cut.1 ∙ sym (append-nil _)
              ∙ ap (all_made children) (sym r);
        };
        joined = ap (all_items children) o ∙ append-nil _
            ∙ cut_of_range xs first middle end (omega arith) (omega arith)
            ∙ ap₂ (λ l m. l ++ m) (sym (append-nil _) ∙ ap (all_items children) (sym p))
            (sym (append-nil _) ∙ ap (all_items children) (sym r));
        part_some = omega (arith, AllWhole-some children part part_is, ap length p);
        rest_some = omega (arith, AllWhole-some children rest rest_is, ap length r);
      }

-- a list of one element, which was read
pub only_one : {X : Type 0} (xs : List X) (x y : X) → length xs ≡ 1 → x ≡ get_or xs 0 x → x ≡ y
    → xs ≡ y ∷ []
only_one [] x y n read e = absurd (omega arith)
only_one (z ∷ []) x y n read e = ap (λ w. w ∷ []) (sym read ∙ e)
only_one (z ∷ w ∷ xs) x y n read e = absurd (omega arith)
