-- A run whose places have all left with live 0 ended as a history of its bags.
use Rattle.std.proofs.Common.{◌≡◌, ℕ, zero, suc, ◌<◌, List, [], ◌∷◌, ◌++◌, length, get_or, map, refl, sym, ap, ◌∙◌, arith}
use Rattle.std.specs.Prelude.{All}
use Rattle.std.specs.List.{flat_map}
use Rattle.std.proofs.lemmas.List.{append_assoc, ext_get_or, get_or-map, length-map}
use Rattle.std.proofs.lemmas.List.FromFn.{get_or-map-range_with_len, length-map-range_with_len}
use Rattle.glb_laws.specs.Expansion.{combined}
use Rattle.glb_stats.specs.declared.counters.Counters.{Counters}
use Rattle.glb_rules.specs.Joins.{join_to}
use Rattle.glb_rules.specs.World.{Setup}
use Rattle.glb_core.specs.Counters.{all_counters, counters_of}
use Rattle.glb_core.specs.Reports.{EndsHistory}
use Rattle.glb_place.specs.declared.record.Record.{Record}
use Rattle.glb_place.specs.Close.{HasLeft, counters_in, done_of}
use Rattle.glb_cells.specs.Ends.{IsLastOf}

module _ {I : Type 0} where
  append_none : (xs : List I) → xs ++ [] ≡ xs
  append_none [] = refl
  append_none (x ∷ xs) = ap (λ ys. x ∷ ys) (append_none xs)

  join_front : (n : ℕ) (g : ℕ → List I) → join_to (suc n) g ≡ g 0 ++ join_to n (λ p. g (suc p))
  join_front zero g = sym (append_none (g 0))
  join_front (suc n) g = ap (λ ys. ys ++ g (suc n)) (join_front n g)
      ∙ append_assoc (g 0) (join_to n (λ p. g (suc p))) (g (suc n))

  -- lists joined by number are those of the members of a list, joined
  joined : {R : Type 0} (f : R → List I) (rs : List R) (n : ℕ) (g : ℕ → List I) → length rs ≡ n
      → ((p : ℕ) (d : R) → p < n → f (get_or rs p d) ≡ g p) → flat_map f rs ≡ join_to n g
  joined f [] zero g e h = refl
  joined f [] (suc n) g e h = absurd (omega arith)
  joined f (r ∷ rs) zero g e h = absurd (omega arith)
  joined f (r ∷ rs) (suc n) g e h =
      ap (λ ys. ys ++ flat_map f rs) (h 0 r (omega arith))
      ∙ ap (λ ys. g 0 ++ ys)
      (joined f rs n (λ p. g (suc p)) (omega arith) (λ p d l. h (suc p) d (omega arith)))
      ∙ sym (join_front n g)

some_member : {A : Type 0} (xs : List A) (p : ℕ) → p < length xs → A
some_member [] p l = absurd (omega arith)
some_member (x ∷ xs) p l = x

module _ {I V : Type 0} (children : I → List I) (value : I → V) (combine : V → V → V) (unit : V)
    (s : Setup) (bags : ℕ → List I)
    (items stop : ℕ) (rs : List (Record I)) (answer : V)
    (L : IsLastOf children s bags 0 items stop rs) where
  local_at : (p : ℕ) (d : Record I) → p < s.places → (get_or rs p d).local ≡ L.last.place p
  local_at p d l = L.locals p d (let m = L.many in omega arith)

  counters_are : map counters_in rs ≡ all_counters s L.last
  counters_are = ext_get_or (told 0) (map counters_in rs) (all_counters s L.last)
      (length-map rs counters_in ∙ L.many ∙ sym (length-map-range_with_len told 0 s.places))
      (λ p l.
      let short : p < length rs = omega (arith, length-map rs counters_in) in
      let near : p < s.places = omega (arith, L.many) in
      let d = get_or rs p (some_member rs p short) in
      get_or-map counters_in rs p d (told 0) short
      ∙ ap (λ a. counters_of a.count) (local_at p d near)
      ∙ sym (get_or-map-range_with_len told 0 s.places p p (told 0) near (omega arith)))
    where
      told : ℕ → Counters
      told p = counters_of (L.last.place p).count

  pub ends_history : All HasLeft rs → answer ≡ combined value combine unit (flat_map done_of rs)
      → EndsHistory children value combine unit s bags items answer (map counters_in rs)
  ends_history gone is = record {
    events = L.events;
    last = L.last;
    run = L.run;
    all_gone = λ p l.
        let short : p < length rs = (let m = L.many in omega arith) in
        let d = some_member rs p short in
        sym (ap (λ a. a.phase) (local_at p d l)) ∙ gone p d short;
    finished = sym L.live_is;
    items_done = L.items_are;
    answer_done = is ∙ ap (combined value combine unit)
        (joined done_of rs s.places (λ p. (L.last.place p).done) L.many
        (λ p d l. ap (λ a. a.done) (local_at p d l)));
    counted = counters_are;
  }
