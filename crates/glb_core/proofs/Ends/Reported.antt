-- What the end of a history reports: the outcome of the roots' trees, and counters that balance.
use Rattle.std.proofs.Common.{◌≡◌, ◌≢◌, ℕ, zero, suc, ◌-◌, ◌*◌, ◌^◌, ◌<◌, ◌≤◌, List, [], ◌++◌}
use Rattle.std.proofs.Common.{length, get_or, min, refl, sym, ap, subst, ◌∙◌, arith}
use Rattle.std.specs.Prelude.{Some, All, slice_get, ◌==◌}
use Rattle.std.specs.List.Sorted.{IsPermutation}
use Rattle.std.proofs.lemmas.List.{nil_from_length}
use Rattle.std.proofs.lemmas.List.Elements.{All-from_get_or}
use Rattle.std.proofs.lemmas.List.FromFn.{length-map-range_with_len, get_or-map-range_with_len}
use Rattle.std.proofs.lemmas.List.Sorted.{IsPermutation-refl, IsPermutation-trans}
use Rattle.std.proofs.lemmas.List.Sorted.{IsPermutation-append_left, IsPermutation-append_right}
use Rattle.std.proofs.lemmas.List.Sorted.{length_permutation}
use Rattle.glb_laws.specs.Monoid.{MonoidLaws}
use Rattle.glb_laws.specs.Expansion.{Expands}
use Rattle.glb_laws.proofs.Shuffles.{combined_permutation}
use Rattle.glb_laws.proofs.Expansions.{moves_before}
use Rattle.glb_tree.specs.Runs.{IsOutcome}
use Rattle.glb_tree.proofs.Folds.{outcome_of}
use Rattle.glb_stats.specs.declared.counters.Counters.{Counters}
use Rattle.glb_stats.specs.Balances.{IsBalanced, HasSmallUnits}
use Rattle.glb_rules.specs.World.{WorldEdge, Idle, Asked, Refused, Loot, Setup, World, loot_of}
use Rattle.glb_rules.specs.Setups.{degree}
use Rattle.glb_rules.specs.Lawful.{IsLawfulFrom, sum_of_places, all_done, all_left, travelling}
use Rattle.glb_rules.specs.Finish.{IsQuiet}
use Rattle.glb_rules.specs.Joins.{join_to}
use Rattle.glb_core.specs.Counters.{counters_of, all_counters, all_degrees, all_awake}
use Rattle.glb_rules.proofs.Finish.Quiet.{finished_quiet}
use Rattle.glb_core.proofs.Ends.Counts.{counts_small}
use Rattle.glb_core.proofs.Ends.Balanced.{finished_balanced, told_at}
use Rattle.glb_rules.proofs.Bound.Runs.{run_lawful_from, done_count}
use Rattle.glb_rules.specs.declared.kinds.Kind.{Kind}
use Rattle.glb_rules.specs.declared.kinds.Kind.TheVariants as kind
use Rattle.glb_rules.specs.declared.params.Params.{Params}
use Rattle.std.specs.Prelude.{cond, Bool, true, false, ◌==◌, IsPermutation}
use Rattle.glb_rules.specs.Setups.{IsWithinLimits, IsProper, has_items}
use Rattle.glb_cube.specs.Lines.{Cube}
use Rattle.glb_core.specs.Lifelines.{IsGraphOf, setup_for}
use Rattle.glb_core.specs.Reports.{EndsHistory, IsPlacesReport}
use Rattle.glb_core.proofs.Lifelines.Setups.{proper}

-- lists that are each the same up to order are so joined
pub join_IsPermutation : {I : Type 0} (n : ℕ) (f g : ℕ → List I)
    → ((p : ℕ) → p < n → IsPermutation (f p) (g p))
    → IsPermutation (join_to n f) (join_to n g)
join_IsPermutation zero f g h = IsPermutation-refl []
join_IsPermutation (suc n) f g h =
    IsPermutation-trans _ _ _
    (IsPermutation-append_left (f n) (join_to n f) (join_to n g)
    (join_IsPermutation n f g (λ p l. h p (omega arith))))
    (IsPermutation-append_right (join_to n g) (f n) (g n) (h n (omega arith)))

-- so are as many of them
pub joined_same : {I : Type 0} (n m : ℕ) (f g : ℕ → List I) → n ≡ m
    → ((p : ℕ) → IsPermutation (f p) (g p))
    → IsPermutation (join_to m f) (join_to n g)
joined_same n m f g e h = subst (λ k. IsPermutation (join_to k f) (join_to n g)) e
    (join_IsPermutation n f g (λ p l. h p))

-- empty lists joined are empty
join_none : {I : Type 0} (n : ℕ) (f : ℕ → List I) → ((p : ℕ) → p < n → f p ≡ []) → join_to n f ≡ []
join_none zero f h = refl
join_none (suc n) f h =
    ap (λ l. l ++ f n) (join_none n f (λ p l. h p (omega arith))) ∙ h n (omega arith)

-- no part travels in a quiet world
quiet_loot : {I : Type 0} (e : WorldEdge I) → ((xs : List I) → e ≢ Loot xs) → loot_of e ≡ []
quiet_loot Idle h = refl
quiet_loot Asked h = refl
quiet_loot Refused h = refl
quiet_loot (Loot xs) h = absurd (h xs refl)

-- and nothing is left
pub quiet_left : {I : Type 0} (s : Setup) (w : World I) → IsQuiet s w → all_left s w ≡ []
quiet_left s w Q =
    let bags =
    join_none s.places (λ p. (w.place p).bag) (λ p l. nil_from_length (w.place p).bag (Q.empty p l))
    in
    let none : (k : Kind) → travelling s w k ≡ [] =
    λ k. join_none s.places (λ t. join_to s.places (λ v. loot_of (w.edge k t v)))
    (λ t l. join_none s.places (λ v. loot_of (w.edge k t v))
    (λ v m. quiet_loot (w.edge k t v) (Q.no_loot k t v l m)))
    in
    ap (λ l. l ++ (travelling s w kind.Steal ++ travelling s w kind.Line)) bags
    ∙ ap (λ l. l ++ travelling s w kind.Line) (none kind.Steal) ∙ none kind.Line

-- a bound on counts is one on what is told of them
few_told : (asks done most told_asks told_done : ℕ) → told_asks ≡ min asks (2 ^ 64 - 1) → told_done
    ≡ min done (2 ^ 64 - 1)
    → done < 2 ^ 57 → asks ≤ most * done → told_asks ≤ most * told_done
few_told asks done most told_asks told_done e f small h =
    let same : told_done ≡ done = omega arith in
    subst (λ n. told_asks ≤ most * n) (sym same) (omega arith)

-- no place tries more often than the limit
tries_most : (b : Bool) (n : ℕ) → n ≤ 64 → cond b 0 n ≤ 64
tries_most true n h = omega arith
tries_most false n h = h

module _ {I V : Type 0} (children : I → List I) (value : I → V) {IsProperValue : V → Type 0}
    {combine : V → V → V} {unit : V} (laws : MonoidLaws IsProperValue unit combine)
    (proper_value : (x : I) → IsProperValue (value x)) (c : Cube) (q : Params) (roots bags : ℕ
    → List I)
    (limits : IsWithinLimits q) (graph : IsGraphOf c q) (same : (p : ℕ)
    → IsPermutation (roots p) (bags p))
    (items : ℕ) (answer : V) (counters : List Counters)
    (E : EndsHistory children value combine unit (setup_for c q bags) bags items answer counters)
    (within : items ≤ q.limit) where
  abbrev s : Setup
  s = setup_for c q bags

  abbrev w : World I
  w = E.last

  P : IsProper s
  P = proper c q (λ p. has_items (bags p)) graph.cube (sym graph.places) limits.batch.0

  L : IsLawfulFrom children (join_to s.places bags) s w
  L = run_lawful_from children s bags P (λ p l. refl) E.events w E.run

  -- the items and the answer are those of all nodes
  outcome : IsOutcome children value unit combine (join_to q.places roots) q.limit
      (record { items = items; value = answer })
  outcome =
      let A = L.1 in
      let joined = joined_same c.places q.places roots bags graph.places same in
      let none : all_left s w ≡ [] = quiet_left s w (finished_quiet s w L.0 E.finished) in
      let count = done_count s w L.0 in
      let number : length A.taken ≡ items = omega (arith, length_permutation _ _ A.order, count, E.items_done) in
      let moves =
      moves_before children (join_to q.places roots) (join_to s.places bags) A.taken (all_left s w) joined
      A.moves in
      let fold =
      combined_permutation laws value proper_value A.taken (all_done s w) A.order unit laws.unit_proper in
      let all : Expands children value combine (join_to q.places roots) unit items (all_left s w) answer =
      record { taken = A.taken; number = number; moves = moves; value_is = E.answer_done ∙ sym fold } in
      outcome_of children value laws proper_value (join_to q.places roots) q.limit items answer
      (subst (λ l. Expands children value combine (join_to q.places roots) unit items l answer) none all)
      within

  places_few : s.places ≤ 64
  places_few = omega (arith, graph.places, limits.places.1)

  tries_few : s.tries ≤ 64
  tries_few = tries_most (q.places == 1) q.tries limits.tries

  items_few : sum_of_places s w (λ a. a.count.items) ≤ 2 ^ 41
  items_few = omega (arith, within, limits.limit.1, E.items_done)

  balance : IsBalanced (all_counters s w) items (all_degrees s) (all_awake s)
  balance = subst (λ n. IsBalanced (all_counters s w) n (all_degrees s) (all_awake s)) (sym E.items_done)
      (finished_balanced s w L.0 places_few tries_few items_few E.finished)

  abbrev place_counters : ℕ → Counters
  place_counters p = counters_of (w.place p).count

  many : length (all_counters s w) ≡ q.places
  many = length-map-range_with_len place_counters 0 s.places ∙ graph.places

  small : All HasSmallUnits (all_counters s w)
  small = All-from_get_or HasSmallUnits (all_counters s w) (place_counters 0) (λ p l.
      let here : p < s.places =
      subst (λ n. p < n) (length-map-range_with_len place_counters 0 s.places) l in
      let few = counts_small s w L.0 places_few tries_few items_few p here in
      let units : HasSmallUnits (place_counters p) = record {
        sent = let n = few.sent_units in omega arith;
        got = let n = few.got_units in omega arith;
      } in
      subst HasSmallUnits
      (sym (get_or-map-range_with_len place_counters 0 s.places p p (place_counters 0) here
      (omega arith))) units)

  asks : (p : ℕ) (k : Counters) → slice_get (all_counters s w) p ≡ Some k
      → k.asks ≤ s.tries * k.items
  asks p k at =
      let told = told_at place_counters s.places p k at in
      let few = (counts_small s w L.0 places_few tries_few items_few p told.0).items in
      let most = (L.0.inner p told.0).asks in
      few_told (w.place p).count.asks (w.place p).count.items s.tries k.asks k.items
      (ap (λ (x : Counters). x.asks) told.1) (ap (λ (x : Counters). x.items) told.1) few
      (omega (arith, most))

  line_asks : (p : ℕ) (k : Counters) → slice_get (all_counters s w) p ≡ Some k
      → k.line_asks ≤ degree s p * k.items
  line_asks p k at =
      let told = told_at place_counters s.places p k at in
      let few = (counts_small s w L.0 places_few tries_few items_few p told.0).items in
      let most = (L.0.counted p told.0).line_asks in
      few_told (w.place p).count.line_asks (w.place p).count.items (degree s p) k.line_asks k.items
      (ap (λ (x : Counters). x.line_asks) told.1) (ap (λ (x : Counters). x.items) told.1) few
      (omega (arith, most))

  pub places_report : IsPlacesReport children value combine unit q roots s items answer counters
  places_report = subst (IsPlacesReport children value combine unit q roots s items answer) (sym E.counted)
      (record {
        outcome = outcome;
        many = many;
        small = small;
        balance = balance;
        asks = asks;
        line_asks = line_asks;
      })
