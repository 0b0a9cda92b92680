-- What the records of all places are at the close, where they are those of a lawful world.
use Rattle.std.proofs.Common.{◌≡◌, ◌≢◌, ℕ, zero, suc, ◌+◌, ◌^◌, ◌<◌, ◌≤◌, ◌⊎◌, inl, inr, ⊎_elim, Bool, true, false, cond, List, [], ◌∷◌, ◌++◌, length, get_or, map, length-append, refl, sym, ap, ◌∙◌, subst, arith}
use Rattle.std.specs.Prelude.{All}
use Rattle.std.specs.List.{flat_map}
use Rattle.std.proofs.lemmas.Bool.{cases_eq}
use Rattle.std.proofs.lemmas.List.{append_assoc, ext_get_or, get_or-map, length-map}
use Rattle.std.proofs.lemmas.List.FromFn.{get_or-map-range_with_len, length-map-range_with_len}
use Rattle.glb_laws.specs.Expansion.{Expansion}
use Rattle.glb_cube.specs.Lines.{Cube}
use Rattle.glb_stats.specs.Balances.{IsBalanced}
use Rattle.glb_stats.specs.declared.counters.Counters.{Counters}
use Rattle.glb_rules.specs.Joins.{join_to}
use Rattle.glb_laws.specs.Sums.{sum_to}
use Rattle.glb_rules.specs.World.{Setup, World, WorldEdge, Idle, Asked, Refused, Loot, has_line, idle_count, loot_of}
use Rattle.glb_rules.specs.Setups.{degree, tries_of}
use Rattle.glb_core.specs.Lifelines.{setup_of}
use Rattle.glb_rules.specs.Lawful.{IsLawfulFrom, sum_of_places, all_done, idle_lines_of, at_rest, travelling}
use Rattle.glb_core.specs.Counters.{all_awake, all_counters, all_degrees, counters_of}
use Rattle.glb_rules.specs.declared.kinds.Edge.{Edge}
use Rattle.glb_rules.specs.declared.kinds.Edge.TheVariants as seen
use Rattle.glb_rules.specs.declared.kinds.Kind.{Kind}
use Rattle.glb_rules.specs.declared.kinds.Kind.TheVariants as kind
use Rattle.glb_rules.specs.declared.kinds.Phase.{Phase}
use Rattle.glb_rules.specs.declared.kinds.Phase.TheVariants as phase
use Rattle.glb_rules.specs.declared.params.Params.{Params}
use Rattle.glb_rules.proofs.Finish.Quiet.{finished_quiet}
use Rattle.glb_core.proofs.Ends.Balanced.{finished_balanced}
use Rattle.glb_rules.proofs.Sums.Totals.{sum_le, sum_same}
use Rattle.glb_place.specs.declared.record.Record.{Record}
use Rattle.glb_place.specs.Records.{edge_like, known_at, setup_in, world_in}
use Rattle.glb_place.specs.Close.{AreRecordsOf, Closes, HasLeft, IsBounded, IsRecordOf, bag_of, counters_in, done_of}

-- resting counts no less for a greater number
rest_le : (f : Phase) (a b : ℕ) → a ≤ b → at_rest f a ≤ at_rest f b
rest_le phase.Working a b l = omega arith
rest_le phase.Idle a b l = l
rest_le (phase.Waiting v k) a b l = l
rest_le phase.Asleep a b l = omega arith
rest_le phase.Gone a b l = omega arith

module _ {I : Type 0} where
  -- a joined list from its first member on
  join_front : (n : ℕ) (g : ℕ → List I) → join_to (suc n) g ≡ g 0 ++ join_to n (λ p. g (suc p))
  join_front zero g = sym (append_none (g 0))
    where
      append_none : (xs : List I) → xs ++ [] ≡ xs
      append_none [] = refl
      append_none (x ∷ xs) = ap (λ ys. x ∷ ys) (append_none xs)
  join_front (suc n) g = ap (λ ys. ys ++ g (suc n)) (join_front n g)
      ∙ append_assoc (g 0) (join_to n (λ p. g (suc p))) (g (suc n))

  -- lists joined by number are those of the members of a list, joined
  joined : {R : Type 0} (f : R → List I) (rs : List R) (n : ℕ) (g : ℕ → List I) → length rs ≡ n
      → ((p : ℕ) (d : R) → p < n → f (get_or rs p d) ≡ g p) → flat_map f rs ≡ join_to n g
  joined f [] zero g e h = refl
  joined f [] (suc n) g e h = absurd (omega arith)
  joined f (r ∷ rs) zero g e h = absurd (omega arith)
  joined f (r ∷ rs) (suc n) g e h =
      ap (λ ys. ys ++ flat_map f rs) (h 0 r (omega arith))
      ∙ ap (λ ys. g 0 ++ ys)
      (joined f rs n (λ p. g (suc p)) (omega arith) (λ p d l. h (suc p) d (omega arith)))
      ∙ sym (join_front n g)

  -- where each list is empty, so are all joined
  join_none : (n : ℕ) (g : ℕ → List I) → ((p : ℕ) → p < n → g p ≡ []) → join_to n g ≡ []
  join_none zero g h = refl
  join_none (suc n) g h =
      ap (λ ys. ys ++ g n) (join_none n g (λ p l. h p (omega arith))) ∙ h n (omega arith)

  -- how long the joined list is
  join_length : (n : ℕ) (g : ℕ → List I) → length (join_to n g) ≡ sum_to n (λ p. length (g p))
  join_length zero g = refl
  join_length (suc n) g = length-append (join_to n g) (g n)
      ∙ ap (λ k. k + length (g n)) (join_length n g)

  -- a list of length 0 is empty
  no_items : (xs : List I) → length xs ≡ 0 → xs ≡ []
  no_items [] e = refl
  no_items (x ∷ xs) e = absurd (omega arith)

  -- an edge without a part has no items
  nothing_travels : (e : WorldEdge I) → ((xs : List I) → e ≢ Loot xs) → loot_of e ≡ []
  nothing_travels Idle n = refl
  nothing_travels Asked n = refl
  nothing_travels Refused n = refl
  nothing_travels (Loot xs) n = absurd (n xs refl)

  -- an edge that is known as Idle counts no more than it is
  idle_le : (x : Edge) (e : WorldEdge I) → (x ≡ seen.Idle → e ≡ Idle)
      → idle_count (edge_like {I = I} x) ≤ idle_count e
  idle_le seen.Idle e h = let d = h refl in rw d (omega arith)
  idle_le seen.Asked e h = omega arith
  idle_le seen.Refused e h = omega arith
  idle_le seen.Loot e h = omega arith

module _ {I : Type 0} (children : I → List I) (roots : List I) (c : Cube) (q : Params)
    (awake : ℕ → Bool)
    (w : World I) (rs : List (Record I)) (L : IsLawfulFrom children roots (setup_of c q awake) w)
    (A : AreRecordsOf c q w rs) where
  -- the setup of the run
  abbrev s : Setup
  s = setup_of c q awake

  -- the items done in all records are those of the world
  dones : flat_map done_of rs ≡ all_done s w
  dones = joined done_of rs c.places (λ p. (w.place p).done) A.many
      (λ p d l. ap (λ a. a.done) (A.each p d (omega (arith, A.many))).local)

  -- so are the items in all bags
  bags : flat_map bag_of rs ≡ join_to c.places (λ p. (w.place p).bag)
  bags = joined bag_of rs c.places (λ p. (w.place p).bag) A.many
      (λ p d l. ap (λ a. a.bag) (A.each p d (omega (arith, A.many))).local)

  -- the items that travel
  abbrev pub way : List I
  way = travelling s w kind.Steal ++ travelling s w kind.Line

  -- all items done and left are an expansion of the roots
  expansion : Expansion children roots (flat_map done_of rs) (flat_map bag_of rs ++ way)
  expansion =
      subst (λ xs. Expansion children roots xs (flat_map bag_of rs ++ way)) (sym dones)
      (subst (λ xs. Expansion children roots (all_done s w) (xs ++ way)) (sym bags) L.1)

  -- where live is 0 nothing is left
  quiet : w.live ≡ 0 → (flat_map bag_of rs ≡ []) × (way ≡ [])
  quiet z =
      let Q = finished_quiet s w L.0 z in
      let none : (k : Kind) → travelling s w k ≡ [] = λ k.
      join_none c.places _ (λ t l. join_none c.places _
      (λ v m. nothing_travels (w.edge k t v) (Q.no_loot k t v l m)))
      in (
        bags ∙ join_none c.places _ (λ p l. no_items (w.place p).bag (Q.empty p l)),
        ap (λ xs. xs ++ travelling s w kind.Line) (none kind.Steal) ∙ none kind.Line,
      )

  -- the counters of the records are those of the world
  counters_are : map counters_in rs ≡ all_counters s w
  counters_are = ext_get_or zero_counters (map counters_in rs) (all_counters s w)
      (length-map rs counters_in ∙ A.many ∙ sym (length-map-range_with_len told 0 c.places))
      (λ p l.
      let short : p < length rs = omega (arith, length-map rs counters_in) in
      let near : p < c.places = omega (arith, A.many) in
      let d = get_or rs p (first rs short) in
      get_or-map counters_in rs p d zero_counters short
      ∙ ap (λ a. counters_of a.count) (A.each p d short).local
      ∙ sym (get_or-map-range_with_len told 0 c.places p p zero_counters near (omega arith)))
    where
      told : ℕ → Counters
      told p = counters_of (w.place p).count

      zero_counters : Counters
      zero_counters = told 0

      first : {p : ℕ} (ys : List (Record I)) → p < length ys → Record I
      first [] l = absurd (omega arith)
      first (r ∷ ys) l = r

  -- all items counted are all items done
  count_is : sum_of_places s w (λ a. a.count.items) ≡ length (flat_map done_of rs)
  count_is =
      sym (ap length dones
      ∙ join_length c.places (λ p. (w.place p).done)
      ∙ sum_same c.places (λ p. (w.place p).count.items) (λ p. length (w.place p).done)
      (λ p l. sym (L.0.inner p l).items))

  -- a test keeps the order of two numbers
  one : (b : Bool) (x y : ℕ) → x ≤ y → cond b x 0 ≤ cond b y 0
  one true x y h = h
  one false x y h = omega arith

  -- as many lines as are known as Idle are so
  free_less : (r : Record I) (p : ℕ)
      → ((v : ℕ) → v < c.places → known_at r.known kind.Line p v ≡ seen.Idle → w.edge kind.Line p v
      ≡ Idle)
      → idle_lines_of (setup_of c q (λ p. false)) (world_in r) p ≤ idle_lines_of s w p
  unfolding has_line
  free_less r p h = sum_le c.places _ _ (λ v m. one (has_line s p v) _ _
      (idle_le (known_at r.known kind.Line p v) (w.edge kind.Line p v) (h v m)))

  -- the number of lines does not hang on who was awake
  degree_same : (p : ℕ) → degree (setup_of c q (λ p. false)) p ≡ degree s p
  unfolding has_line
  degree_same p = refl

  -- a record of a place of the world is bounded as the place is
  bounded_at : (p : ℕ) (r : Record I) → p < c.places → IsRecordOf c q w p r → IsBounded r
  bounded_at p r l R =
      let N = L.0.inner p l in
      let C = L.0.counted p l in
      let tries : tries_of r.params ≡ s.tries = ap tries_of R.params_are in
      let same : setup_in r ≡ setup_of c q (λ p. false) = λ i.
      setup_of (R.lines_are i) (R.params_are i) (λ p. false)
      in
      let fewer : idle_lines_of (setup_in r) (world_in r) r.place ≤ idle_lines_of s w p =
      subst (λ (t : Setup). idle_lines_of t (world_in r) r.place ≤ idle_lines_of s w p) (sym same)
      (subst (λ n. idle_lines_of (setup_of c q (λ p. false)) (world_in r) n ≤ idle_lines_of s w p) (sym R.place)
      (free_less r p R.idle_lines))
      in
      let many : degree (setup_in r) r.place ≡ degree s p =
      (λ i. degree (same i) (R.place i)) ∙ degree_same p
      in
      record {
        items = ap (λ a. a.count.items) R.local ∙ N.items ∙ sym (ap (λ a. length a.done) R.local);
        asks = rw (R.local, tries) N.asks;
        line_asks = rw (R.local, many) (let h = C.line_asks in
            let m = rest_le (w.place p).phase _ _ fewer in omega arith);
        sent = rw R.local N.sent;
        wakes = rw R.local N.wakes;
      }

  -- where all have left, live is 0 or a stop code is set
  ended : 0 < c.places → All HasLeft rs → (w.live ≡ 0) ⊎ (w.stop ≢ 0)
  ended some gone = ⊎_elim
      (λ (e : w.stop ≡ 0). inl (go rs A.many gone (λ d l. (A.each 0 d l).local) e))
      (λ n. inr n) (cases_eq w.stop 0)
    where
      go : (ys : List (Record I)) → length ys ≡ c.places → All HasLeft ys
          → ((d : Record I) → 0 < length ys → (get_or ys 0 d).local ≡ w.place 0) → w.stop ≡ 0
          → w.live ≡ 0
      go [] e h f z = absurd (omega arith)
      go (r ∷ ys) e h f z = L.0.gone 0 some
          (sym (ap (λ a. a.phase) (f r (omega arith))) ∙ h 0 r (omega arith)) z

  -- the records of a lawful world meet what the close promises
  pub world_closes : (limit : ℕ) → c.places ≤ 64 → 0 < c.places → tries_of q ≤ 64
      → sum_of_places s w (λ a. a.count.items) ≤ 2 ^ 41
      → (w.stop ≡ 1 → limit < sum_of_places s w (λ a. a.count.items)) → w.stop ≤ 2
      → Closes children (all_degrees s) (all_awake s) limit roots rs w.live
      (sum_of_places s w (λ a. a.count.items)) w.stop
  world_closes limit few some tries small cause codes = record {
    way = way;
    expansion = expansion;
    quiet = quiet;
    balanced = λ z. subst (λ xs. IsBalanced xs (sum_of_places s w (λ a. a.count.items)) (all_degrees s)
        (all_awake s))
        (sym counters_are) (finished_balanced s w L.0 few tries small z);
    bounded = λ k d l. bounded_at k (get_or rs k d) (omega (arith, A.many)) (A.each k d l);
    count = count_is;
    cause = cause;
    codes = codes;
    ended = ended some;
  }
