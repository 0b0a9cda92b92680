-- What the close of a run on threads tells of its report.
use Rattle.std.proofs.Common.{◌≡◌, ℕ, zero, suc, ◌*◌, ◌^◌, ◌<◌, ◌≤◌, List, [], ◌∷◌, ◌++◌}
use Rattle.std.proofs.Common.{length, map, get_or, refl, sym, ap, subst, ◌∙◌, arith}
use Rattle.std.proofs.lemmas.List.{length-map}
use Rattle.std.proofs.Math.Nat.{mul-le-mul_right}
use Rattle.std.specs.Prelude.{All, Bool, true, false, cond, ◌==◌, Some, slice_get, IsPermutation}
use Rattle.std.specs.List.{flat_map, range_with_len}
use Rattle.std.proofs.lemmas.List.Elements.{All-weaker}
use Rattle.std.proofs.lemmas.List.FromFn.{length-map-range_with_len, get_or-map-range_with_len}
use Rattle.std.proofs.lemmas.List.Sorted.{length_permutation, IsPermutation-refl}
use Rattle.std.proofs.lemmas.List.Sums.{get_or-le-sum_by}
use Rattle.std.proofs.lemmas.Option.{same_Some, slice_get-get_or, slice_get_within}
use Rattle.std.proofs.lemmas.Option.{get_or_from_slice_get}
use Rattle.glb_laws.specs.Tree.{IsSmall}
use Rattle.glb_laws.proofs.Expansions.{moves_before}
use Rattle.glb_tree.specs.Runs.{IsOutcome, IsTooMany}
use Rattle.glb_cube.specs.Lines.{Cube}
use Rattle.glb_stats.specs.Balances.{IsBalanced, PlaceBalances, HasSmallUnits}
use Rattle.glb_stats.specs.Balances.{armed_lines}
use Rattle.glb_stats.specs.declared.counters.Counters.{Counters}
use Rattle.glb_rules.specs.Joins.{join_to}
use Rattle.glb_rules.specs.World.{Setup, has_line}
use Rattle.glb_rules.specs.Setups.{IsWithinLimits, bit, degree, has_items, tries_of}
use Rattle.glb_rules.specs.declared.params.Params.{Params}
use Rattle.glb_rules.proofs.CallerLemmas.{sum_most}
use Rattle.glb_core.specs.Counters.{all_degrees, all_awake}
use Rattle.glb_core.specs.Lifelines.{IsGraphOf, setup_of, setup_for}
use Rattle.glb_core.proofs.CallerLemmas.{joined_same}
use Rattle.glb_place.specs.declared.record.Record.{Record}
use Rattle.glb_place.specs.Close.{Closes, IsBounded, bag_of, counters_in, done_of}
use Rattle.glb_place.specs.Records.{setup_in}
use Rattle.glb_run.specs.ThreadedRuns.{HasSmallCounters, IsThreadsReport}
use Rattle.glb_run.specs.inner.Plays.{AreNumbered}
use Rattle.glb_run.proofs.RootFacts.{starts_by_roots}
use Rattle.glb_run.proofs.SmallFacts.{IsFew, all_small}

-- equal functions make the same list
map_same : {A B : Type 0} (f g : A → B) → ((x : A) → f x ≡ g x) → (xs : List A)
    → map f xs ≡ map g xs
map_same f g e [] = refl
map_same f g e (x ∷ xs) = ap (λ y. y ∷ map f xs) (e x) ∙ ap (λ ys. g x ∷ ys) (map_same f g e xs)

-- a list has items where another order of it has
has_items_same : {I : Type 0} (xs ys : List I) → IsPermutation xs ys → has_items xs ≡ has_items ys
has_items_same [] [] h = refl
has_items_same (x ∷ xs) (y ∷ ys) h = refl
has_items_same [] (y ∷ ys) h = absurd (omega (arith, length_permutation [] (y ∷ ys) h))
has_items_same (x ∷ xs) [] h = absurd (omega (arith, length_permutation (x ∷ xs) [] h))

-- a list by number has a member at each number below its length
numbered : {A : Type 0} (f : ℕ → A) (n p : ℕ) → p < n
    → slice_get (map f (range_with_len 0 n)) p ≡ Some (f p)
numbered f n p l =
    let here : p < length (map f (range_with_len 0 n)) =
    subst (λ k. p < k) (sym (length-map-range_with_len f 0 n)) l
    in
    slice_get-get_or (map f (range_with_len 0 n)) p (f 0) here
    ∙ ap Some (get_or-map-range_with_len f 0 n p p (f 0) l (omega arith))

-- a member of a mapped list comes from a member of the list
record IsMapped {A B : Type 0} (f : A → B) (xs : List A) (p : ℕ) (y : B) : Type 0 where
  from : A
  at : slice_get xs p ≡ Some from
  is : y ≡ f from

mapped : {A B : Type 0} (f : A → B) (xs : List A) (p : ℕ) (y : B) → slice_get (map f xs) p ≡ Some y
    → IsMapped f xs p y
mapped f [] p y e = absurd (cc)
mapped f (x ∷ xs) zero y e = record { from = x; at = refl; is = sym (same_Some (f x) y e) }
mapped f (x ∷ xs) (suc p) y e =
    let m = mapped f xs p y e in
    record { from = m.from; at = m.at; is = m.is }

-- what holds at each number holds of a member
at_member : {A : Type 0} (xs : List A) (p : ℕ) (x : A) (P : A → Type 0) → slice_get xs p ≡ Some x
    → ((d : A) → p < length xs → P (get_or xs p d))
    → P x
at_member xs p x P e h =
    subst P (get_or_from_slice_get xs p x x e) (h x (slice_get_within xs p x e))

bit_most : (b : Bool) → bit b ≤ 1
bit_most true = omega arith
bit_most false = omega arith

armed_most : (n : ℕ) (b : Bool) → armed_lines n b ≤ n
armed_most n true = omega arith
armed_most n false = omega arith

slept_most : (b : Bool) → cond b 1 0 ≤ 1
slept_most true = omega arith
slept_most false = omega arith

tries_most : (b : Bool) (n : ℕ) → n ≤ 64 → cond b 0 n ≤ 64
tries_most true n h = omega arith
tries_most false n h = h

degree_most : (s : Setup) → s.places ≤ 64 → (p : ℕ) → degree s p ≤ 64
degree_most s few p =
    let d = sum_most s.places 1 (λ v. bit (has_line s p v)) (λ v l. bit_most (has_line s p v)) in
    omega arith

module _ {I : Type 0} (r : Record I) (b : IsBounded r) where
  -- the counters of a place that balances are few, where it has few lines and tries
  few_of : tries_of r.params ≤ 64 → degree (setup_in r) r.place ≤ 64 → (lines : ℕ) (awake : Bool)
      → PlaceBalances (counters_in r) lines awake
      → IsFew (counters_in r)
  few_of tries near lines awake e =
      let n = r.local.count in
      let asks = b.asks in
      let line_asks = b.line_asks in
      let sent = b.sent in
      let wakes = b.wakes in
      let most = mul-le-mul_right n.items tries in
      let line_most = mul-le-mul_right n.items near in
      let answered = e.asks in
      let lined = e.lines in
      let armed = armed_most lines awake in
      let napped = e.naps in
      let slept = slept_most awake in
      record {
        asks = omega arith;
        line_asks = omega arith;
        answered = answered;
        line_got = omega arith;
        sent = λ x y. omega arith;
        wakes = omega arith;
        sleeps = omega arith;
      }

  -- bounds on what was counted are bounds on what is told of it, where few items were done
  told_asks : (q : Params) → r.params ≡ q → (counters_in r).items ≤ 2 ^ 40
      → (counters_in r).asks ≤ tries_of q * (counters_in r).items
  told_asks q is few =
      let n = r.local.count in
      let same : (counters_in r).items ≡ n.items = omega arith in
      let asks : n.asks ≤ tries_of r.params * n.items = omega (arith, b.asks) in
      let own : n.asks ≤ tries_of q * n.items =
      subst (λ (x : Params). n.asks ≤ tries_of x * n.items) is asks
      in
      subst (λ k. (counters_in r).asks ≤ tries_of q * k) (sym same) (omega arith)

  told_line_asks : (most : ℕ) → degree (setup_in r) r.place ≡ most
      → (counters_in r).items ≤ 2 ^ 40
      → (counters_in r).line_asks ≤ most * (counters_in r).items
  told_line_asks most is few =
      let n = r.local.count in
      let same : (counters_in r).items ≡ n.items = omega arith in
      let asks : n.line_asks ≤ degree (setup_in r) r.place * n.items = omega (arith, b.line_asks) in
      let own : n.line_asks ≤ most * n.items = subst (λ k. n.line_asks ≤ k * n.items) is asks in
      subst (λ k. (counters_in r).line_asks ≤ most * k) (sym same) (omega arith)

  -- the lines of the place, by the run
  degree_is : (c : Cube) (q : Params) (awake : ℕ → Bool) (p : ℕ) → r.lines ≡ c → r.params ≡ q
      → r.place ≡ p
      → degree (setup_in r) r.place ≡ degree (setup_of c q awake) p
  unfolding has_line
  degree_is c q awake p lines params place =
      ap (λ (x : Cube). degree (setup_of x r.params (λ p. false)) r.place) lines
      ∙ ap (λ (x : Params). degree (setup_of c x (λ p. false)) r.place) params
      ∙ ap (λ k. degree (setup_of c q (λ p. false)) k) place

module _ {I : Type 0} (children : I → List I) (q : Params) (limits : IsWithinLimits q) (c : Cube)
    (graph : IsGraphOf c q) (roots bags : ℕ → List I)
    (same : (p : ℕ) → IsPermutation (roots p) (bags p)) (rs : List (Record I))
    (live items stop : ℕ)
    (C : Closes children (all_degrees (setup_for c q bags)) (all_awake (setup_for c q bags)) q.limit
    (join_to c.places bags) rs live items stop) where
  abbrev s : Setup
  s = setup_for c q roots

  awake_same : all_awake (setup_for c q bags) ≡ all_awake s
  awake_same = map_same (λ p. has_items (bags p)) (λ p. has_items (roots p))
      (λ p. sym (has_items_same (roots p) (bags p) (same p)))
      (range_with_len 0 c.places)

  -- the close tells of the roots what it tells of the bags
  pub closes_roots : Closes children (all_degrees s) (all_awake s) q.limit
      (join_to q.places roots) rs live items stop
  unfolding has_line
  closes_roots = record {
    way = C.way;
    expansion = record {
      taken = C.expansion.taken;
      order = C.expansion.order;
      moves = moves_before children (join_to q.places roots) (join_to c.places bags)
          C.expansion.taken
          (flat_map bag_of rs ++ C.way)
          (joined_same c.places q.places roots bags graph.places same)
          C.expansion.moves;
    };
    quiet = C.quiet;
    balanced = λ z. subst (IsBalanced (map counters_in rs) items (all_degrees s)) awake_same
        (C.balanced z);
    bounded = C.bounded;
    count = C.count;
    cause = C.cause;
    codes = C.codes;
    ended = C.ended;
  }

  -- more items than the limit were expanded
  pub close_too_many : q.limit < items → (IsSmall children (join_to q.places roots) q.limit → ⊥)
      → IsTooMany children (join_to q.places roots) q.limit items
  unfolding closes_roots
  close_too_many above large = record {
    above = above;
    large = large;
    expanded = (
      flat_map done_of rs,
      flat_map bag_of rs ++ C.way,
      closes_roots.expansion,
      sym C.count,
    );
  }

  module _ (N : AreNumbered c q rs) (within : items ≤ q.limit)
      (B : IsBalanced (map counters_in rs) items (all_degrees s) (all_awake s)) where
    many : length (map counters_in rs) ≡ q.places
    many = length-map rs counters_in ∙ N.many

    places_few : s.places ≤ 64
    places_few = let a = graph.places in let b = limits.places.1 in omega arith

    -- what stands at a number of the counters
    record IsAt (p : ℕ) (k : Counters) : Type 0 where
      record_of : Record I
      told : k ≡ counters_in record_of
      bounded : IsBounded record_of
      params_are : record_of.params ≡ q
      lines_are : degree (setup_in record_of) record_of.place ≡ degree s p
      few : k.items ≤ 2 ^ 40
      balances : PlaceBalances k (degree s p) (s.awake p)

    is_at : (p : ℕ) (k : Counters) → slice_get (map counters_in rs) p ≡ Some k → IsAt p k
    is_at p k e =
        let m = mapped counters_in rs p k e in
        let params = at_member rs p m.from (λ r. r.params ≡ q) m.at (λ d l. N.params_are p d l) in
        let lines = at_member rs p m.from (λ r. r.lines ≡ c) m.at (λ d l. N.lines_are p d l) in
        let place = at_member rs p m.from (λ r. r.place ≡ p) m.at (λ d l. N.place p d l) in
        let bounded = at_member rs p m.from IsBounded m.at (λ d l. C.bounded p d l) in
        let here : p < s.places =
        omega (arith, slice_get_within (map counters_in rs) p k e, many, graph.places)
        in
        record {
          record_of = m.from;
          told = m.is;
          bounded = bounded;
          params_are = params;
          lines_are = degree_is m.from bounded c q s.awake p lines params place;
          few = (
              let n = get_or-le-sum_by (λ (x : Counters). x.items) (map counters_in rs) p k
              (slice_get_within (map counters_in rs) p k e)
              in
              let at = get_or_from_slice_get (map counters_in rs) p k k e in
              let own : (get_or (map counters_in rs) p k).items ≡ k.items =
              ap (λ (x : Counters). x.items) at
              in
              let all = B.sums.items in
              let most = limits.limit.1 in
              omega arith
              );
          balances = B.places p k (degree s p) (s.awake p) e (numbered (degree s) s.places p here)
              (numbered s.awake s.places p here);
        }

    tries_few : (x : Params) → x ≡ q → tries_of x ≤ 64
    tries_few x e = subst (λ (y : Params). tries_of y ≤ 64) (sym e)
        (tries_most (q.places == 1) q.tries limits.tries)

    few : All IsFew (map counters_in rs)
    few p d l =
        let k = get_or (map counters_in rs) p d in
        let a = is_at p k (slice_get-get_or (map counters_in rs) p d l) in
        subst IsFew (sym a.told)
        (few_of a.record_of a.bounded (tries_few a.record_of.params a.params_are)
        (subst (λ n. n ≤ 64) (sym a.lines_are) (degree_most s places_few p))
        (degree s p) (s.awake p)
        (subst (λ (x : Counters). PlaceBalances x (degree s p) (s.awake p)) a.told a.balances))

    small : All HasSmallCounters (map counters_in rs)
    small = all_small (map counters_in rs) items
        (let a = limits.limit.1 in omega arith)
        (let a = many in let b = limits.places.1 in omega arith)
        B.sums few

    -- a run within the limit reports its items, their value and the counters of the records
    pub close_reports : {V : Type 0} (value : I → V) (combine : V → V → V) (unit : V) (answer : V)
        → IsOutcome children value unit combine (join_to q.places roots) q.limit
        (record { items = items; value = answer })
        → IsThreadsReport children value combine unit q roots items answer (map counters_in rs)
    close_reports value combine unit answer outcome = record {
      cube = c;
      graph = graph;
      report = record {
        outcome = outcome;
        many = many;
        small = All-weaker HasSmallCounters HasSmallUnits (λ x h. h.units) (map counters_in rs)
            small;
        balance = B;
        asks = λ p k e.
            let a = is_at p k e in
            subst (λ (x : Counters). x.asks ≤ tries_of q * x.items) (sym a.told)
            (told_asks a.record_of a.bounded q a.params_are
            (subst (λ (x : Counters). x.items ≤ 2 ^ 40) a.told a.few));
        line_asks = λ p k e.
            let a = is_at p k e in
            subst (λ (x : Counters). x.line_asks ≤ degree s p * x.items) (sym a.told)
            (told_line_asks a.record_of a.bounded (degree s p) a.lines_are
            (subst (λ (x : Counters). x.items ≤ 2 ^ 40) a.told a.few));
      };
      small = small;
      starts = starts_by_roots c q roots roots graph.places (λ p low. IsPermutation-refl (roots p));
    }
