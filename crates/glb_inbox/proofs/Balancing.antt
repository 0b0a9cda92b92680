-- What the end of the run tells of all seats, told of the records of all places.
use Rattle.std.specs.Prelude.{All, map, sum_by}
use Rattle.std.specs.List.{flat_map}
use Rattle.std.proofs.Common.{◌≡◌, ℕ, zero, suc, ◌+◌, ◌<◌, List, [], ◌∷◌, ◌++◌, get_or, length}
use Rattle.std.proofs.Common.{refl, sym, ap, subst, ◌∙◌, arith, length-append}
use Rattle.std.proofs.lemmas.List.{get_or-map, length-map}
use Rattle.std.proofs.lemmas.List.Sums.{sum_by-cons}
use Rattle.std.proofs.lemmas.Option.{get_or_from_slice_get}
use Rattle.glb_laws.specs.Expansion.{Expansion}
use Rattle.glb_stats.specs.Balances.{IsBalanced, PlaceBalances}
use Rattle.glb_stats.specs.declared.counters.Counters.{Counters}
use Rattle.glb_core.specs.Counters.{HasSmallCounts, all_awake, all_degrees, counters_of}
use Rattle.glb_core.proofs.CallerLemmas.{told_at}
use Rattle.glb_core.specs.Lifelines.{setup_of}
use Rattle.glb_rules.specs.Lawful.{armed_at_start}
use Rattle.glb_rules.specs.Setups.{bit, degree}
use Rattle.glb_rules.specs.World.{Setup}
use Rattle.glb_rules.specs.declared.local.Counts.{Counts}
use Rattle.glb_place.specs.declared.record.Record.{Record}
use Rattle.glb_place.specs.Close as place
use Rattle.atomic_table.specs.Seated.{TableId}
use Rattle.glb_inbox.specs.Posts.{AreDesksOf, AreNumbered, DeskView, roots_at, setup_at}
use Rattle.glb_inbox.specs.declared.rule.Start.{Start}
use Rattle.glb_inbox.specs.inner.Begins.{job_of}
use Rattle.glb_inbox.specs.Viewing.{post_view}
use Rattle.glb_inbox.specs.declared.view.Seated.{Seated}
use Rattle.glb_inbox.specs.inner.Close.{Closes, bag_of_place, count_of, done_of, kept_of}
use Rattle.glb_inbox.specs.inner.Ends.{PlaceEnded}
use Rattle.glb_inbox.specs.inner.Members.{Each, total}
use Rattle.glb_inbox.specs.inner.Rule.{Job, own_setup, setup}

module _ {I : Type 0} where
  abbrev records : List (Seated I) → List (Record I)
  records xs = map kept_of xs

  flat_done : (xs : List (Seated I)) → flat_map place.done_of (records xs) ≡ flat_map done_of xs
  flat_done [] = refl
  flat_done (x ∷ xs) = ap (λ l. x.kept.local.done ++ l) (flat_done xs)

  flat_bag : (xs : List (Seated I)) → flat_map place.bag_of (records xs) ≡ flat_map bag_of_place xs
  flat_bag [] = refl
  flat_bag (x ∷ xs) = ap (λ l. x.kept.local.bag ++ l) (flat_bag xs)

  all_of : (F : Record I → Type 0) (xs : List (Seated I)) → Each (λ x. F x.kept) xs
      → All F (records xs)
  all_of F [] h k d l = absurd (omega arith)
  all_of F (x ∷ xs) h zero d l = h.0
  all_of F (x ∷ xs) h (suc k) d l = all_of F xs h.1 k d (omega arith)

  each_of : (F : Record I → Type 0) (xs : List (Seated I)) → All F (records xs)
      → Each (λ x. F x.kept) xs
  each_of F [] h = tt
  each_of F (x ∷ xs) h = (
    h 0 x.kept (omega arith),
    each_of F xs (λ k d l. h (suc k) d (omega arith)),
  )

  sum_told : (g : Counters → ℕ) (f : Counts → ℕ) (xs : List (Seated I))
      → Each (λ x. g (counters_of x.kept.local.count) ≡ f x.kept.local.count) xs
      → sum_by g (map place.counters_in (records xs)) ≡ total (count_of f) xs
  sum_told g f [] h = refl
  sum_told g f (x ∷ xs) h =
      let e = sum_told g f xs h.1 in
      let c = sum_by-cons g (counters_of x.kept.local.count) (map place.counters_in (records xs)) in
      let a = h.0 in omega arith

  map_each : (F G : Seated I → Type 0) → ((x : Seated I) → F x → G x) → (xs : List (Seated I))
      → Each F xs → Each G xs
  map_each F G f [] h = tt
  map_each F G f (x ∷ xs) h = (f x h.0, map_each F G f xs h.1)

  counts_items : (xs : List (Seated I)) → Each (λ x. place.IsBounded x.kept) xs
      → total (count_of (λ c. c.items)) xs ≡ length (flat_map done_of xs)
  counts_items [] h = refl
  counts_items (x ∷ xs) h =
      let e = counts_items xs h.1 in
      let a = h.0.items in
      omega (arith, length-append x.kept.local.done (flat_map done_of xs))

first : {I : Type 0} {p : ℕ} (ys : List (Record I)) → p < length ys → Record I
first [] l = absurd (omega arith)
first (y ∷ ys) l = y

module _ {I : Type 0} (j : Job I) (xs : List (Seated I)) (live items stop : ℕ)
    (C : Closes j xs live items stop)
    (numbered : (p : ℕ) (d : Record I) → p < length (map kept_of xs)
    → (get_or (map kept_of xs) p d).place ≡ p)
    (many : length xs ≡ j.lines.places) (some : 0 < j.lines.places) where
  abbrev rs : List (Record I)
  rs = map kept_of xs

  place_told : live ≡ 0 → (p : ℕ) (d : Record I) → p < length rs
      → PlaceBalances (counters_of (get_or rs p d).local.count) (degree (setup j) p) (j.awake p)
  place_told z p d l =
      let E = all_of (PlaceEnded j.awake) xs (C.balanced z).places p d l in
      let H = all_of (λ q. HasSmallCounts q.local.count) xs (C.small z) p d l in
      let J = all_of (λ q. (q.params ≡ j.params) × (q.lines ≡ j.lines)) xs C.jobs p d l in
      let n = numbered p d l in
      let q = get_or rs p d in
      let same : own_setup j.awake q ≡ setup j = λ i. setup_of (J.1 i) (J.0 i) j.awake in
      let lines = subst (λ (s : Setup). armed_at_start s (get_or rs p d).place
      + q.local.count.line_asks ≡ q.local.count.line_got + degree s (get_or rs p d).place) same
      E.lines in
      let lined = subst (λ k. armed_at_start (setup j) k + q.local.count.line_asks
      ≡ q.local.count.line_got + degree (setup j) k) n lines in
      let napped = subst (λ k. q.local.count.sleeps ≡ q.local.count.wakes + bit (j.awake k)) n
      E.naps in
      record {
        asks = let a = E.asks in let x = H.asks in let y = H.shrugs in let w = H.got in omega arith;
        lines = let x = H.line_asks in let y = H.line_got in omega arith;
        naps = let x = H.sleeps in let y = H.wakes in omega arith;
      }

  pub closed : place.Closes j.children (all_degrees (setup j)) (all_awake (setup j)) j.params.limit
      j.roots rs live items stop
  closed = record {
    way = C.way;
    expansion = subst (λ l. Expansion j.children j.roots l (flat_map place.bag_of rs ++ C.way))
        (sym (flat_done xs))
        (subst (λ l. Expansion j.children j.roots (flat_map done_of xs) (l ++ C.way))
        (sym (flat_bag xs)) C.expansion);
    quiet = λ z. let q = C.nothing_left z in (flat_bag xs ∙ q.0, q.1);
    balanced = λ z. balanced z;
    bounded = all_of place.IsBounded xs C.bounded;
    count = C.count ∙ ap length (sym (flat_done xs));
    cause = C.cause;
    codes = C.codes;
    ended = λ h. C.ended (each_of place.HasLeft xs h) (omega arith);
  }
    where
      told : (z : live ≡ 0) (g : Counters → ℕ) (f : Counts → ℕ)
          → ((x : Seated I) → HasSmallCounts x.kept.local.count → g (counters_of x.kept.local.count)
          ≡ f x.kept.local.count)
          → sum_by g (map place.counters_in rs) ≡ total (count_of f) xs
      told z g f h = sum_told g f xs (map_each _ _ h xs (C.small z))

      balanced : live ≡ 0 → IsBalanced (map place.counters_in rs) items (all_degrees (setup j))
          (all_awake (setup j))
      balanced z =
          let B = C.balanced z in record {
            sums = record {
              items = told z (λ c. c.items) (λ c. c.items) (λ x H. let h = H.items in omega arith)
                  ∙ counts_items xs C.bounded ∙ sym C.count;
              given = told z (λ c. c.given) (λ c. c.given) (λ x H. let h = H.given in omega arith)
                  ∙ B.given
                  ∙ sym (told z (λ c. c.got) (λ c. c.got) (λ x H. let h = H.got in omega arith));
              line_given = told z (λ c. c.line_given) (λ c. c.line_given)
                  (λ x H. let h = H.line_given in omega arith) ∙ B.line_given
                  ∙ sym (told z (λ c. c.line_got) (λ c. c.line_got)
                  (λ x H. let h = H.line_got in omega arith));
              units = told z (λ c. c.sent_units) (λ c. c.sent_units)
                  (λ x H. let h = H.sent_units in omega arith) ∙ B.units
                  ∙ sym (told z (λ c. c.got_units) (λ c. c.got_units)
                  (λ x H. let h = H.got_units in omega arith));
              answers =
                  let a = told z (λ c. c.asks) (λ c. c.asks) (λ x H. let h =
                  H.asks in omega arith) in
                  let b = told z (λ c. c.denied) (λ c. c.denied) (λ x H. let h =
                  H.denied in omega arith) in
                  let d = told z (λ c. c.given) (λ c. c.given) (λ x H. let h =
                  H.given in omega arith) in
                  let e = B.asks in omega arith;
            };
            places = λ p c d awake at_c at_d at_awake.
                let k = told_at (degree (setup j)) j.lines.places p d at_d in
                let m = told_at j.awake j.lines.places p awake at_awake in
                let short : p < length rs = omega (arith, length-map xs kept_of) in
                let dflt = first rs short in
                let is : c ≡ counters_of (get_or rs p dflt).local.count =
                sym (get_or_from_slice_get (map place.counters_in rs) p c c at_c)
                ∙ get_or-map place.counters_in rs p dflt c short in
                let v = counters_of (get_or rs p dflt).local.count in
                subst (λ x. PlaceBalances x d awake) (sym is)
                (subst (λ x. PlaceBalances v x awake) (sym k.1)
                (subst (λ x. PlaceBalances v (degree (setup j) p) x) (sym m.1)
                (place_told z p dflt short)));
          }

  pub are_numbered : AreNumbered j.lines j.params rs
  are_numbered = record {
    many = length-map xs kept_of ∙ many;
    places = numbered;
    params_are = all_of (λ q. q.params ≡ j.params) xs (map_each _ _ (λ x h. h.0) xs C.jobs);
    lines_are = all_of (λ q. q.lines ≡ j.lines) xs (map_each _ _ (λ x h. h.1) xs C.jobs);
  }

module _ {P B I : Type 0} (children : P → I → List I) (items : B → List I) (key : Start P B)
    (id : TableId) (desks : List (DeskView P I))
    (D : AreDesksOf (post_view items id key) desks)
    (N : All (λ d. d.kept.place ≡ d.home.place) desks)
    (xs : List (Seated I)) (same : map kept_of xs ≡ map (λ d. d.kept) desks)
    (some : 0 < key.lines.value.places) where
  first_desk : {p : ℕ} (ds : List (DeskView P I)) → p < length ds → DeskView P I
  first_desk [] l = absurd (omega arith)
  first_desk (d ∷ ds) l = d

  lengths : length xs ≡ length desks
  lengths = sym (length-map xs kept_of) ∙ ap length same ∙ length-map desks (λ d. d.kept)

  numbers : (p : ℕ) (d : Record I) → p < length (map kept_of xs)
      → (get_or (map kept_of xs) p d).place ≡ p
  numbers p d l =
      let short : p < length desks = (let a = lengths in omega (arith, length-map xs kept_of)) in
      let e = first_desk desks short in
      ap (λ ls. (get_or ls p d).place) same
      ∙ ap (λ r. r.place) (get_or-map (λ d. d.kept) desks p e d short)
      ∙ N p e short ∙ ap (λ h. h.place) (D.homes p e short)

  pub many : length xs ≡ key.lines.value.places
  many = lengths ∙ D.many

  pub post_closes : (live count stop : ℕ) → Closes (job_of children items key) xs live count stop
      → place.Closes (children key.program.value)
      (all_degrees (setup_at (post_view items id key)))
      (all_awake (setup_at (post_view items id key)))
      key.params.limit (roots_at (post_view items id key)) (map (λ d. d.kept) desks) live
      count stop
  post_closes live count stop C =
      subst (λ ls. place.Closes (children key.program.value)
      (all_degrees (setup_at (post_view items id key)))
      (all_awake (setup_at (post_view items id key)))
      key.params.limit (roots_at (post_view items id key)) ls live count stop) same
      (closed (job_of children items key) xs live count stop C numbers many some)

  pub post_numbered : (live count stop : ℕ) → Closes (job_of children items key) xs live count stop
      → AreNumbered key.lines.value key.params (map (λ d. d.kept) desks)
  post_numbered live count stop C = subst (AreNumbered key.lines.value key.params) same
      (are_numbered (job_of children items key) xs live count stop C numbers many some)
