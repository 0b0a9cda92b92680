-- What a desk keeps of its place at the start agrees with the place's first record.
use Rattle.std.specs.Prelude.{map}
use Rattle.std.specs.List.{range_with_len}
use Rattle.std.proofs.Common.{◌≡◌, ◌≢◌, ℕ, zero, suc, ◌+◌, ◌<◌, Bool, true, false, not, List, []}
use Rattle.std.proofs.Common.{◌∷◌, ◌++◌, drop, get_or, length, refl, sym, ap, subst, ◌∙◌, ⊎_elim}
use Rattle.std.proofs.Common.{arith, length-append}
use Rattle.std.proofs.Math.ListN.{get_or-append}
use Rattle.std.proofs.Math.Seq.{get_or-append_seam, drop-cons}
use Rattle.std.proofs.lemmas.Bool.{cases_eq}
use Rattle.std.proofs.lemmas.List.{get_or-append-add}
use Rattle.std.proofs.lemmas.List.FromFn.{get_or-map-range_with_len, length-map-range_with_len}
use Rattle.atomic_table.specs.Seated.{TableId}
use Rattle.atomic_table.specs.Table.{Me}
use Rattle.glb_cube.specs.Lines.{IsCube, outs_of}
use Rattle.glb_laws.specs.Numbers.{has_number}
use Rattle.glb_core.proofs.CallerLemmas.{line_is, proper}
use Rattle.glb_core.specs.Counters.{counters_of}
use Rattle.glb_core.specs.Lifelines.{setup_of}
use Rattle.glb_rules.specs.Events.{name_of}
use Rattle.glb_rules.specs.History.{first_line, first_phase, no_counts}
use Rattle.glb_rules.specs.Effects.{wake_count}
use Rattle.glb_rules.specs.Joins.{join_to}
use Rattle.glb_rules.specs.Setups.{IsWithinLimits, bit, has_items}
use Rattle.glb_rules.specs.World.{has_edge, has_line, state_of}
use Rattle.glb_rules.specs.declared.kinds.Kind.{Kind}
use Rattle.glb_rules.specs.declared.kinds.Kind.TheVariants as kind
use Rattle.glb_rules.specs.declared.kinds.Edge.{Edge}
use Rattle.glb_rules.specs.declared.kinds.Edge.TheVariants as seen
use Rattle.glb_rules.specs.declared.kinds.Mark.TheVariants as mark
use Rattle.glb_rules.specs.declared.kinds.Side.TheVariants as side
use Rattle.glb_rules.proofs.CallerLemmas.{eq_self}
use Rattle.glb_place.specs.declared.record.Record.{Record}
use Rattle.glb_place.specs.Records.{IsFirst, knows, setup_in}
use Rattle.glb_place.specs.Calls.{CanFind}
use Rattle.glb_inbox.specs.declared.books.Books.{Books}
use Rattle.glb_inbox.specs.declared.lane.Lane.{Lane}
use Rattle.glb_inbox.specs.declared.rule.Start.{Start}
use Rattle.glb_inbox.specs.declared.view.Member.{Member}
use Rattle.glb_inbox.specs.Viewing.{bag_lists}
use Rattle.glb_inbox.specs.inner.Begins.{bags_of, first_record, first_seat, job_of}
use Rattle.glb_inbox.specs.Viewing.{kept_in, kept_of}
use Rattle.glb_inbox.specs.inner.Books.{AreBooks}
use Rattle.glb_inbox.specs.inner.Firsts.{first_known, first_lane}
use Rattle.glb_inbox.specs.Keeping.{lane_at}
use Rattle.glb_inbox.specs.inner.Lanes.{AreLanes, HasAnswer, IsLane, Mirrors}
use Rattle.glb_inbox.specs.declared.lane.Answer.TheVariants.{Nothing}
use Rattle.glb_inbox.specs.inner.Rule.{Job, setup}
use Rattle.glb_inbox.specs.inner.Views.{one}
use Rattle.glb_inbox.proofs.Starting.{below_here, below_steal, first_is}

known_is : (I : Type 0) (a b : Bool) → first_known a b ≡ state_of (first_line {I = I} a b)
known_is I true b = refl
known_is I false true = refl
known_is I false false = refl

known_loop : (I : Type 0) (a b : Bool) → b ≡ false → state_of (first_line {I = I} a b) ≡ seen.Idle
known_loop I true b e = refl
known_loop I false true e = absurd (cc)
known_loop I false false e = refl

stays_out : (k : Kind) (x : Edge) → CanFind mark.Unseen k side.Outward x x
stays_out kind.Steal seen.Idle = tt
stays_out kind.Steal seen.Asked = tt
stays_out kind.Steal seen.Refused = tt
stays_out kind.Steal seen.Loot = tt
stays_out kind.Line seen.Idle = tt
stays_out kind.Line seen.Asked = tt
stays_out kind.Line seen.Refused = tt
stays_out kind.Line seen.Loot = tt

awake_bit : (b : Bool) → bit (not b) ≡ wake_count (first_phase b)
awake_bit true = refl
awake_bit false = refl

-- the members dealt from the front of a list made by number
pub dealt_at : {A : Type 0} (n : ℕ) (g : ℕ → A) (p : ℕ) (d : A) → p < n
    → get_or (join_to n (λ q. g q ∷ [])) p d ≡ g p
dealt_at zero g p d l = absurd (omega arith)
dealt_at {A = A} (suc n) g p d l = ⊎_elim
    (λ (e : p ≡ n). subst (λ i. get_or (join_to n (λ q. g q ∷ []) ++ g n ∷ []) i d ≡ g p)
    (many n ∙ sym e)
    (get_or-append_seam (join_to n (λ q. g q ∷ [])) (g n) [] d ∙ ap g (sym e)))
    (λ (e : p ≢ n). get_or-append (join_to n (λ q. g q ∷ [])) (g n ∷ []) d p
    (let m = many n in omega arith) ∙ dealt_at n g p d (omega arith))
    (cases_eq p n)
  where
    many : (m : ℕ) → length (join_to m (λ q. g q ∷ [])) ≡ m
    many zero = refl
    many (suc m) = let e = many m in
        omega (arith, length-append (join_to m (λ q. g q ∷ [])) (g m ∷ []))

-- what is dealt next
pub dealt_is : {A : Type 0} (n : ℕ) (g : ℕ → A) (p : ℕ) (x : A) (xs : List A) → p < n
    → drop p (join_to n (λ q. g q ∷ [])) ≡ x ∷ xs → x ≡ g p
dealt_is {A = A} n g p x xs l e =
    let e2 : drop p (join_to n (λ q. g q ∷ [])) ≡ get_or (join_to n (λ q. g q ∷ [])) p x ∷ drop
    (suc p) (join_to n (λ q. g q ∷ [])) = drop-cons (join_to n (λ q. g q ∷ [])) p x
    (many n p l) in
    let h : x ≡ get_or (join_to n (λ q. g q ∷ [])) p x = cc in
    h ∙ dealt_at n g p x l
  where
    long : (m : ℕ) → length (join_to m (λ q. g q ∷ [])) ≡ m
    long zero = refl
    long (suc m) = let e = long m in
        omega (arith, length-append (join_to m (λ q. g q ∷ [])) (g m ∷ []))

    many : (m k : ℕ) → k < m → k < length (join_to m (λ q. g q ∷ []))
    many m k l = let e = long m in omega arith

-- a fact of each, by number, and of one more
pub numbered_more : {A : Type 0} (F : ℕ → A → Type 0) (xs : List A) (x : A)
    → ((p : ℕ) (d : A) → p < length xs → F p (get_or xs p d)) → F (length xs) x
    → (p : ℕ) (d : A) → p < length (xs ++ x ∷ []) → F p (get_or (xs ++ x ∷ []) p d)
numbered_more F xs x h here p d l = ⊎_elim
    (λ (e : p ≡ length xs). subst (λ i. F i (get_or (xs ++ x ∷ []) i d)) (sym e)
    (subst (F (length xs)) (sym (get_or-append_seam xs x [] d)) here))
    (λ (e : p ≢ length xs). let s : p < length xs = omega (arith, length-append xs (x ∷ [])) in
    subst (F p) (sym (get_or-append xs (x ∷ []) d p s)) (h p d s))
    (cases_eq p (length xs))

module _ {P B I : Type 0} (children : P → I → List I) (items : B → List I) (key : Start P B)
    (bs : List B)
    (lists : map items bs ≡ bag_lists items key.bags.items)
    (L : IsWithinLimits key.params) (places : key.lines.value.places ≡ key.params.places)
    (cube : IsCube key.lines.value)
    (p : ℕ) (near : p < key.lines.value.places) where
  abbrev j : Job I
  j = job_of children items key

  abbrev bags : ℕ → List I
  bags = bags_of children items key

  abbrev n : ℕ
  n = key.lines.value.places

  abbrev r : Record I
  r = first_record j bags p

  abbrev aw : ℕ → Bool
  aw q = has_items (bags q)

  loops : (awake : ℕ → Bool) → has_line (setup_of key.lines.value key.params awake) p p ≡ false
  loops awake = (proper key.lines.value key.params awake cube (sym places)
      (let b = L.batch.0 in omega arith)).no_loop p

  module _ (lanes : List (Lane B I))
      (are : lanes ≡ map (first_lane key.lines.value aw p kind.Steal) (range_with_len 0 n) ++ map
      (first_lane key.lines.value aw p kind.Line) (range_with_len 0 n)) where
    lane_here : (k : Kind) (o : ℕ) (d : Lane B I) → o < n → get_or lanes (lane_at n k o) d
        ≡ first_lane key.lines.value aw p k o
    lane_here kind.Steal o d l =
        let m = length-map-range_with_len
        (first_lane {B = B} {I = I} key.lines.value aw p kind.Steal) 0 n in
        ap (λ (ls : List (Lane B I)). get_or ls o d) are
        ∙ get_or-append (map (first_lane key.lines.value aw p kind.Steal) (range_with_len 0 n))
        (map (first_lane key.lines.value aw p kind.Line) (range_with_len 0 n)) d o (omega arith)
        ∙ get_or-map-range_with_len (first_lane key.lines.value aw p kind.Steal) 0 n o o d l
        (omega arith)
    lane_here kind.Line o d l =
        let m = length-map-range_with_len
        (first_lane {B = B} {I = I} key.lines.value aw p kind.Steal) 0 n in
        ap (λ (ls : List (Lane B I)). get_or ls (n + o) d) are
        ∙ ap (λ i. get_or (map (first_lane {B = B} {I = I} key.lines.value aw p kind.Steal)
        (range_with_len 0 n) ++ map (first_lane key.lines.value aw p kind.Line)
        (range_with_len 0 n)) (i + o) d) (sym m)
        ∙ get_or-append-add (map (first_lane key.lines.value aw p kind.Steal) (range_with_len 0 n))
        (map (first_lane key.lines.value aw p kind.Line) (range_with_len 0 n)) o d
        ∙ get_or-map-range_with_len (first_lane key.lines.value aw p kind.Line) 0 n o o d l
        (omega arith)

    lane_fine : (fits : B → P → Type 0) (id : TableId) (q : P) (k : Kind) (o : ℕ)
        → IsLane items fits id q k (first_lane key.lines.value aw p k o)
    lane_fine fits id q kind.Steal o =
        record { request = tt; answer = tt; finds = stays_out kind.Steal seen.Idle; kept = tt }
    lane_fine fits id q kind.Line o = record {
      request = tt;
      answer = tt;
      finds = stays_out kind.Line (first_known (aw p) (has_number o (outs_of key.lines.value p)));
      kept = has (aw p) (has_number o (outs_of key.lines.value p));
    }
      where
        has : (a b : Bool) → HasAnswer {B = B} {I = I} kind.Line (first_known a b) Nothing
        has true b = tt
        has false true = tt
        has false false = tt

    lanes_are : (fits : B → P → Type 0) (id : TableId) (q : P) → AreLanes items fits id q n lanes
    lanes_are fits id q = record {
      wide =
          let a = length-map-range_with_len
          (first_lane {B = B} {I = I} key.lines.value aw p kind.Steal) 0 n in
          let b = length-map-range_with_len
          (first_lane {B = B} {I = I} key.lines.value aw p kind.Line) 0 n in
          ap length are ∙ omega (
            arith,
            length-append (map (first_lane {B = B} {I = I} key.lines.value aw p kind.Steal)
                (range_with_len 0 n)) (map (first_lane key.lines.value aw p kind.Line)
                (range_with_len 0 n)),
          );
      each = λ k o d l. subst (IsLane items fits id q k) (sym (lane_here k o d l))
          (lane_fine fits id q k o);
    }

    line_known : (t v : ℕ) → t < n → v < n
        → first_known (aw t) (has_number v (outs_of key.lines.value t))
        ≡ knows r (name_of kind.Line t v)
    line_known t v l m =
        ap (first_known (aw t)) (sym (line_is key.lines.value key.params j.awake t v l))
        ∙ known_is I (aw t) (has_line (setup j) t v)
        ∙ sym (below_here j bags (λ q. refl) n t v l m)

    mirrors : Mirrors lanes r
    mirrors = record {
      inward = λ k o d l. ap (λ a. a.inward) (lane_here k o d l) ∙ in_known k o l;
      outward = λ k o d l. ap (λ a. a.outward) (lane_here k o d l) ∙ out_known k o l;
      itself = λ k. self k;
      alone = λ k. no_edge k;
    }
      where
        in_known : (k : Kind) (o : ℕ) → o < n
            → (first_lane {B = B} {I = I} key.lines.value aw p k o).inward ≡ knows r (name_of k o p)
        in_known kind.Steal o l = sym (below_steal j bags (λ q. refl) n o p)
        in_known kind.Line o l = line_known o p l near

        out_known : (k : Kind) (o : ℕ) → o < n
            → (first_lane {B = B} {I = I} key.lines.value aw p k o).outward
            ≡ knows r (name_of k p o)
        out_known kind.Steal o l = sym (below_steal j bags (λ q. refl) n p o)
        out_known kind.Line o l = line_known p o near l

        self : (k : Kind) → knows r (name_of k p p) ≡ seen.Idle
        self kind.Steal = below_steal j bags (λ q. refl) n p p
        self kind.Line = below_here j bags (λ q. refl) n p p near near
            ∙ known_loop I (aw p) _ (loops j.awake)

        no_edge : (k : Kind) → has_edge (setup_in r) k p p ≡ false
        no_edge kind.Steal = rw (eq_self p) refl
        no_edge kind.Line = loops (λ q. false)

  pub first_books : (fits : B → P → Type 0) (id : TableId) (b : Books B I) → 2 < id.words
      → b.seat.table_id ≡ id
      → b.seat.me ≡ (one (first_seat j bags p), []) → b.place ≡ p
      → b.lanes.items ≡ map (first_lane key.lines.value
      (λ q. has_items (get_or (map items bs) q [])) p kind.Steal) (range_with_len 0 n)
      ++ map (first_lane key.lines.value (λ q. has_items (get_or (map items bs) q [])) p kind.Line)
      (range_with_len 0 n)
      → b.counters ≡ counters_of no_counts
      → b.is_asleep ≡ not (has_items (get_or (map items bs) p []))
      → AreBooks items fits id key.program.value key.lines.value key.params b
  first_books fits id b words here e place are counters asleep =
      let same : b.lanes.items ≡ map (first_lane key.lines.value aw p kind.Steal)
      (range_with_len 0 n) ++ map (first_lane key.lines.value aw p kind.Line)
      (range_with_len 0 n) =
      are ∙ ap (λ (ls : List (List I)).
      map (first_lane key.lines.value (λ q. has_items (get_or ls q [])) p kind.Steal)
      (range_with_len 0 n)
      ++ map (first_lane key.lines.value (λ q. has_items (get_or ls q [])) p kind.Line)
      (range_with_len 0 n)) lists in
      let is : kept_of b ≡ r = ap (λ (m : Me ℕ (List (Member I))). kept_in m.0) e in
      record {
        here = here;
        words = words;
        alone = (first_seat j bags p, e);
        number = ap (λ x. x.place) is ∙ sym place;
        lines_are = ap (λ x. x.lines) is;
        params_are = ap (λ x. x.params) is;
        few = (let a = L.places.1 in omega arith);
        lanes = lanes_are b.lanes.items same fits id key.program.value;
        mirrors = subst (Mirrors b.lanes.items) (sym is) (mirrors b.lanes.items same);
        counted = counters ∙ sym (ap (λ x. counters_of x.local.count) is);
        asleep = ap bit asleep ∙ ap (λ (ls : List (List I)). bit (not (has_items (get_or ls p []))))
            lists ∙ awake_bit (aw p) ∙ sym (ap (λ x. wake_count x.local.phase) is);
      }

  pub first_kept : (m : Me ℕ (List (Member I))) → m ≡ (one (first_seat j bags p), [])
      → IsFirst key.lines.value key.params p (bags p) (kept_in m.0)
  first_kept m e = subst (IsFirst key.lines.value key.params p (bags p))
      (sym (ap (λ (m : Me ℕ (List (Member I))). kept_in m.0) e)) (first_is j bags (λ q. refl) p)
