-- How often a desk looked, told of its lanes.
use Rattle.std.proofs.Common.{◌≡◌, ◌≢◌, ℕ, ◌*◌, ◌<◌, ◌≤◌, ◌⊎◌, Bool, true, false, cond, ◌==◌}
use Rattle.std.proofs.Common.{nat_lt, List, map, get_or, length, refl, sym, ap, subst, ◌∙◌, inl}
use Rattle.std.proofs.Common.{inr, ⊎_elim, arith}
use Rattle.std.proofs.lemmas.Bool.{cases_eq}
use Rattle.std.proofs.lemmas.Bool.Decides.{nat_tests}
use Rattle.std.proofs.lemmas.List.{get_or-map}
use Rattle.atomic_table.specs.Seated.{TableId}
use Rattle.glb_rules.specs.Events.{name_of, same_name}
use Rattle.glb_rules.specs.declared.kinds.Kind.{Kind}
use Rattle.glb_rules.specs.declared.kinds.Side.{Side}
use Rattle.glb_rules.specs.declared.kinds.Side.TheVariants as side
use Rattle.glb_rules.specs.declared.local.EdgeName.{EdgeName}
use Rattle.glb_rules.proofs.CallerLemmas.{eq_self, eq_other, same_kind_true, kind_cases}
use Rattle.glb_place.specs.Calls.{edge_with}
use Rattle.glb_place.specs.Looks.{Looks, LooksAt, LooksAtLive, LooksAtStop, SameLooks, raised}
use Rattle.glb_inbox.specs.declared.books.Books.{Books}
use Rattle.glb_inbox.specs.declared.lane.Lane.{Lane}
use Rattle.glb_inbox.specs.Posts.{edge_looks, lane_looks, looks_of}
use Rattle.glb_inbox.specs.Viewing.{lane_view}
use Rattle.glb_inbox.specs.inner.Books.{BooksStay}
use Rattle.glb_inbox.specs.Viewing.{desk_view}
use Rattle.glb_inbox.specs.Keeping.{LaneView, lane_at, no_lane}
use Rattle.glb_inbox.specs.inner.Lanes.{LanesStay, LooksInward, LooksOutward, LooksOn}
use Rattle.glb_inbox.proofs.BookLemmas as books
use Rattle.glb_inbox.proofs.LaneLemmas.{lane_below, lanes_differ}

-- two names of in-edges, or of out-edges, of one place differ as kind or other end do
inward_differ : (k : Kind) (o place : ℕ) (nm : EdgeName) → nm.victim ≡ place
    → same_name (name_of k o place) nm.kind nm.thief nm.victim ≡ false
    → (nm.kind ≢ k) ⊎ (nm.thief ≢ o)
inward_differ k o place nm v e = ⊎_elim
    (λ (a : nm.kind ≡ k). ⊎_elim
    (λ (b : nm.thief ≡ o). absurd
    (let t : same_name (name_of k o place) nm.kind nm.thief nm.victim ≡ true =
    rw (a, b, v, same_kind_true k k refl, eq_self o, eq_self place) refl in
    let f : true ≡ false = sym t ∙ e in cc))
    (λ (b : nm.thief ≢ o). inr b) (cases_eq nm.thief o))
    (λ (a : nm.kind ≢ k). inl a) (kind_cases nm.kind k)

outward_differ : (k : Kind) (o place : ℕ) (nm : EdgeName) → nm.thief ≡ place
    → same_name (name_of k place o) nm.kind nm.thief nm.victim ≡ false
    → (nm.kind ≢ k) ⊎ (nm.victim ≢ o)
outward_differ k o place nm v e = ⊎_elim
    (λ (a : nm.kind ≡ k). ⊎_elim
    (λ (b : nm.victim ≡ o). absurd
    (let t : same_name (name_of k place o) nm.kind nm.thief nm.victim ≡ true =
    rw (a, b, v, same_kind_true k k refl, eq_self o, eq_self place) refl in
    let f : true ≡ false = sym t ∙ e in cc))
    (λ (b : nm.victim ≢ o). inr b) (cases_eq nm.victim o))
    (λ (a : nm.kind ≢ k). inl a) (kind_cases nm.kind k)

eq_is : (a b : ℕ) → (a == b) ≡ true → a ≡ b
eq_is a b e = grind (arith, nat_tests)

module _ {B I : Type 0} where
  -- a number of a lane is that of its view
  viewed : (f : LaneView → ℕ) (n : ℕ) (lanes : List (Lane B I)) (k : Kind) (o : ℕ)
      → length lanes ≡ 2 * n → o < n
      → f (get_or (map lane_view lanes) (lane_at n k o) no_lane) ≡ f
      (lane_view (get_or lanes (lane_at n k o) books.no_lane))
  viewed f n lanes k o wide l =
      let short : lane_at n k o < length lanes = (let b = lane_below n k o l in omega arith) in
      ap f (get_or-map lane_view lanes (lane_at n k o) books.no_lane no_lane short)

  -- where the numbers of two lanes are in this relation, those of their views are
  told : (f : LaneView → ℕ) (g : ℕ → ℕ) (n : ℕ) (old new : List (Lane B I)) (k : Kind) (o : ℕ)
      → length old ≡ 2 * n → length new ≡ 2 * n → g 0 ≡ 0
      → (o < n → f (lane_view (get_or new (lane_at n k o) books.no_lane))
      ≡ g (f (lane_view (get_or old (lane_at n k o) books.no_lane))))
      → lane_looks f n (map lane_view new) k o ≡ g (lane_looks f n (map lane_view old) k o)
  told f g n old new k o w v z h = go (nat_lt o n) refl
    where
      go : (b : Bool) → nat_lt o n ≡ b
          → cond b (f (get_or (map lane_view new) (lane_at n k o) no_lane)) 0
          ≡ g (cond b (f (get_or (map lane_view old) (lane_at n k o) no_lane)) 0)
      go true e = let l : o < n = grind (arith, nat_tests) in
          viewed f n new k o v l ∙ h l ∙ ap g (sym (viewed f n old k o w l))
      go false e = sym z

  -- the looks at an edge, where those at the lanes stay
  edges_stay : (place n : ℕ) (old new : List (Lane B I)) → length old ≡ 2 * n → length new ≡ 2 * n
      → LanesStay old new
      → (nm : EdgeName) → edge_looks place n (map lane_view new) nm
      ≡ edge_looks place n (map lane_view old) nm
  edges_stay place n old new w v S nm = go (nm.victim == place) (nm.thief == place)
    where
      go : (a b : Bool) → cond a
          (lane_looks (λ l. l.inward_looks) n (map lane_view new) nm.kind nm.thief)
          (cond b (lane_looks (λ l. l.outward_looks) n (map lane_view new) nm.kind nm.victim) 0)
          ≡ cond a (lane_looks (λ l. l.inward_looks) n (map lane_view old) nm.kind nm.thief)
          (cond b (lane_looks (λ l. l.outward_looks) n (map lane_view old) nm.kind nm.victim) 0)
      go true b = told (λ l. l.inward_looks) (λ m. m) n old new nm.kind nm.thief w v refl
          (λ l. (S (lane_at n nm.kind nm.thief) books.no_lane).inward_looks)
      go false true = told (λ l. l.outward_looks) (λ m. m) n old new nm.kind nm.victim w v refl
          (λ l. (S (lane_at n nm.kind nm.victim) books.no_lane).outward_looks)
      go false false = refl

  pub same_looks : {P : Type 0} (id : TableId) (q : P) (n : ℕ) (b c : Books B I)
      → length b.lanes.items ≡ 2 * n → length c.lanes.items ≡ 2 * n
      → BooksStay b c → SameLooks (looks_of (desk_view id q n b)) (looks_of (desk_view id q n c))
  same_looks id q n b c w v S = record {
    edge = λ nm. ap (λ p. edge_looks p n (map lane_view c.lanes.items) nm) S.place
        ∙ edges_stay b.place n b.lanes.items c.lanes.items w v S.lanes nm;
    live = S.live_looks;
    stop = S.stop_looks;
  }

  -- the same, where the ways are put back
  pub same_looks_put : {P : Type 0} (o : Looks) (id : TableId) (q : P) (n m : ℕ) (c : Books B I)
      → m ≡ n
      → SameLooks o (looks_of (desk_view id q n c)) → SameLooks o (looks_of (desk_view id q m c))
  same_looks_put o id q n m c e S = subst (λ k. SameLooks o (looks_of (desk_view id q k c))) (sym e)
      S

  pub looks_live : {P : Type 0} (id : TableId) (q : P) (n : ℕ) (b c : Books B I) → c.place ≡ b.place
      → c.lanes ≡ b.lanes
      → c.live_looks ≡ raised b.live_looks → c.stop_looks ≡ b.stop_looks
      → LooksAtLive (looks_of (desk_view id q n b)) (looks_of (desk_view id q n c))
  looks_live id q n b c p l live stop = record {
    edge = λ nm. λ i. edge_looks (p i) n (map lane_view (l i).items) nm;
    live = live;
    stop = stop;
  }

  pub looks_stop : {P : Type 0} (id : TableId) (q : P) (n : ℕ) (b c : Books B I) → c.place ≡ b.place
      → c.lanes ≡ b.lanes
      → c.live_looks ≡ b.live_looks → c.stop_looks ≡ raised b.stop_looks
      → LooksAtStop (looks_of (desk_view id q n b)) (looks_of (desk_view id q n c))
  looks_stop id q n b c p l live stop = record {
    edge = λ nm. λ i. edge_looks (p i) n (map lane_view (l i).items) nm;
    live = live;
    stop = stop;
  }

  module _ (place n : ℕ) (k : Kind) (o : ℕ) (old new : List (Lane B I)) (w : length old ≡ 2 * n)
      (v : length new ≡ 2 * n) (l : o < n) where
    at_in : LooksInward (lane_at n k o) old new
        → edge_looks place n (map lane_view new) (name_of k o place)
        ≡ raised (edge_looks place n (map lane_view old) (name_of k o place))
    at_in L = rw (eq_self place) (in_range (nat_lt o n) refl)
      where
        in_range : (b : Bool) → nat_lt o n ≡ b
            → lane_looks (λ l. l.inward_looks) n (map lane_view new) k o
            ≡ raised (lane_looks (λ l. l.inward_looks) n (map lane_view old) k o)
        in_range true e = rw e (viewed (λ l. l.inward_looks) n new k o v l ∙ L.here books.no_lane
            ∙ ap raised (sym (viewed (λ l. l.inward_looks) n old k o w l)))
        in_range false e = absurd (let z : n ≤ o = grind (arith, nat_tests) in omega arith)

    at_out : o ≢ place → LooksOutward (lane_at n k o) old new
        → edge_looks place n (map lane_view new) (name_of k place o)
        ≡ raised (edge_looks place n (map lane_view old) (name_of k place o))
    at_out d L = rw (eq_other o place d, eq_self place) (in_range (nat_lt o n) refl)
      where
        in_range : (b : Bool) → nat_lt o n ≡ b
            → lane_looks (λ l. l.outward_looks) n (map lane_view new) k o
            ≡ raised (lane_looks (λ l. l.outward_looks) n (map lane_view old) k o)
        in_range true e = rw e (viewed (λ l. l.outward_looks) n new k o v l ∙ L.here books.no_lane
            ∙ ap raised (sym (viewed (λ l. l.outward_looks) n old k o w l)))
        in_range false e = absurd (let z : n ≤ o = grind (arith, nat_tests) in omega arith)

    else_in : LooksInward (lane_at n k o) old new → (nm : EdgeName)
        → same_name (name_of k o place) nm.kind nm.thief nm.victim ≡ false
        → edge_looks place n (map lane_view new) nm ≡ edge_looks place n (map lane_view old) nm
    else_in L nm e = go (nm.victim == place) (nm.thief == place) refl
      where
        go : (a b : Bool) → (nm.victim == place) ≡ a
            → cond a (lane_looks (λ l. l.inward_looks) n (map lane_view new) nm.kind nm.thief)
            (cond b (lane_looks (λ l. l.outward_looks) n (map lane_view new) nm.kind nm.victim) 0)
            ≡ cond a (lane_looks (λ l. l.inward_looks) n (map lane_view old) nm.kind nm.thief)
            (cond b (lane_looks (λ l. l.outward_looks) n (map lane_view old) nm.kind nm.victim)
            0)
        go true b is = told (λ l. l.inward_looks) (λ m. m) n old new nm.kind nm.thief w v refl
            (λ m. L.others (lane_at n nm.kind nm.thief) books.no_lane
            (lanes_differ n k o nm.kind nm.thief l m
            (inward_differ k o place nm (eq_is nm.victim place is) e)))
        go false true is = told (λ l. l.outward_looks) (λ m. m) n old new nm.kind nm.victim w v refl
            (λ m. L.outward (lane_at n nm.kind nm.victim) books.no_lane)
        go false false is = refl

    else_out : LooksOutward (lane_at n k o) old new → (nm : EdgeName)
        → same_name (name_of k place o) nm.kind nm.thief nm.victim ≡ false
        → edge_looks place n (map lane_view new) nm ≡ edge_looks place n (map lane_view old) nm
    else_out L nm e = go (nm.victim == place) (nm.thief == place) refl
      where
        go : (a b : Bool) → (nm.thief == place) ≡ b
            → cond a (lane_looks (λ l. l.inward_looks) n (map lane_view new) nm.kind nm.thief)
            (cond b (lane_looks (λ l. l.outward_looks) n (map lane_view new) nm.kind nm.victim) 0)
            ≡ cond a (lane_looks (λ l. l.inward_looks) n (map lane_view old) nm.kind nm.thief)
            (cond b (lane_looks (λ l. l.outward_looks) n (map lane_view old) nm.kind nm.victim)
            0)
        go true b is = told (λ l. l.inward_looks) (λ m. m) n old new nm.kind nm.thief w v refl
            (λ m. L.inward (lane_at n nm.kind nm.thief) books.no_lane)
        go false true is = told (λ l. l.outward_looks) (λ m. m) n old new nm.kind nm.victim w v refl
            (λ m. L.others (lane_at n nm.kind nm.victim) books.no_lane
            (lanes_differ n k o nm.kind nm.victim l m
            (outward_differ k o place nm (eq_is nm.thief place is) e)))
        go false false is = refl

  pub looks_at : {P : Type 0} (id : TableId) (q : P) (n : ℕ) (b c : Books B I)
      → length b.lanes.items ≡ 2 * n → length c.lanes.items ≡ 2 * n
      → c.place ≡ b.place → (k : Kind) (o : ℕ) (s : Side) → o < n → o ≢ b.place
      → LooksOn s (lane_at n k o) b.lanes.items c.lanes.items
      → c.live_looks ≡ b.live_looks → c.stop_looks ≡ b.stop_looks
      → LooksAt (edge_with b.place o k s) (looks_of (desk_view id q n b))
      (looks_of (desk_view id q n c))
  looks_at id q n b c w v p k o side.Inward l d L live stop = record {
    edge = ap (λ x. edge_looks x n (map lane_view c.lanes.items) (name_of k o b.place)) p
        ∙ at_in b.place n k o b.lanes.items c.lanes.items w v l L;
    others = λ nm e. ap (λ x. edge_looks x n (map lane_view c.lanes.items) nm) p
        ∙ else_in b.place n k o b.lanes.items c.lanes.items w v l L nm e;
    live = live;
    stop = stop;
  }
  looks_at id q n b c w v p k o side.Outward l d L live stop = record {
    edge = ap (λ x. edge_looks x n (map lane_view c.lanes.items) (name_of k b.place o)) p
        ∙ at_out b.place n k o b.lanes.items c.lanes.items w v l d L;
    others = λ nm e. ap (λ x. edge_looks x n (map lane_view c.lanes.items) nm) p
        ∙ else_out b.place n k o b.lanes.items c.lanes.items w v l L nm e;
    live = live;
    stop = stop;
  }
