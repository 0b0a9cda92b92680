-- What a desk keeps agrees with its place's record after each step of its seat.
use Rattle.std.proofs.Common.{◌≡◌, ◌≢◌, ℕ, ◌<◌, Bool, true, false, cond, ◌&&◌, List, get_or, None}
use Rattle.std.proofs.Common.{refl, sym, ap, subst, ◌∙◌, arith}
use Rattle.atomic_table.specs.Seated.{TableId}
use Rattle.atomic_table.specs.Table.{Me}
use Rattle.glb_cube.specs.Lines.{Cube}
use Rattle.glb_core.specs.Counters.{counters_of}
use Rattle.glb_rules.specs.Effects.{wake_count}
use Rattle.glb_rules.specs.Events.{name_of}
use Rattle.glb_rules.specs.Decision.{is_mark}
use Rattle.glb_rules.specs.Setups.{bit}
use Rattle.glb_rules.specs.World.{has_edge, mark_at}
use Rattle.glb_rules.specs.declared.kinds.Kind.{Kind}
use Rattle.glb_rules.specs.declared.kinds.Kind.TheVariants as kind
use Rattle.glb_rules.specs.declared.kinds.Edge.{Edge}
use Rattle.glb_rules.specs.declared.kinds.Edge.TheVariants as seen
use Rattle.glb_rules.specs.declared.kinds.Mark.{Mark}
use Rattle.glb_rules.specs.declared.kinds.Mark.TheVariants as mark
use Rattle.glb_rules.specs.declared.kinds.Phase.TheVariants as phase
use Rattle.glb_rules.specs.declared.kinds.Side.{Side}
use Rattle.glb_rules.specs.declared.kinds.Side.TheVariants as side
use Rattle.glb_rules.specs.declared.event.Event.TheVariants as event
use Rattle.glb_rules.specs.declared.params.Params.{Params}
use Rattle.glb_place.specs.declared.record.Record.{Record}
use Rattle.glb_place.specs.Records.{May, knows, setup_in}
use Rattle.glb_place.specs.Calls.{CanFind, edge_with, is_inward, is_working, look_row}
use Rattle.glb_place.specs.Rows.{known_row, mark_row}
use Rattle.glb_inbox.specs.declared.books.Books.{Books}
use Rattle.glb_inbox.specs.declared.lane.Lane.{Lane}
use Rattle.glb_inbox.specs.declared.lane.Answer.TheVariants.{Nothing}
use Rattle.glb_inbox.specs.declared.view.Seated.{Seated}
use Rattle.glb_inbox.specs.declared.view.Member.{Member}
use Rattle.glb_inbox.specs.Viewing.{kept_in, kept_of}
use Rattle.glb_inbox.specs.inner.Books.{AreBooks, IsOne}
use Rattle.glb_inbox.specs.Keeping.{lane_at}
use Rattle.glb_inbox.specs.inner.Lanes.{AreLanes, Mirrors, SetsInward, SetsOutward}
use Rattle.glb_inbox.specs.inner.Members.{wanted}
use Rattle.glb_inbox.specs.inner.Views.{on_one, MovesBy, Reads}
use Rattle.glb_inbox.proofs.LaneLemmas.{mirrors_in, mirrors_out}
use Rattle.glb_inbox.proofs.SoundThief.{like_idle, like_asked}
use Rattle.glb_inbox.proofs.Slips.{wanted_now}

module _ {I : Type 0} where
  pub moved_by : (row : Record I → Record I) (f : Seated I → Seated I)
      → ((x : Seated I) → (f x).kept ≡ row x.kept)
      → (m m' : Me ℕ (List (Member I))) → IsOne m → m' ≡ (on_one f m.0, m.1) → MovesBy row m m'
  moved_by row f k m m' one_is e = record {
    old = one_is.0;
    new = f one_is.0;
    was = one_is.1;
    is = e ∙ ap (λ (n : Me ℕ (List (Member I))). (on_one f n.0, n.1)) one_is.1;
    kept = k one_is.0;
  }

  pub kept_moved : (row : Record I → Record I) (m m' : Me ℕ (List (Member I))) → MovesBy row m m'
      → kept_in m'.0 ≡ row (kept_in m.0)
  kept_moved row m m' M =
      ap (λ (n : Me ℕ (List (Member I))). kept_in n.0) M.is ∙ M.kept
      ∙ sym (ap (λ (n : Me ℕ (List (Member I))). row (kept_in n.0)) M.was)

  -- what the conditions of events say
  pub ask_edge : (r : Record I) (k : Kind) (v : ℕ) → May r (event.Ask r.place v k)
      → has_edge (setup_in r) k r.place v ≡ true
  ask_edge r kind.Steal v m = m.2.2
  ask_edge r kind.Line v m = m.2.2

  pub ask_free : (r : Record I) (k : Kind) (v : ℕ) → May r (event.Ask r.place v k)
      → knows r (name_of k r.place v) ≡ seen.Idle
  ask_free r kind.Steal v m = like_idle _ m.2.3
  ask_free r kind.Line v m = like_idle _ m.2.3

  pub ask_rests : (r : Record I) (k : Kind) (v : ℕ) → May r (event.Ask r.place v k)
      → r.local.phase ≡ phase.Idle
  ask_rests r kind.Steal v m = m.2.0
  ask_rests r kind.Line v m = m.2.0

  pub deny_asked : (r : Record I) (k : Kind) (t : ℕ) → May r (event.Deny r.place t k)
      → knows r (name_of k t r.place) ≡ seen.Asked
  deny_asked r k t m = like_asked _ m.2.0

  pub give_wanted : (r : Record I) (k : Kind) (t : ℕ) → May r (event.Give r.place t k)
      → wanted k (knows r (name_of k t r.place)) ≡ 1
  give_wanted r k t m = wanted_now {I = I} k _ m.2.2

  -- what holds of the record of a seat's place
  pub reads_of : (F : Record I → Type 0) (m : Me ℕ (List (Member I))) → IsOne m → F (kept_in m.0)
      → Reads m (λ x. F x.kept)
  reads_of F m one_is h = (
    one_is.0,
    one_is.1,
    subst F (ap (λ (n : Me ℕ (List (Member I))). kept_in n.0) one_is.1) h,
  )

pub asked_wanted : (k : Kind) → wanted k seen.Asked ≡ 1
asked_wanted kind.Steal = refl
asked_wanted kind.Line = refl

pub idle_not_wanted : (k : Kind) (x : Edge) → x ≡ seen.Idle → wanted k x ≡ 1 → ⊥
idle_not_wanted kind.Steal x e w = let z : wanted kind.Steal seen.Idle ≡ 1 =
    rw e at w in omega arith
idle_not_wanted kind.Line x e w = let z : wanted kind.Line seen.Idle ≡ 1 = rw e at w in omega arith

-- a lane over which nothing came
abbrev pub no_lane : {B I : Type 0} → Lane B I
no_lane = record {
  inward = seen.Idle;
  request = None;
  outward = seen.Idle;
  answer = Nothing;
  inward_looks = 0;
  outward_looks = 0;
}

module _ {B P I : Type 0} {items : B → List I} {fits : B → P → Type 0} {id : TableId} {program : P}
    {lines : Cube} {params : Params}
    {b : Books B I} (A : AreBooks items fits id program lines params b) where
  abbrev r : Record I
  r = kept_of b

  -- an edge that is known as other than Idle leads to another place
  pub apart_of : (k : Kind) (o : ℕ) → knows r (name_of k o r.place) ≢ seen.Idle → o ≢ r.place
  apart_of k o n e = n (ap (λ i. knows r (name_of k i r.place)) e ∙ A.mirrors.itself k)

  pub apart_from : (k : Kind) (o : ℕ) → knows r (name_of k r.place o) ≢ seen.Idle → o ≢ r.place
  apart_from k o n e = n (ap (λ i. knows r (name_of k r.place i)) e ∙ A.mirrors.itself k)

  pub books_moved : (c : Books B I) (row : Record I → Record I) → MovesBy row b.seat.me c.seat.me
      → c.seat.table_id ≡ b.seat.table_id
      → c.place ≡ b.place → (row r).place ≡ r.place → (row r).lines ≡ r.lines
      → (row r).params ≡ r.params
      → AreLanes items fits id program lines.places c.lanes.items → Mirrors c.lanes.items (row r)
      → c.counters ≡ counters_of (row r).local.count → bit c.is_asleep
      ≡ wake_count (row r).local.phase
      → AreBooks items fits id program lines params c
  books_moved c row M t place p l q L mirrors counted asleep =
      let e : kept_of c ≡ row r = kept_moved row b.seat.me c.seat.me M in
      record {
        here = t ∙ A.here;
        words = A.words;
        alone = (M.new, M.is);
        number = ap (λ x. x.place) e ∙ p ∙ A.number ∙ sym place;
        lines_are = ap (λ x. x.lines) e ∙ l ∙ A.lines_are;
        params_are = ap (λ x. x.params) e ∙ q ∙ A.params_are;
        few = A.few;
        lanes = L;
        mirrors = subst (Mirrors c.lanes.items) (sym e) mirrors;
        counted = counted ∙ sym (ap (λ x. counters_of x.local.count) e);
        asleep = asleep ∙ sym (ap (λ x. wake_count x.local.phase) e);
      }

  pub out_of : (n : ℕ) (new : List (Lane B I)) (k : Kind) (v : ℕ) (x : Edge) → n ≡ lines.places
      → v < n → v ≢ r.place
      → SetsOutward (lane_at n k v) x b.lanes.items new
      → Mirrors new (known_row (name_of k r.place v) x r)
  out_of n new k v x e l d S =
      let f : n ≡ r.lines.places = e ∙ sym (ap (λ c. c.places) A.lines_are) in
      mirrors_out b.lanes.items new r k v x A.mirrors
      (subst (λ m. SetsOutward (lane_at m k v) x b.lanes.items new) f S)
      (subst (λ m. v < m) f l) d

  pub in_of : (n : ℕ) (new : List (Lane B I)) (k : Kind) (t : ℕ) (x : Edge) → n ≡ lines.places
      → t < n → t ≢ r.place
      → SetsInward (lane_at n k t) x b.lanes.items new
      → Mirrors new (known_row (name_of k t r.place) x r)
  in_of n new k t x e l d S =
      let f : n ≡ r.lines.places = e ∙ sym (ap (λ c. c.places) A.lines_are) in
      mirrors_in b.lanes.items new r k t x A.mirrors
      (subst (λ m. SetsInward (lane_at m k t) x b.lanes.items new) f S) (subst (λ m. t < m) f l)
      d

  pub lanes_of : (n : ℕ) (new : List (Lane B I)) → n ≡ lines.places
      → AreLanes items fits id program n new → AreLanes items fits id program lines.places new
  lanes_of n new e L = subst (λ m. AreLanes items fits id program m new) e L

  -- what a lane knows
  pub outward_at : (n : ℕ) (k : Kind) (v : ℕ) (d : Lane B I) → n ≡ lines.places → v < n
      → (get_or b.lanes.items (lane_at n k v) d).outward ≡ knows r (name_of k r.place v)
  outward_at n k v d e l =
      let f : n ≡ r.lines.places = e ∙ sym (ap (λ c. c.places) A.lines_are) in
      ap (λ m. (get_or b.lanes.items (lane_at m k v) d).outward) f
      ∙ A.mirrors.outward k v d (subst (λ m. v < m) f l)

  pub inward_at : (n : ℕ) (k : Kind) (t : ℕ) (d : Lane B I) → n ≡ lines.places → t < n
      → (get_or b.lanes.items (lane_at n k t) d).inward ≡ knows r (name_of k t r.place)
  inward_at n k t d e l =
      let f : n ≡ r.lines.places = e ∙ sym (ap (λ c. c.places) A.lines_are) in
      ap (λ m. (get_or b.lanes.items (lane_at m k t) d).inward) f
      ∙ A.mirrors.inward k t d (subst (λ m. t < m) f l)

  -- it does not hang on the default
  pub any_lane : (n : ℕ) (k : Kind) (t : ℕ) (c d : Lane B I) → n ≡ lines.places → t < n
      → (get_or b.lanes.items (lane_at n k t) c).inward
      ≡ (get_or b.lanes.items (lane_at n k t) d).inward
  any_lane n k t c d e l = inward_at n k t c e l ∙ sym (inward_at n k t d e l)

  -- the number of places
  pub near : (n o : ℕ) → n ≡ lines.places → o < r.lines.places → o < n
  near n o e l = let f : n ≡ r.lines.places = e ∙ sym (ap (λ c. c.places) A.lines_are) in
      subst (λ m. o < m) (sym f) l

  -- rows that learn of one edge
  pub mirrors_row : (new : List (Lane B I)) (q s : Record I) → s.place ≡ q.place → s.lines ≡ q.lines
      → s.params ≡ q.params → s.known ≡ q.known
      → Mirrors new q → Mirrors new s
  mirrors_row new q s p l m k M =
      let like : Record I = record {
        place = s.place;
        params = s.params;
        lines = s.lines;
        local = q.local;
        known = s.known;
        last = q.last;
        over = q.over;
        code = q.code;
      } in
      let same : q ≡ like = λ i.
      record {
        place = sym p i;
        params = sym m i;
        lines = sym l i;
        local = q.local;
        known = sym k i;
        last = q.last;
        over = q.over;
        code = q.code;
      } in
      let N : Mirrors new like = subst (Mirrors new) same M in
      record { inward = N.inward; outward = N.outward; itself = N.itself; alone = N.alone }

  pub mirrors_look : (new : List (Lane B I)) (o : ℕ) (k : Kind) (s : Side) (x : Edge)
      → Mirrors new (known_row (edge_with r.place o k s) x r)
      → Mirrors new (look_row o k s x r)
  mirrors_look new o k side.Inward x M =
      go (is_working r.local.phase && is_mark mark.Unseen (mark_at r.local.marks k o))
    where
      go : (z : Bool) → Mirrors new
          (cond z (mark_row o k x r) (known_row (edge_with r.place o k side.Inward) x r))
      go true = mirrors_row new (known_row (edge_with r.place o k side.Inward) x r)
          (mark_row o k x r) refl refl refl refl M
      go false = M
  mirrors_look new o k side.Outward x M = M

  -- a look counts nothing and moves no phase
  pub look_counts : (o : ℕ) (k : Kind) (s : Side) (x : Edge)
      → ((look_row o k s x r).local.count ≡ r.local.count)
      × ((look_row o k s x r).local.phase ≡ r.local.phase) × ((look_row o k s x r).place ≡ r.place)
      × ((look_row o k s x r).lines ≡ r.lines) × ((look_row o k s x r).params ≡ r.params)
  look_counts o k s x = go
      (is_inward s && (is_working r.local.phase && is_mark mark.Unseen (mark_at r.local.marks k o)))
    where
      go : (z : Bool) → ((cond z (mark_row o k x r)
          (known_row (edge_with r.place o k s) x r)).local.count ≡ r.local.count)
          × ((cond z (mark_row o k x r) (known_row (edge_with r.place o k s) x r)).local.phase
          ≡ r.local.phase)
          × ((cond z (mark_row o k x r) (known_row (edge_with r.place o k s) x r)).place ≡ r.place)
          × ((cond z (mark_row o k x r) (known_row (edge_with r.place o k s) x r)).lines ≡ r.lines)
          × ((cond z (mark_row o k x r) (known_row (edge_with r.place o k s) x r)).params
          ≡ r.params)
      go true = (refl, refl, refl, refl, refl)
      go false = (refl, refl, refl, refl, refl)

-- a mark does not matter outward
pub mark_aside : (m : Mark) (k : Kind) (x y : Edge) → CanFind mark.Unseen k side.Outward x y
    → CanFind m k side.Outward x y
mark_aside m kind.Steal seen.Idle seen.Idle h = h
mark_aside m kind.Steal seen.Idle seen.Asked h = h
mark_aside m kind.Steal seen.Idle seen.Refused h = h
mark_aside m kind.Steal seen.Idle seen.Loot h = h
mark_aside m kind.Steal seen.Asked seen.Idle h = h
mark_aside m kind.Steal seen.Asked seen.Asked h = h
mark_aside m kind.Steal seen.Asked seen.Refused h = h
mark_aside m kind.Steal seen.Asked seen.Loot h = h
mark_aside m kind.Steal seen.Refused seen.Idle h = h
mark_aside m kind.Steal seen.Refused seen.Asked h = h
mark_aside m kind.Steal seen.Refused seen.Refused h = h
mark_aside m kind.Steal seen.Refused seen.Loot h = h
mark_aside m kind.Steal seen.Loot seen.Idle h = h
mark_aside m kind.Steal seen.Loot seen.Asked h = h
mark_aside m kind.Steal seen.Loot seen.Refused h = h
mark_aside m kind.Steal seen.Loot seen.Loot h = h
mark_aside m kind.Line seen.Idle seen.Idle h = h
mark_aside m kind.Line seen.Idle seen.Asked h = h
mark_aside m kind.Line seen.Idle seen.Refused h = h
mark_aside m kind.Line seen.Idle seen.Loot h = h
mark_aside m kind.Line seen.Asked seen.Idle h = h
mark_aside m kind.Line seen.Asked seen.Asked h = h
mark_aside m kind.Line seen.Asked seen.Refused h = h
mark_aside m kind.Line seen.Asked seen.Loot h = h
mark_aside m kind.Line seen.Refused seen.Idle h = h
mark_aside m kind.Line seen.Refused seen.Asked h = h
mark_aside m kind.Line seen.Refused seen.Refused h = h
mark_aside m kind.Line seen.Refused seen.Loot h = h
mark_aside m kind.Line seen.Loot seen.Idle h = h
mark_aside m kind.Line seen.Loot seen.Asked h = h
mark_aside m kind.Line seen.Loot seen.Refused h = h
mark_aside m kind.Line seen.Loot seen.Loot h = h

-- an in-edge over which no request is kept may be asked over
pub may_be_asked : (m : Mark) (k : Kind) (x : Edge) → wanted k x ≡ 0
    → CanFind m k side.Inward x seen.Asked
may_be_asked m kind.Steal seen.Idle h = tt
may_be_asked m kind.Steal seen.Asked h = tt
may_be_asked m kind.Steal seen.Refused h = tt
may_be_asked m kind.Steal seen.Loot h = tt
may_be_asked m kind.Line seen.Idle h = tt
may_be_asked m kind.Line seen.Asked h = tt
may_be_asked m kind.Line seen.Refused h = absurd (omega arith)
may_be_asked m kind.Line seen.Loot h = tt

-- and it may be as it was
pub may_stay : (m : Mark) (k : Kind) (x : Edge) → CanFind m k side.Inward x x
may_stay m kind.Steal seen.Idle = tt
may_stay m kind.Steal seen.Asked = tt
may_stay m kind.Steal seen.Refused = tt
may_stay m kind.Steal seen.Loot = tt
may_stay m kind.Line seen.Idle = tt
may_stay m kind.Line seen.Asked = tt
may_stay m kind.Line seen.Refused = tt
may_stay m kind.Line seen.Loot = tt
