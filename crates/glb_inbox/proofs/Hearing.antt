-- What a message that comes, and a look, do to lanes as contracts see them.
use Rattle.std.proofs.Common.{◌≡◌, ℕ, ◌*◌, ◌<◌, List, length, get_or, set, sym, ap, subst, ◌∙◌}
use Rattle.std.proofs.Common.{inl, inr, arith}
use Rattle.std.proofs.lemmas.List.{get_or-map, map-set}
use Rattle.atomic_table.specs.Seated.{TableId}
use Rattle.glb_rules.specs.declared.kinds.Edge.{Edge}
use Rattle.glb_rules.specs.declared.kinds.Edge.TheVariants as seen
use Rattle.glb_rules.specs.declared.kinds.Kind.{Kind}
use Rattle.glb_rules.specs.declared.kinds.Side.{Side}
use Rattle.glb_rules.specs.declared.kinds.Side.TheVariants as side
use Rattle.glb_core.proofs.CallerLemmas.{get_or-any}
use Rattle.glb_place.specs.declared.record.Record.{Record}
use Rattle.glb_place.specs.Records.{knows}
use Rattle.glb_place.specs.Calls.{edge_with}
use Rattle.glb_inbox.specs.declared.books.Books.{Books}
use Rattle.glb_inbox.specs.declared.lane.Lane.{Lane}
use Rattle.glb_inbox.specs.Keeping.{CanTell, Hears, LaneView, MayReceive, Receives, kept_at}
use Rattle.glb_inbox.specs.Keeping.{kept_on}
use Rattle.glb_inbox.specs.Keeping.{lane_at, look_at, looked, no_lane, told_by}
use Rattle.glb_inbox.specs.Posts.{AnswersLook}
use Rattle.glb_inbox.specs.Viewing.{desk_view, kept_of, lane_view}
use Rattle.glb_inbox.specs.inner.Books.{LanesAnswer, known_on, lane_views, lanes_know, message_of}
use Rattle.glb_inbox.specs.inner.Firsts.{lane_with}
use Rattle.glb_inbox.specs.inner.Lanes.{Mirrors}
use Rattle.glb_inbox.proofs.LaneLemmas.{lane_below}

module _ {B I : Type 0} where
  -- the lane at a number, as contracts see it
  views_at : (lanes : List (Lane B I)) (at : ℕ) (was : Lane B I) → at < length lanes
      → was ≡ get_or lanes at was
      → get_or (lane_views lanes) at no_lane ≡ lane_view was
  views_at lanes at was l is = get_or-map lane_view lanes at was no_lane l ∙ ap lane_view (sym is)

  -- what its message tells
  pub views_kept : (n : ℕ) (lanes : List (Lane B I)) (k : Kind) (o at : ℕ) (was : Lane B I)
      (s : Side) → at < length lanes → at ≡ lane_at n k o
      → was ≡ get_or lanes at was → kept_at (lane_at n k o) s (lane_views lanes)
      ≡ kept_on s (lane_view was)
  views_kept n lanes k o at was s l same is =
      subst (λ i. kept_at i s (lane_views lanes) ≡ kept_on s (lane_view was)) same
      (ap (kept_on s) (views_at lanes at was l is))

  -- a look at one of its edges
  pub views_look : (n : ℕ) (lanes : List (Lane B I)) (k : Kind) (o at : ℕ) (a was : Lane B I)
      (s : Side) → at < length lanes → at ≡ lane_at n k o
      → was ≡ get_or lanes at was → lane_view a ≡ looked s (lane_view was)
      → lane_views (set lanes at a) ≡ look_at (lane_at n k o) s (lane_views lanes)
  views_look n lanes k o at a was s l same is e =
      subst (λ i. lane_views (set lanes at a) ≡ look_at i s (lane_views lanes)) same
      (map-set lane_view lanes at a ∙ ap (set (lane_views lanes) at)
      (e ∙ ap (looked s) (sym (views_at lanes at was l is))))

  -- what is known of its edges
  pub lanes_known : (n : ℕ) (lanes : List (Lane B I)) (k : Kind) (o at : ℕ) (was : Lane B I)
      (s : Side) → at < length lanes → at ≡ lane_at n k o
      → was ≡ get_or lanes at was → lanes_know n lanes o k s ≡ known_on s was
  lanes_known n lanes k o at was s l same is =
      subst (λ i. known_on s (get_or lanes i (lane_with seen.Idle seen.Idle)) ≡ known_on s was) same
      (ap (known_on s) (any_at ∙ sym is))
    where
      any_at : get_or lanes at (lane_with seen.Idle seen.Idle) ≡ get_or lanes at was
      any_at = get_or-any lanes at _ _ l

  -- one of the lanes received a message
  pub receives_one : (n : ℕ) (lanes : List (Lane B I)) (k : Kind) (o at : ℕ) (a was : Lane B I)
      (s : Side) (x : Edge) → o < n → length lanes ≡ 2 * n
      → at ≡ lane_at n k o → was ≡ get_or lanes at was → CanTell s x
      → Hears k s (known_on s was) x (lane_view was) (lane_view a)
      → Receives n (lanes_know n lanes) (message_of o k s x) (lane_views lanes)
      (lane_views (set lanes at a))
  receives_one n lanes k o at a was s x l wide same is can h =
      let short : at < length lanes = (let b = lane_below n k o l in rw (same) (omega arith)) in
      record {
        near = l;
        can = can;
        lane = lane_view a;
        hears = subst (λ y. Hears k s y x (get_or (lane_views lanes) (lane_at n k o) no_lane)
            (lane_view a)) (sym (lanes_known n lanes k o at was s short same is))
            (subst (λ v. Hears k s (known_on s was) x v (lane_view a))
            (sym (views_at lanes at was short is)
            ∙ ap (λ i. get_or (lane_views lanes) i no_lane) same) h);
        others = map-set lane_view lanes at a ∙ ap (λ i. set (lane_views lanes) i (lane_view a))
            same;
      }

-- what is known of each edge of a place is told otherwise
pub receives_known : (n : ℕ) (f g : ℕ → Kind → Side → Edge)
    → ((o : ℕ) (k : Kind) (s : Side) → o < n → f o k s ≡ g o k s)
    → (old new : List LaneView) → MayReceive n f old new → MayReceive n g old new
receives_known n f g same old new (inl e) = inl e
receives_known n f g same old new (inr (m, R)) = inr (
  m,
  record {
    near = R.near;
    can = R.can;
    lane = R.lane;
    hears = subst (λ y. Hears m.kind m.side y m.edge (get_or old (lane_at n m.kind m.other) no_lane)
        R.lane) (same m.other m.kind m.side R.near) R.hears;
    others = R.others;
  },
)

module _ {B I : Type 0} where
  -- what the lanes know is what the record knows
  record_knows : (lanes : List (Lane B I)) (r : Record I) → Mirrors lanes r → (n : ℕ)
      → n ≡ r.lines.places → (o : ℕ) (k : Kind) (s : Side) → o < n
      → lanes_know n lanes o k s ≡ knows r (edge_with r.place o k s)
  record_knows lanes r M n e o k side.Inward l =
      ap (λ m. (get_or lanes (lane_at m k o) (lane_with seen.Idle seen.Idle)).inward) e
      ∙ M.inward k o _ (subst (λ m. o < m) e l)
  record_knows lanes r M n e o k side.Outward l =
      ap (λ m. (get_or lanes (lane_at m k o) (lane_with seen.Idle seen.Idle)).outward) e
      ∙ M.outward k o _ (subst (λ m. o < m) e l)

  -- what the lanes tell of a look, told of the desk
  pub desk_answers : {P : Type 0} (id : TableId) (q : P) (n m : ℕ) (b c : Books B I)
      → Mirrors b.lanes.items (kept_of b) → n ≡ (kept_of b).lines.places → (o : ℕ) (k : Kind)
      (s : Side) (answer : Edge) → o < n
      → LanesAnswer n o k s answer b.lanes.items c.lanes.items
      → AnswersLook o k s answer (desk_view id q n b) (desk_view id q m c)
  desk_answers id q n m b c M e o k s answer l A =
      let same = record_knows b.lanes.items (kept_of b) M n e in
      record {
        lanes = A.lanes;
        receives = receives_known n _ _ same _ _ A.receives;
        answers = A.answers ∙ ap (λ x. told_by x (kept_at (lane_at n k o) s A.lanes))
            (same o k s l);
        forgets = A.forgets;
      }
