-- What a desk keeps of its place agrees with the place's record.
use Rattle.std.specs.Prelude.{◌≡◌, ℕ, ◌<◌, ◌≤◌, List, [], map, get_or, length, Option, Some}
use Rattle.atomic_table.specs.Seated.{TableId}
use Rattle.atomic_table.specs.Table.{Me}
use Rattle.glb_cube.specs.Lines.{Cube}
use Rattle.glb_core.specs.Counters.{counters_of}
use Rattle.glb_rules.specs.Setups.{bit}
use Rattle.glb_rules.specs.Effects.{wake_count}
use Rattle.glb_rules.specs.declared.kinds.Edge.{Edge}
use Rattle.glb_rules.specs.declared.kinds.Edge.TheVariants as seen
use Rattle.glb_rules.specs.declared.kinds.Kind.{Kind}
use Rattle.glb_rules.specs.declared.kinds.Side.{Side}
use Rattle.glb_rules.specs.declared.kinds.Side.TheVariants as side
use Rattle.glb_rules.specs.declared.params.Params.{Params}
use Rattle.glb_inbox.specs.declared.books.Books.{Books}
use Rattle.glb_inbox.specs.declared.lane.Lane.{Lane}
use Rattle.glb_inbox.specs.declared.message.Tie.{Tie}
use Rattle.glb_inbox.specs.declared.view.Seated.{Seated}
use Rattle.glb_inbox.specs.declared.view.Member.{Member}
use Rattle.glb_inbox.specs.Keeping.{LaneView, MayReceive, MessageView, kept_at, lane_at, look_at}
use Rattle.glb_inbox.specs.Keeping.{told_by}
use Rattle.glb_inbox.specs.Viewing.{kept_of, lane_view}
use Rattle.glb_inbox.specs.inner.Firsts.{lane_with}
use Rattle.glb_inbox.specs.inner.Lanes.{AreLanes, LanesStay, Mirrors}
use Rattle.glb_inbox.specs.inner.Posted.{tie}
use Rattle.glb_inbox.specs.inner.Views.{one}

module _ {I : Type 0} where
  -- the seat is one place's
  abbrev pub IsOne : Me ℕ (List (Member I)) → Type 0
  IsOne m = (x : Seated I) × (m ≡ (one x, []))

module _ {B I : Type 0} where
  -- the lanes, as contracts see them
  abbrev pub lane_views : List (Lane B I) → List LaneView
  lane_views lanes = map lane_view lanes

  -- what a lane knows of its edge on this side
  abbrev pub known_on : Side → Lane B I → Edge
  known_on side.Inward a = a.inward
  known_on side.Outward a = a.outward

  -- what the lanes know of the edge of this kind with another place
  abbrev pub lanes_know : ℕ → List (Lane B I) → ℕ → Kind → Side → Edge
  lanes_know places lanes other k s =
      known_on s (get_or lanes (lane_at places k other) (lane_with seen.Idle seen.Idle))

  -- what a look at an edge answered, as the lanes have it
  pub record LanesAnswer (places other : ℕ) (k : Kind) (s : Side) (answer : Edge)
      (old new : List (Lane B I)) : Type 0 where
    pub lanes : List LaneView
    pub receives : MayReceive places (lanes_know places old) (lane_views old) lanes
    pub answers : answer ≡ told_by (lanes_know places old other k s)
        (kept_at (lane_at places k other) s lanes)
    pub forgets : lane_views new ≡ look_at (lane_at places k other) s lanes

  -- the place is the same, and nothing was looked at
  pub record BooksStay (old new : Books B I) : Type 0 where
    pub place : new.place ≡ old.place
    pub lanes : LanesStay old.lanes.items new.lanes.items
    pub live_looks : new.live_looks ≡ old.live_looks
    pub stop_looks : new.stop_looks ≡ old.stop_looks

  module _ {P : Type 0} (items : B → List I) (fits : B → P → Type 0) (id : TableId) (program : P)
      (lines : Cube) (params : Params) where
    pub record AreBooks (b : Books B I) : Type 0 where
      pub here : b.seat.table_id ≡ id
      pub words : 2 < id.words
      pub alone : IsOne b.seat.me
      pub number : (kept_of b).place ≡ b.place
      pub lines_are : (kept_of b).lines ≡ lines
      pub params_are : (kept_of b).params ≡ params
      pub few : lines.places ≤ 64
      pub lanes : AreLanes items fits id program lines.places b.lanes.items
      pub mirrors : Mirrors b.lanes.items (kept_of b)
      pub counted : b.counters ≡ counters_of (kept_of b).local.count
      pub asleep : bit b.is_asleep ≡ wake_count (kept_of b).local.phase

-- a message that came over this edge and tells this
abbrev pub message_of : ℕ → Kind → Side → Edge → MessageView
message_of other k s x = record { other = other; kind = k; side = s; edge = x }

-- the ways lead to the inboxes of all places, for messages of this table and this program
pub record AreWays {P : Type 0} (id : TableId) (program : P) (places : ℕ)
    (ways : List (Option (Tie P))) : Type 0 where
  pub all : length ways ≡ places
  pub tied : (i : ℕ) (d : Option (Tie P)) → i < places → get_or ways i d ≡ Some (tie program id)
