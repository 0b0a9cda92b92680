-- The messages that a desk keeps beside its edges until it looks there, and what a look does to
-- them.
use Rattle.std.specs.Prelude.{◌≡◌, ◌≢◌, ℕ, ◌+◌, ◌<◌, ◌⊎◌, List, get_or, slice_set, Option, Some}
use Rattle.std.specs.Prelude.{None}
use Rattle.glb_rules.specs.declared.kinds.Edge.{Edge}
use Rattle.glb_rules.specs.declared.kinds.Edge.TheVariants as seen
use Rattle.glb_rules.specs.declared.kinds.Kind.{Kind}
use Rattle.glb_rules.specs.declared.kinds.Kind.TheVariants as kind
use Rattle.glb_rules.specs.declared.kinds.Mark.TheVariants as mark
use Rattle.glb_rules.specs.declared.kinds.Side.{Side}
use Rattle.glb_rules.specs.declared.kinds.Side.TheVariants as side
use Rattle.glb_place.specs.Calls.{CanFind}
use Rattle.glb_place.specs.Looks.{raised}

-- the two edges of one kind with another place: what the message that is kept for each tells of it,
-- and how often the desk looked there
pub record LaneView : Type 0 where
  pub inward : Option Edge
  pub outward : Option Edge
  pub inward_looks : ℕ
  pub outward_looks : ℕ

-- a lane over which nothing came
abbrev pub no_lane : LaneView
no_lane = record { inward = None; outward = None; inward_looks = 0; outward_looks = 0 }

-- where the lane of this kind with this place stands
abbrev pub lane_at : ℕ → Kind → ℕ → ℕ
lane_at places kind.Steal other = other
lane_at places kind.Line other = places + other

-- a message, as its place reads it: the edge with another place that it came over, and what that
-- edge is by it
pub record MessageView : Type 0 where
  pub other : ℕ
  pub kind : Kind
  pub side : Side
  pub edge : Edge

-- a thief tells that it asks, a victim that it refuses or gave a part
abbrev pub CanTell : Side → Edge → Type 0
CanTell side.Inward seen.Asked = Unit {0}
CanTell side.Outward seen.Refused = Unit {0}
CanTell side.Outward seen.Loot = Unit {0}
CanTell _ _ = ⊥

-- what the message that is kept for the edge on this side tells
abbrev pub kept_on : Side → LaneView → Option Edge
kept_on side.Inward l = l.inward
kept_on side.Outward l = l.outward

-- what an edge is by the message that is kept for it, or else as it is known
abbrev pub told_by : Edge → Option Edge → Edge
told_by x None = x
told_by x (Some y) = y

-- the lane, where a message that tells this is kept for the edge on this side; of two the last
-- counts
abbrev pub keeping : Side → Edge → LaneView → LaneView
keeping side.Inward x l = record {
  inward = Some x;
  outward = l.outward;
  inward_looks = l.inward_looks;
  outward_looks = l.outward_looks;
}
keeping side.Outward x l = record {
  inward = l.inward;
  outward = Some x;
  inward_looks = l.inward_looks;
  outward_looks = l.outward_looks;
}

-- the lane after a look at the edge on this side: what was kept for it is kept no longer
abbrev pub looked : Side → LaneView → LaneView
looked side.Inward l = record {
  inward = None;
  outward = l.outward;
  inward_looks = raised l.inward_looks;
  outward_looks = l.outward_looks;
}
looked side.Outward l = record {
  inward = l.inward;
  outward = None;
  inward_looks = l.inward_looks;
  outward_looks = raised l.outward_looks;
}

-- what the message tells that is kept for the edge on this side, of the lane at a number
abbrev pub kept_at : ℕ → Side → List LaneView → Option Edge
kept_at at s lanes = kept_on s (get_or lanes at no_lane)

-- all lanes after a look at the edge on this side, of the lane at a number
abbrev pub look_at : ℕ → Side → List LaneView → List LaneView
look_at at s lanes = slice_set lanes at (looked s (get_or lanes at no_lane))

-- the rule of looks allows that an edge in the first state turns out to be in the second, another
-- one
pub record Allows (k : Kind) (s : Side) (x y : Edge) : Type 0 where
  pub other : y ≢ x
  pub finds : CanFind mark.Unseen k s x y

-- a message came over an edge that is known so: it is kept where the rule of looks allows it after
-- what is known and kept, and else thrown away
pub record Hears (k : Kind) (s : Side) (known x : Edge) (old new : LaneView) : Type 0 where
  pub kept : Allows k s (told_by known (kept_on s old)) x → new ≡ keeping s x old
  pub dropped : (Allows k s (told_by known (kept_on s old)) x → ⊥) → new ≡ old

-- the lanes of all places once this message came, where `known` tells what is known of each edge
pub record Receives (places : ℕ) (known : ℕ → Kind → Side → Edge) (m : MessageView)
    (old new : List LaneView) : Type 0 where
  pub near : m.other < places
  pub can : CanTell m.side m.edge
  pub lane : LaneView
  pub hears : Hears m.kind m.side (known m.other m.kind m.side) m.edge
      (get_or old (lane_at places m.kind m.other) no_lane) lane
  pub others : new ≡ slice_set old (lane_at places m.kind m.other) lane

-- none came, or one
abbrev pub MayReceive : ℕ → (ℕ → Kind → Side → Edge) → List LaneView → List LaneView → Type 0
MayReceive places known old new =
    (new ≡ old) ⊎ ((m : MessageView) × Receives places known m old new)
