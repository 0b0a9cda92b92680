-- What a place keeps of its edges with other places, and of messages that came over them.
use Rattle.std.specs.Prelude.{◌≡◌, ◌≢◌, ℕ, ◌*◌, ◌<◌, false, List, [], ◌∷◌, length, get_or}
use Rattle.std.specs.Prelude.{IfSome}
use Rattle.atomic_table.specs.Seated.{TableId}
use Rattle.glb_rules.specs.Events.{name_of}
use Rattle.glb_rules.specs.World.{has_edge}
use Rattle.glb_rules.specs.declared.kinds.Kind.{Kind}
use Rattle.glb_rules.specs.declared.kinds.Kind.TheVariants as kind
use Rattle.glb_rules.specs.declared.kinds.Edge.{Edge}
use Rattle.glb_rules.specs.declared.kinds.Edge.TheVariants as seen
use Rattle.glb_rules.specs.declared.kinds.Mark.TheVariants as mark
use Rattle.glb_rules.specs.declared.kinds.Side.{Side}
use Rattle.glb_rules.specs.declared.kinds.Side.TheVariants as side
use Rattle.glb_place.specs.declared.record.Record.{Record}
use Rattle.glb_place.specs.Records.{knows, setup_in}
use Rattle.glb_place.specs.Calls.{CanFind}
use Rattle.glb_place.specs.Looks.{raised}
use Rattle.glb_inbox.specs.declared.lane.Lane.{Lane}
use Rattle.glb_inbox.specs.declared.lane.Answer.{Answer}
use Rattle.glb_inbox.specs.declared.lane.Answer.TheVariants.{Nothing, Refusal, LineRefusal, Part}
use Rattle.glb_inbox.specs.declared.view.Member.TheVariants as member
use Rattle.glb_inbox.specs.Keeping.{lane_at}
use Rattle.glb_inbox.specs.inner.Members.{wanted}
use Rattle.glb_inbox.specs.inner.Posted.{Says}

-- a part can come over an edge in this state
abbrev pub CanBring : Kind → Edge → Type 0
CanBring k x = CanFind mark.Unseen k side.Outward x seen.Loot

module _ {B I : Type 0} where
  -- what an edge is, by the answer that came over it, or else as it was known
  abbrev pub told : Edge → Answer B I → Edge
  told x Nothing = x
  told x (Refusal s) = seen.Refused
  told x LineRefusal = seen.Refused
  told x (Part b s) = seen.Loot

  -- a line's refusal is not kept once it is known
  abbrev pub without_line_refusal : Answer B I → Answer B I
  without_line_refusal Nothing = Nothing
  without_line_refusal (Refusal s) = Refusal s
  without_line_refusal LineRefusal = Nothing
  without_line_refusal (Part b s) = Part b s

  abbrev pub IsPart : Answer B I → Type 0
  IsPart Nothing = ⊥
  IsPart (Refusal s) = ⊥
  IsPart LineRefusal = ⊥
  IsPart (Part b s) = Unit {0}

  abbrev pub IsRefusal : Answer B I → Type 0
  IsRefusal Nothing = ⊥
  IsRefusal (Refusal s) = Unit {0}
  IsRefusal LineRefusal = ⊥
  IsRefusal (Part b s) = ⊥

  -- what is known of an edge and is still to be used up is there
  abbrev pub HasAnswer : Kind → Edge → Answer B I → Type 0
  HasAnswer k seen.Idle a = Unit {0}
  HasAnswer k seen.Asked a = Unit {0}
  HasAnswer kind.Steal seen.Refused a = IsRefusal a
  HasAnswer kind.Line seen.Refused a = Unit {0}
  HasAnswer k seen.Loot a = IsPart a

  -- what is known of the two edges is as before, and how often they were looked at
  pub record SameKnown (old new : Lane B I) : Type 0 where
    pub inward : new.inward ≡ old.inward
    pub outward : new.outward ≡ old.outward
    pub inward_looks : new.inward_looks ≡ old.inward_looks
    pub outward_looks : new.outward_looks ≡ old.outward_looks

  module _ {Q : Type 0} (items : B → List I) (fits : B → Q → Type 0) (id : TableId) (q : Q) where
    -- an answer is one of this kind of edge, and its seat counts for what it carries
    abbrev pub IsAnswer : Kind → Answer B I → Type 0
    IsAnswer k Nothing = Unit {0}
    IsAnswer k (Refusal s) = (k ≡ kind.Steal) × Says id (member.Refusal ∷ []) s
    IsAnswer k LineRefusal = k ≡ kind.Line
    IsAnswer k (Part b s) = Says id (member.Parcel k (items b) ∷ []) s × fits b q
        × (0 < length (items b))

    -- the messages that are kept are lawful after what is known
    pub record IsLane (k : Kind) (a : Lane B I) : Type 0 where
      pub request : IfSome a.request (λ s. Says id (member.Request k ∷ []) s
          × (wanted k a.inward ≡ 0))
      pub answer : IsAnswer k a.answer
      pub finds : CanFind mark.Unseen k side.Outward a.outward (told a.outward a.answer)
      pub kept : HasAnswer k a.outward a.answer

    -- a lane of each kind for each place
    pub record AreLanes (places : ℕ) (lanes : List (Lane B I)) : Type 0 where
      pub wide : length lanes ≡ 2 * places
      pub each : (k : Kind) (o : ℕ) (d : Lane B I) → o < places
          → IsLane k (get_or lanes (lane_at places k o) d)

  -- what the lanes know of the place's edges is what its record knows
  pub record Mirrors (lanes : List (Lane B I)) (r : Record I) : Type 0 where
    pub inward : (k : Kind) (o : ℕ) (d : Lane B I) → o < r.lines.places
        → (get_or lanes (lane_at r.lines.places k o) d).inward ≡ knows r (name_of k o r.place)
    pub outward : (k : Kind) (o : ℕ) (d : Lane B I) → o < r.lines.places
        → (get_or lanes (lane_at r.lines.places k o) d).outward ≡ knows r (name_of k r.place o)
    -- no edge leads from the place to itself
    pub itself : (k : Kind) → knows r (name_of k r.place r.place) ≡ seen.Idle
    pub alone : (k : Kind) → has_edge (setup_in r) k r.place r.place ≡ false

  -- the lane was looked at as often
  pub record LaneStays (old new : Lane B I) : Type 0 where
    pub inward_looks : new.inward_looks ≡ old.inward_looks
    pub outward_looks : new.outward_looks ≡ old.outward_looks

  -- nothing of what is known changed
  pub record KnowsAsBefore (old new : List (Lane B I)) : Type 0 where
    pub inward : (i : ℕ) (d : Lane B I) → (get_or new i d).inward ≡ (get_or old i d).inward
    pub outward : (i : ℕ) (d : Lane B I) → (get_or new i d).outward ≡ (get_or old i d).outward

  -- the in-edge of the lane at a number is now known so
  pub record SetsInward (at : ℕ) (x : Edge) (old new : List (Lane B I)) : Type 0 where
    pub here : (d : Lane B I) → (get_or new at d).inward ≡ x
    pub others : (i : ℕ) (d : Lane B I) → i ≢ at → (get_or new i d).inward ≡ (get_or old i d).inward
    pub outward : (i : ℕ) (d : Lane B I) → (get_or new i d).outward ≡ (get_or old i d).outward

  -- its out-edge
  pub record SetsOutward (at : ℕ) (x : Edge) (old new : List (Lane B I)) : Type 0 where
    pub here : (d : Lane B I) → (get_or new at d).outward ≡ x
    pub others : (i : ℕ) (d : Lane B I) → i ≢ at → (get_or new i d).outward
        ≡ (get_or old i d).outward
    pub inward : (i : ℕ) (d : Lane B I) → (get_or new i d).inward ≡ (get_or old i d).inward

  -- no lane was looked at
  abbrev pub LanesStay : List (Lane B I) → List (Lane B I) → Type 0
  LanesStay old new = (i : ℕ) (d : Lane B I) → LaneStays (get_or old i d) (get_or new i d)

  -- the in-edge of the lane at a number was looked at once
  pub record LooksInward (at : ℕ) (old new : List (Lane B I)) : Type 0 where
    pub here : (d : Lane B I)
        → (get_or new at d).inward_looks ≡ raised (get_or old at d).inward_looks
    pub others : (i : ℕ) (d : Lane B I) → i ≢ at → (get_or new i d).inward_looks
        ≡ (get_or old i d).inward_looks
    pub outward : (i : ℕ) (d : Lane B I) → (get_or new i d).outward_looks
        ≡ (get_or old i d).outward_looks

  -- its out-edge
  pub record LooksOutward (at : ℕ) (old new : List (Lane B I)) : Type 0 where
    pub here : (d : Lane B I)
        → (get_or new at d).outward_looks ≡ raised (get_or old at d).outward_looks
    pub others : (i : ℕ) (d : Lane B I) → i ≢ at → (get_or new i d).outward_looks
        ≡ (get_or old i d).outward_looks
    pub inward : (i : ℕ) (d : Lane B I) → (get_or new i d).inward_looks
        ≡ (get_or old i d).inward_looks

  -- the edge of the lane at a number at which the place is this end was looked at once
  abbrev pub LooksOn : Side → ℕ → List (Lane B I) → List (Lane B I) → Type 0
  LooksOn side.Inward at old new = LooksInward at old new
  LooksOn side.Outward at old new = LooksOutward at old new
