-- What contracts see of a post and of its desks.
use Rattle.std.specs.Prelude.{◌≡◌, ℕ, ◌+◌, ◌<◌, ◌==◌, nat_lt, true, cond, List, [], length, get_or}
use Rattle.atomic_table.specs.Seated.{TableId}
use Rattle.glb_cube.specs.Lines.{Cube}
use Rattle.glb_rules.specs.Joins.{join_to}
use Rattle.glb_rules.specs.World.{Setup}
use Rattle.glb_rules.specs.declared.kinds.Edge.{Edge}
use Rattle.glb_rules.specs.declared.kinds.Kind.{Kind}
use Rattle.glb_rules.specs.declared.kinds.Side.{Side}
use Rattle.glb_rules.specs.declared.local.EdgeName.{EdgeName}
use Rattle.glb_rules.specs.declared.params.Params.{Params}
use Rattle.glb_core.specs.Lifelines.{setup_for}
use Rattle.glb_place.specs.declared.record.Record.{Record}
use Rattle.glb_place.specs.Records.{IsFirst, knows}
use Rattle.glb_place.specs.Calls.{SameObject, edge_with}
use Rattle.glb_place.specs.Looks.{Looks}
use Rattle.glb_inbox.specs.declared.home.DeskHome.{DeskHome}
use Rattle.glb_inbox.specs.Keeping.{LaneView, MayReceive, kept_at, lane_at, look_at, no_lane}
use Rattle.glb_inbox.specs.Keeping.{told_by}

-- a post: the table of its words, and what the run began with; `bags` are the items of the bags, by
-- place
pub record PostView (P I : Type 0) : Type 0 where
  pub id : TableId
  pub program : P
  pub params : Params
  pub lines : Cube
  pub bags : List (List I)

-- a desk: its program, its place's record, where it belongs, how many steps on the words it made
-- and the word that the last one found, its lanes, and how often it looked at live and at stop
pub record DeskView (P I : Type 0) : Type 0 where
  pub program : P
  pub kept : Record I
  pub home : DeskHome
  pub steps : ℕ
  pub found : ℕ
  pub places : ℕ
  pub lanes : List LaneView
  pub live_looks : ℕ
  pub stop_looks : ℕ

-- a place's desk of the post with this table
abbrev pub home_at : TableId → ℕ → DeskHome
home_at id p = record {
  table = record { marker = record {}; table_id = id; id = 0; views = [] };
  place = p;
}

-- a number of the lane of this kind with this place, 0 where there is no such place
abbrev pub lane_looks : (LaneView → ℕ) → ℕ → List LaneView → Kind → ℕ → ℕ
lane_looks f places lanes k other =
    cond (nat_lt other places) (f (get_or lanes (lane_at places k other) no_lane)) 0

-- how often the desk looked at an edge; 0 for an edge that is not its place's
abbrev pub edge_looks : ℕ → ℕ → List LaneView → EdgeName → ℕ
edge_looks place places lanes n =
    cond (n.victim == place) (lane_looks (λ l. l.inward_looks) places lanes n.kind n.thief)
    (cond (n.thief == place) (lane_looks (λ l. l.outward_looks) places lanes n.kind n.victim) 0)

module _ {P I : Type 0} where
  -- the items of a place at the start
  abbrev pub bag_at : PostView P I → ℕ → List I
  bag_at v p = get_or v.bags p []

  -- the setup of the run
  abbrev pub setup_at : PostView P I → Setup
  setup_at v = setup_for v.lines v.params (bag_at v)

  -- all items at the start
  abbrev pub roots_at : PostView P I → List I
  roots_at v = join_to v.lines.places (bag_at v)

  -- these are all the desks that were made with the post, by place
  pub record AreDesksOf (post : PostView P I) (desks : List (DeskView P I)) : Type 0 where
    pub many : length desks ≡ post.lines.places
    pub homes : (p : ℕ) (d : DeskView P I) → p < length desks
        → (get_or desks p d).home ≡ home_at post.id p

  -- and each is as its place is at the start
  pub record AreFirstDesks (post : PostView P I) (desks : List (DeskView P I)) : Type 0 where
    pub all : AreDesksOf post desks
    pub programs : (p : ℕ) (d : DeskView P I) → p < length desks
        → (get_or desks p d).program ≡ post.program
    pub firsts : (p : ℕ) (d : DeskView P I) → p < length desks
        → IsFirst post.lines post.params p (bag_at post p) (get_or desks p d).kept

  -- how often it looked
  abbrev pub looks_of : DeskView P I → Looks
  looks_of d = record {
    edge = edge_looks d.home.place d.places d.lanes;
    live = d.live_looks;
    stop = d.stop_looks;
  }

  -- the desk is of the same program, of the same post and for the same place
  abbrev pub SameDesk : DeskView P I → DeskView P I → Type 0
  SameDesk = SameObject (λ d. d.program) (λ d. d.home) (λ d. true)

  -- the desk made one step on a word, which it found so, and keeps the messages that it kept
  pub record FindsWord (word : ℕ) (old new : DeskView P I) : Type 0 where
    pub steps : new.steps ≡ old.steps + 1
    pub found : new.found ≡ word
    pub lanes : new.lanes ≡ old.lanes

  -- what the desk knows of its edge with another place
  abbrev pub known_edge : DeskView P I → ℕ → Kind → Side → Edge
  known_edge d other k s = knows d.kept (edge_with d.kept.place other k s)

  -- a look at this edge answered so: at most one message was taken out of the inbox and kept beside
  -- its edge; the answer is what the edge then is by the message that is kept for it, or else as it
  -- was known, and that message is kept no longer
  pub record AnswersLook (other : ℕ) (k : Kind) (s : Side) (answer : Edge) (old new : DeskView P I)
      : Type 0 where
    pub lanes : List LaneView
    pub receives : MayReceive old.places (known_edge old) old.lanes lanes
    pub answers : answer ≡ told_by (known_edge old other k s)
        (kept_at (lane_at old.places k other) s lanes)
    pub forgets : new.lanes ≡ look_at (lane_at old.places k other) s lanes

module _ {I : Type 0} where
  -- the records are those of all places, by number, with these parameters and lines
  pub record AreNumbered (lines : Cube) (params : Params) (rs : List (Record I)) : Type 0 where
    pub many : length rs ≡ lines.places
    pub places : (p : ℕ) (d : Record I) → p < length rs → (get_or rs p d).place ≡ p
    pub params_are : (p : ℕ) (d : Record I) → p < length rs → (get_or rs p d).params ≡ params
    pub lines_are : (p : ℕ) (d : Record I) → p < length rs → (get_or rs p d).lines ≡ lines
