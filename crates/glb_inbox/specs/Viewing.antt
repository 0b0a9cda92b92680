-- What a post and a desk keep, as contracts see it.
use Rattle.std.specs.Prelude.{ℕ, false, List, [], ◌∷◌, map, Option, Some, None}
use Rattle.std.specs.declared.snapshot.Snapshot.{Snapshot}
use Rattle.atomic_table.specs.Seated.{TableId}
use Rattle.glb_rules.specs.History.{first_local}
use Rattle.glb_rules.specs.declared.kinds.Edge.{Edge}
use Rattle.glb_rules.specs.declared.kinds.Edge.TheVariants as seen
use Rattle.glb_place.specs.declared.record.Record.{Record}
use Rattle.glb_inbox.specs.declared.books.Books.{Books}
use Rattle.glb_inbox.specs.declared.lane.Lane.{Lane}
use Rattle.glb_inbox.specs.declared.lane.Answer.{Answer}
use Rattle.glb_inbox.specs.declared.lane.Answer.TheVariants.{Nothing, Refusal, LineRefusal, Part}
use Rattle.glb_inbox.specs.declared.rule.Start.{Start}
use Rattle.glb_inbox.specs.declared.view.Seated.{Seated}
use Rattle.glb_inbox.specs.declared.view.Member.{Member}
use Rattle.glb_inbox.specs.declared.view.Member.TheVariants as member
use Rattle.glb_inbox.specs.Keeping.{LaneView}
use Rattle.glb_inbox.specs.Posts.{DeskView, PostView, home_at}

module _ {I : Type 0} where
  -- the place of a view that has none
  abbrev pub nowhere : Seated I
  nowhere = record {
    kept = record {
      place = 0;
      params = record { places = 0; batch = 0; tries = 0; base = 0; seed = 0; limit = 0 };
      lines = record { places = 0; base = 0; dimension = 0 };
      local = first_local 0 [];
      known = [];
      last = 0;
      over = false;
      code = 0;
    };
    before = None;
    rest = [];
    steps = 0;
    found = 0;
  }

  -- the place that a seat counts for
  abbrev pub place_in : List (Member I) → Seated I
  place_in [] = nowhere
  place_in (member.Place x ∷ v) = x
  place_in (member.Request k ∷ v) = nowhere
  place_in (member.Refusal ∷ v) = nowhere
  place_in (member.Parcel k xs ∷ v) = nowhere

  -- its record
  abbrev pub kept_in : List (Member I) → Record I
  kept_in v = (place_in v).kept

-- what a request that is kept tells of its edge
abbrev pub asked_by : {A : Type 0} → Option A → Option Edge
asked_by None = None
asked_by (Some x) = Some seen.Asked

-- the second state of an edge, where it is told by an answer, and news after the first
abbrev pub news_of : Edge → Edge → Option Edge
news_of seen.Refused seen.Refused = None
news_of seen.Loot seen.Loot = None
news_of _ y = Some y

module _ {B I : Type 0} where
  -- the items of the bags at the start
  abbrev pub bag_lists : (B → List I) → List (Snapshot B) → List (List I)
  bag_lists items bags = map (λ b. items b.value) bags

  -- the place's record
  abbrev pub kept_of : Books B I → Record I
  kept_of b = kept_in b.seat.me.0

  -- what an answer that is kept tells of an edge that is known so; one that is known already is
  -- kept for what comes with it alone
  abbrev pub news : Edge → Answer B I → Option Edge
  news x Nothing = None
  news x (Refusal s) = news_of x seen.Refused
  news x LineRefusal = news_of x seen.Refused
  news x (Part b s) = news_of x seen.Loot

  abbrev pub lane_view : Lane B I → LaneView
  lane_view a = record {
    inward = asked_by a.request;
    outward = news a.outward a.answer;
    inward_looks = a.inward_looks;
    outward_looks = a.outward_looks;
  }

module _ {P B I : Type 0} where
  -- a desk that keeps these books, at a table with this name
  abbrev pub desk_view : TableId → P → ℕ → Books B I → DeskView P I
  desk_view id program places b = record {
    program = program;
    kept = kept_of b;
    home = home_at id b.place;
    steps = (place_in b.seat.me.0).steps;
    found = (place_in b.seat.me.0).found;
    places = places;
    lanes = map lane_view b.lanes.items;
    live_looks = b.live_looks;
    stop_looks = b.stop_looks;
  }

  -- the post of the table with this name
  abbrev pub post_view : (B → List I) → TableId → Start P B → PostView P I
  post_view items id key = record {
    id = id;
    program = key.program.value;
    params = key.params;
    lines = key.lines.value;
    bags = bag_lists items key.bags.items;
  }
