-- What a berth and the shared object keep, and what a call does to what a berth keeps beside its
-- seat.
use Rattle.std.specs.Prelude.{◌≡◌, ◌≢◌, ℕ, ◌+◌, ◌-◌, ◌≤◌, ◌<◌, Bool, true, false, cond, ◌==◌, List, [], ◌∷◌, map, length, get_or, slice_set, Option, Some, None}
use Rattle.std.specs.declared.snapshot.Snapshot.{Snapshot}
use Rattle.atomic_table.specs.Seated.{TableId}
use Rattle.glb_stats.specs.declared.counters.Counters.{Counters}
use Rattle.glb_rules.specs.World.{has_edge}
use Rattle.glb_rules.specs.Setups.{tries_of}
use Rattle.glb_rules.specs.Effects.{credit_after_take}
use Rattle.glb_core.specs.Counters.{counters_of}
use Rattle.glb_rules.specs.History.{no_counts}
use Rattle.glb_rules.specs.declared.place_state.PlaceState.{PlaceState}
use Rattle.glb_rules.specs.declared.kinds.Kind.{Kind}
use Rattle.glb_rules.specs.declared.kinds.Kind.TheVariants as kind
use Rattle.glb_rules.specs.declared.kinds.Phase.TheVariants as phase
use Rattle.glb_rules.specs.declared.kinds.Credit.TheVariants as credit
use Rattle.glb_rules.specs.declared.kinds.Edge.{Edge}
use Rattle.glb_rules.specs.declared.kinds.Edge.TheVariants as seen
use Rattle.glb_place.specs.Records.{known_at, setup_in}
use Rattle.glb_place.specs.declared.record.Record.{Record}
use Rattle.glb_cells.specs.declared.view.View.{View}
use Rattle.glb_cells.specs.declared.key.Start.{Start}
use Rattle.glb_cells.specs.declared.looks.LookCounts.{LookCounts}
use Rattle.glb_cells.specs.Starts.{names_from}
use Rattle.glb_cells.specs.Looking.{LookTable}
use Rattle.glb_cells.specs.Plays.{Seated, slots_of}
use Rattle.glb_cells.specs.Berths.{CellsView, BerthView, IsStateOf, size_after_gift, size_after_take}
use Rattle.glb_cells.specs.inner.Numbers.{HasNumbers}

-- what contracts see of the shared object
abbrev pub cells_view : {B Q I : Type 0} → (B → List I) → TableId → Start Q B → CellsView Q I
cells_view items id key = record {
  object = id;
  program = key.program.value;
  params = key.params;
  lines = key.lines.value;
  bags = map (λ (b : Snapshot _). items b.value) key.bags.items;
}

-- no place has this record
abbrev pub blank : {I : Type 0} → Record I
blank = record {
  place = 0;
  params = record { places = 0; batch = 0; tries = 0; base = 0; seed = 0; limit = 0 };
  lines = record { places = 0; base = 0; dimension = 0 };
  local = record {
    phase = phase.Gone;
    credit = credit.Zero;
    tries = 0;
    bag = [];
    marks = [];
    done = [];
    count = no_counts;
  };
  known = [];
  last = 0;
  over = false;
  code = 0;
}

-- the edge in hand
abbrev pub edge_in : {I : Type 0} → Option (ℕ × List I) → Option ℕ
edge_in None = None
edge_in (Some x) = Some x.0

module _ {Q I : Type 0} where
  -- of the first view of a seat: its program, record, the edge whose slot it holds, its steps and
  -- the word that the last one found
  abbrev pub program_in : List (View Q I) → Option Q
  program_in [] = None
  program_in (r ∷ rs) = Some r.program

  abbrev pub kept_in : List (View Q I) → Record I
  kept_in [] = blank
  kept_in (r ∷ rs) = r.own

  abbrev pub slot_in : List (View Q I) → Option ℕ
  slot_in [] = None
  slot_in (r ∷ rs) = edge_in r.hand

  abbrev pub steps_in : List (View Q I) → ℕ
  steps_in [] = 0
  steps_in (r ∷ rs) = r.steps

  abbrev pub found_in : List (View Q I) → ℕ
  found_in [] = 0
  found_in (r ∷ rs) = r.found

-- the numbers of looks
abbrev pub table_of : LookCounts → LookTable
table_of c = record {
  steals_in = c.steals_in.items;
  lines_in = c.lines_in.items;
  steals_out = c.steals_out.items;
  lines_out = c.lines_out.items;
  live = c.live;
  stop = c.stop;
}

-- there is a number for each edge of a place
pub record HasRoom (places : ℕ) (c : LookTable) : Type 0 where
  pub steals_in : length c.steals_in ≡ places
  pub lines_in : length c.lines_in ≡ places
  pub steals_out : length c.steals_out ≡ places
  pub lines_out : length c.lines_out ≡ places

-- what contracts see of a berth
abbrev pub berth_view : {Q I : Type 0} → TableId → List (View Q I) → PlaceState → Counters
    → LookTable → BerthView Q I
berth_view id views a c looks = record {
  object = id;
  program = program_in views;
  kept = kept_in views;
  slot = slot_in views;
  steps = steps_in views;
  found = found_in views;
  state = a;
  counters = c;
  looks = looks;
}

abbrev pub is_refused : Edge → Bool
is_refused seen.Idle = false
is_refused seen.Asked = false
is_refused seen.Refused = true
is_refused seen.Loot = false

module _ {I : Type 0} where
  -- an edge that the place knows as other than Idle is there
  abbrev pub Listed : Record I → Type 0
  Listed r =
      (k : Kind) (t v : ℕ) → known_at r.known k t v ≢ seen.Idle → has_edge (setup_in r) k t v ≡ true

  -- of each line to the place, by thief, whether the place knows it as Refused
  abbrev pub AreHeld : List Bool → Record I → Type 0
  AreHeld held r =
      (t : ℕ) → has_edge (setup_in r) kind.Line t r.place ≡ true
      → get_or held t false ≡ is_refused (known_at r.known kind.Line t r.place)

-- what a berth keeps beside its seat goes with the place's record
pub record IsBeside {I : Type 0} (r : Record I) (a : PlaceState) (c : Counters) (held : List Bool)
    (looks : LookTable) : Type 0 where
  pub state : IsStateOf r a
  pub counters : c ≡ counters_of r.local.count
  pub listed : Listed r
  pub no_loop : has_edge (setup_in r) kind.Line r.place r.place ≡ false
  pub held_long : length held ≡ r.lines.places
  pub holds : AreHeld held r
  pub room : HasRoom r.lines.places looks

-- what a berth keeps: its seat has one view, of a place, and holds the slots that the view tells
pub record IsKept {B Q I : Type 0} (me : Seated B Q I) (a : PlaceState) (c : Counters)
    (held : List Bool) (looks : LookTable) : Type 0 where
  pub view : View Q I
  pub me_is : me ≡ (view ∷ [], slots_of view)
  pub beside : IsBeside view.own a c held looks

-- what the shared object keeps beside its table
pub record AreNumbered {B Q : Type 0} (id : TableId) (key : Start Q B) (places tries : ℕ)
    (numbers : List ℕ) : Type 0 where
  pub tried : tries ≡ tries_of key.params
  pub few : (places ≤ 64) × (0 < places)
  pub placed : places ≡ key.lines.value.places
  pub sized : id.words ≡ 3 + length (names_from key)
  pub numbered : HasNumbers key.lines.value numbers

-- the state after a request
abbrev pub state_after_ask : ℕ → Kind → PlaceState → PlaceState
state_after_ask v kind.Steal a =
    record a { phase = phase.Waiting v kind.Steal; tries = a.tries - 1 }
state_after_ask v kind.Line a = record a { phase = phase.Waiting v kind.Line }

-- of a place that leaves, if it does, and of one that stops waiting, unless a part is there
abbrev pub state_leaving : Bool → PlaceState → PlaceState
state_leaving true a = record a { phase = phase.Gone }
state_leaving false a = a

abbrev pub state_unless : Bool → PlaceState → PlaceState
state_unless true a = a
state_unless false a = record a { phase = phase.Idle }

-- after a batch that left so many items
abbrev pub state_after_batch : ℕ → ℕ → PlaceState → PlaceState
state_after_batch most size a = record a {
  phase = cond (size == 0) phase.Idle phase.Working;
  tries = cond (size == 0) most a.tries;
  size = size;
}

-- after a gift of so many units, and after so many were taken
abbrev pub state_after_gift : ℕ → PlaceState → PlaceState
state_after_gift n a = record a { credit = credit.One; size = size_after_gift n a.size }

abbrev pub state_after_take : ℕ → PlaceState → PlaceState
state_after_take n a = record a {
  phase = phase.Working;
  credit = credit_after_take a.credit;
  size = size_after_take n a.size;
}

-- of the lines, this one is held now, or is not; a steal edge is none of them
abbrev pub hold_at : Kind → ℕ → Bool → List Bool → List Bool
hold_at kind.Steal t b held = held
hold_at kind.Line t b held = slice_set held t b

-- a place at the start, with so many items
abbrev pub first_state : ℕ → ℕ → ℕ → PlaceState
first_state place tries size = record {
  place = place;
  phase = cond (size == 0) phase.Asleep phase.Working;
  credit = cond (size == 0) credit.Zero credit.One;
  tries = tries;
  victim = 0;
  size = size;
}

abbrev pub no_counters : Counters
no_counters = record {
  items = 0;
  asks = 0;
  shrugs = 0;
  denied = 0;
  given = 0;
  got = 0;
  line_asks = 0;
  line_given = 0;
  line_got = 0;
  sent_units = 0;
  got_units = 0;
  sleeps = 0;
  wakes = 0;
}
