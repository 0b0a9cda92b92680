-- What contracts see of the shared object and of a place's berth, and what a call says of a berth.
use Rattle.std.specs.Prelude.{◌≡◌, ℕ, ◌+◌, ◌-◌, ◌^◌, ◌<◌, Option, Some, None, List, [], length, get_or, min, cond, nat_lt}
use Rattle.atomic_table.specs.Seated.{TableId}
use Rattle.glb_cube.specs.Lines.{Cube}
use Rattle.glb_stats.specs.declared.counters.Counters.{Counters}
use Rattle.glb_rules.specs.World.{Setup}
use Rattle.glb_core.specs.Lifelines.{setup_for}
use Rattle.glb_rules.specs.declared.params.Params.{Params}
use Rattle.glb_rules.specs.declared.place_state.PlaceState.{PlaceState}
use Rattle.glb_cells.specs.Looking.{LookTable}
use Rattle.glb_place.specs.Records.{IsFirst}
use Rattle.glb_place.specs.declared.record.Record.{Record}

-- the shared object: which one it is, and what it was made with; `bags` are the items of each place
pub record CellsView (Q I : Type 0) : Type 0 where
  pub object : TableId
  pub program : Q
  pub params : Params
  pub lines : Cube
  pub bags : List (List I)

-- a berth: its object, and what its seat there knows; the number of the edge whose slot it holds,
-- if it holds one; how many steps on words it made, and the word that the last one found; the
-- place's state and counters; how often it looked
pub record BerthView (Q I : Type 0) : Type 0 where
  pub object : TableId
  pub program : Option Q
  pub kept : Record I
  pub slot : Option ℕ
  pub steps : ℕ
  pub found : ℕ
  pub state : PlaceState
  pub counters : Counters
  pub looks : LookTable

-- the numbers of a state are those of the record, but for the next random victim, which is 0; the
-- size is the number of items, or the last value of its type
pub record IsStateOf {I : Type 0} (r : Record I) (a : PlaceState) : Type 0 where
  pub place : a.place ≡ r.place
  pub phase : a.phase ≡ r.local.phase
  pub credit : a.credit ≡ r.local.credit
  pub tries : a.tries ≡ r.local.tries
  pub victim : a.victim ≡ 0
  pub size : a.size < 2 ^ 64 - 1 → a.size ≡ length r.local.bag

-- the size after a gift of so many units: one that is the last value of its type stays
abbrev pub size_after_gift : ℕ → ℕ → ℕ
size_after_gift units n = cond (nat_lt n (2 ^ 64 - 1)) (n - units) n

-- and after so many units were taken
abbrev pub size_after_take : ℕ → ℕ → ℕ
size_after_take units n = min (n + units) (2 ^ 64 - 1)

module _ {Q I : Type 0} where
  -- the items that a place began with
  abbrev pub bag_of : CellsView Q I → ℕ → List I
  bag_of c p = get_or c.bags p []

  -- the setup of the run
  abbrev pub setup_of_cells : CellsView Q I → Setup
  setup_of_cells c = setup_for c.lines c.params (bag_of c)

  -- the berth is one of the object
  pub record Belongs (c : CellsView Q I) (b : BerthView Q I) : Type 0 where
    pub object : b.object ≡ c.object
    pub program : b.program ≡ Some c.program
    pub lines : b.kept.lines ≡ c.lines
    pub params : b.kept.params ≡ c.params
    pub within : b.kept.place < c.lines.places

  -- and holds no slot: one that holds a slot between two calls is not free for each call
  pub record IsOf (c : CellsView Q I) (b : BerthView Q I) : Type 0 where
    pub here : Belongs c b
    pub free : b.slot ≡ None

  -- it is that of the place p at the start
  pub record IsFirstBerth (c : CellsView Q I) (p : ℕ) (b : BerthView Q I) : Type 0 where
    pub here : IsOf c b
    pub first : IsFirst c.lines c.params p (bag_of c p) b.kept
    pub steps : b.steps ≡ 0

  -- these are all berths of the object, by place
  pub record AreBerthsOf (c : CellsView Q I) (bs : List (BerthView Q I)) : Type 0 where
    pub many : length bs ≡ c.lines.places
    pub each : (p : ℕ) (d : BerthView Q I) → p < length bs
        → IsOf c (get_or bs p d) × ((get_or bs p d).kept.place ≡ p)

  -- the berth made so many steps on words, and holds the slot that it held
  pub record Makes (n : ℕ) (old new : BerthView Q I) : Type 0 where
    pub steps : new.steps ≡ old.steps + n
    pub slot : new.slot ≡ old.slot
    pub looks : new.looks ≡ old.looks

  -- by so many steps its record moved by this row, and its bag has as many items as before
  pub record Moved (n : ℕ) (row : Record I → Record I) (old new : BerthView Q I) : Type 0 where
    pub makes : Makes n old new
    pub kept : new.kept ≡ row old.kept
    pub size : new.state.size ≡ old.state.size
