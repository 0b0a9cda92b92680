-- What the close of a fabric promises of the records of all places.
use Rattle.std.specs.Prelude.{◌≡◌, ◌≢◌, ℕ, ◌+◌, ◌*◌, ◌^◌, ◌<◌, ◌≤◌, ◌⊎◌, List, [], ◌++◌, length, get_or, map, All, Bool}
use Rattle.std.specs.List.{flat_map}
use Rattle.glb_laws.specs.Expansion.{Expansion}
use Rattle.glb_cube.specs.Lines.{Cube}
use Rattle.glb_stats.specs.Balances.{IsBalanced}
use Rattle.glb_stats.specs.declared.counters.Counters.{Counters}
use Rattle.glb_rules.specs.Setups.{degree, tries_of}
use Rattle.glb_rules.specs.World.{Idle, World}
use Rattle.glb_rules.specs.Lawful.{idle_lines_of, at_rest}
use Rattle.glb_core.specs.Counters.{counters_of}
use Rattle.glb_rules.specs.declared.kinds.Edge.TheVariants as seen
use Rattle.glb_rules.specs.declared.kinds.Kind.TheVariants as kind
use Rattle.glb_rules.specs.declared.kinds.Phase.TheVariants as phase
use Rattle.glb_rules.specs.declared.params.Params.{Params}
use Rattle.glb_place.specs.declared.record.Record.{Record}
use Rattle.glb_place.specs.Records.{known_at, setup_in, world_in}

-- the items that the place expanded
abbrev pub done_of : {I : Type 0} → Record I → List I
done_of r = r.local.done

-- the items that it has left
abbrev pub bag_of : {I : Type 0} → Record I → List I
bag_of r = r.local.bag

-- the requests of both kinds are few for what the place expanded, also with those added that it has
-- still to make before it sleeps; units and wakes are few for the parts given and taken
pub record IsBounded {I : Type 0} (r : Record I) : Type 0 where
  pub items : r.local.count.items ≡ length r.local.done
  pub asks : r.local.count.asks + at_rest r.local.phase r.local.tries
      ≤ tries_of r.params * r.local.count.items
  pub line_asks :
      r.local.count.line_asks + at_rest r.local.phase (idle_lines_of (setup_in r) (world_in r) r.place)
      ≤ degree (setup_in r) r.place * r.local.count.items
  pub sent : r.local.count.sent_units ≤ 2 ^ 64 * (r.local.count.given + r.local.count.line_given)
  pub wakes : r.local.count.wakes ≤ r.local.count.line_got

-- the place has left
abbrev pub HasLeft : {I : Type 0} → Record I → Type 0
HasLeft r = r.local.phase ≡ phase.Gone

-- its counters
abbrev pub counters_in : {I : Type 0} → Record I → Counters
counters_in r = counters_of r.local.count

-- the records of all places at the close, by number, with the three words; `degrees` are the
-- numbers of their lines, and `awake` says which had items at the start
pub record Closes {I : Type 0} (children : I → List I) (degrees : List ℕ) (awake : List Bool)
    (limit : ℕ) (roots : List I) (rs : List (Record I)) (live items stop : ℕ) : Type 0 where
  -- the items that travel
  pub way : List I
  pub expansion : Expansion children roots (flat_map done_of rs) (flat_map bag_of rs ++ way)
  pub quiet : live ≡ 0 → (flat_map bag_of rs ≡ []) × (way ≡ [])
  pub balanced : live ≡ 0 → IsBalanced (map counters_in rs) items degrees awake
  pub bounded : All IsBounded rs
  pub count : items ≡ length (flat_map done_of rs)
  pub cause : stop ≡ 1 → limit < items
  -- nothing but 1 and 2 is ever set
  pub codes : stop ≤ 2
  pub ended : All HasLeft rs → (live ≡ 0) ⊎ (stop ≢ 0)

-- the record is that of the place in the world, and a line that it knows as Idle is Idle
pub record IsRecordOf {I : Type 0} (lines : Cube) (params : Params) (w : World I) (p : ℕ)
    (r : Record I)
    : Type 0 where
  pub place : r.place ≡ p
  pub params_are : r.params ≡ params
  pub lines_are : r.lines ≡ lines
  pub local : r.local ≡ w.place p
  pub idle_lines : (v : ℕ) → v < lines.places → known_at r.known kind.Line p v ≡ seen.Idle
      → w.edge kind.Line p v ≡ Idle

-- the records are those of all places, by number
pub record AreRecordsOf {I : Type 0} (lines : Cube) (params : Params) (w : World I)
    (rs : List (Record I)) : Type 0 where
  pub many : length rs ≡ lines.places
  pub each : (p : ℕ) (d : Record I) → p < length rs → IsRecordOf lines params w p (get_or rs p d)
