-- What a report tells of the run of a job's trees.
use Rattle.std.specs.Prelude.{◌≡◌, ◌≤◌, ℕ, ◌+◌, ◌%◌, ◌^◌, Bool, List, [], ◌∷◌, ◌++◌, length}
use Rattle.glb_laws.specs.Tree.{IsSmall}
use Rattle.glb_tree.specs.Runs.{IsOutcome, IsTooMany}
use Rattle.glb_stats.specs.Balances.{IsBalanced, StartsByRoots}
use Rattle.glb_stats.specs.Counter.{no_counters}
use Rattle.glb_stats.specs.declared.counters.Counters.{Counters}
use Rattle.glb_rules.specs.Joins.{join_to}
use Rattle.glb_rules.specs.Setups.{bit, has_items}
use Rattle.glb_rules.specs.declared.params.Params.{Params}
use Rattle.glb_core.specs.Counters.{all_awake}
use Rattle.glb_core.specs.Lifelines.{setup_for}
use Rattle.glb_turns.specs.ScheduledRuns.{IsTurnsReport}
use Rattle.glb_run.specs.ThreadedRuns.{IsPlayed}
use Rattle.glb_words.specs.Rules.{Text}
use Rattle.glb_words.specs.declared.settings.Driver.{Driver}
use Rattle.glb_words.specs.declared.settings.Driver.TheVariants as driver
use Rattle.glb_words.specs.declared.settings.FabricKind.{FabricKind}
use Rattle.glb_run.specs.declared.order.Order.{Order}
use Rattle.glb_run.specs.Reports.{counters_text}
use Rattle.glb_run.specs.Roots.{roots_of, all_roots, numbers_of, root_numbers}

-- the counters of the one place of a run in one bag: its items, and that it slept at the end if it
-- was awake at the start
abbrev pub lone_counters : Bool → ℕ → Counters
lone_counters awake items = record no_counters { items = items; sleeps = bit awake }

-- such a place was awake at the start exactly where there are roots
pub record AreLoneCounters {X : Type 0} (roots : List X) (items : ℕ) (counters : List Counters)
    : Type 0 where
  pub counters_are : counters ≡ lone_counters (has_items roots) items ∷ []
  pub balance : IsBalanced counters items (0 ∷ []) (has_items roots ∷ [])
  pub starts : StartsByRoots (has_items roots ∷ []) (length roots ∷ [])

-- the numbers 0, 1, 2 and so on, and 0 again after the last one of 32 bits
abbrev pub rounds : ℕ → ℕ
rounds k = k % 2 ^ 32

-- what a run by turns reports of these rounds, where each place was awake at the start exactly if
-- it had roots
pub record IsRoundsReport {X V : Type 0} (children : X → List X) (value : X → V)
    (combine : V → V → V) (unit : V) (params : Params) (roots : ℕ → List X) (items : ℕ)
    (answer : V) (counters : List Counters) : Type 0 where
  pub turns : IsTurnsReport children value combine unit params roots rounds items answer counters
  pub starts : StartsByRoots (all_awake (setup_for turns.cube params turns.bags))
      (numbers_of params.places roots)

-- the counters of the places, by the driver and, of threads, by the fabric: they balance; those of
-- turns are what a run of the rounds ends with, and those of cells what a history ends with
abbrev pub AreCounters : {X V : Type 0} → (X → List X) → (X → V) → (V → V → V) → V
    → (ℕ → List X) → Params → Driver → FabricKind → ℕ → V → List Counters → Type 0
AreCounters children value combine unit roots params driver.One fabric items answer counters =
    AreLoneCounters (join_to params.places roots) items counters
AreCounters children value combine unit roots params driver.Turns fabric items answer counters =
    IsRoundsReport children value combine unit params roots items answer counters
AreCounters children value combine unit roots params driver.Threads fabric items answer counters =
    IsPlayed fabric children value combine unit params roots items answer counters

-- the report has the number of the nodes of the roots' trees, which is within the limit, the
-- combination of their values, and the counters of the places; `root` is that of the job, and the
-- order says with which roots the places start
pub record IsRun {X V : Type 0} (children : X → List X) (value : X → V)
    (combine : V → V → V) (unit : V) (root : X) (order : Order)
    (items : ℕ) (answer : V) (counters : List Counters) : Type 0 where
  pub outcome : IsOutcome children value unit combine (all_roots children order root)
      order.params.limit (record { items = items; value = answer })
  pub counted : AreCounters children value combine unit (roots_of children order root)
      order.params order.driver order.fabric items answer counters

-- the text tells of such a run
pub record IsTreeReport {X V : Type 0} (children : X → List X) (value : X → V)
    (combine : V → V → V) (unit : V) (root : X) (order : Order)
    (lines : List ℕ → ℕ → V → Text) (text : Text) : Type 0 where
  pub items : ℕ
  pub answer : V
  pub counters : List Counters
  pub run : IsRun children value combine unit root order items answer counters
  -- how many roots each place had
  pub roots : List ℕ
  pub roots_are : roots ≡ root_numbers children order root
  pub whole : text
      ≡ lines roots items answer ++ counters_text order.stats order.spread roots counters

-- by the driver, how far the items that were expanded may pass the limit: by the last batch; of
-- threads, which may each pass it by a batch, nothing is said
abbrev pub PassesByBatch : Driver → Params → ℕ → Type 0
PassesByBatch driver.One params items = items ≤ params.limit + params.batch
PassesByBatch driver.Turns params items = items ≤ params.limit + params.batch
PassesByBatch driver.Threads params items = Unit {0}

-- the roots' trees have no more nodes than the order's limit
abbrev pub IsWithin : {X : Type 0} → (X → List X) → Order → X → Type 0
IsWithin children order root =
    IsSmall children (all_roots children order root) order.params.limit

-- the roots' trees have more nodes than the order's limit, and so many were expanded
pub record IsTooLarge {X : Type 0} (children : X → List X) (root : X) (order : Order)
    (items : ℕ) : Type 0 where
  pub many : IsTooMany children (all_roots children order root) order.params.limit items
  pub last_batch : PassesByBatch order.driver order.params items
