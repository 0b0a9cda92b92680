-- What a run over places reports, whatever drives the places.
use Rattle.std.specs.Prelude.{◌≡◌, ℕ, ◌*◌, ◌≤◌, Some, List, length, All, slice_get}
use Rattle.glb_laws.specs.Expansion.{combined}
use Rattle.glb_tree.specs.Runs.{IsOutcome}
use Rattle.glb_stats.specs.Balances.{IsBalanced, HasSmallUnits}
use Rattle.glb_stats.specs.declared.counters.Counters.{Counters}
use Rattle.glb_rules.specs.Joins.{join_to}
use Rattle.glb_rules.specs.World.{Setup, World}
use Rattle.glb_rules.specs.Setups.{degree, tries_of}
use Rattle.glb_rules.specs.Lawful.{sum_of_places, all_done}
use Rattle.glb_rules.specs.History.{start, Run}
use Rattle.glb_rules.specs.Finish.{IsFinished, AllGone}
use Rattle.glb_rules.specs.declared.params.Params.{Params}
use Rattle.glb_rules.specs.declared.event.Event.{Event}
use Rattle.glb_core.specs.Counters.{all_counters, all_degrees, all_awake}

-- the items, the answer and the counters are those at the end of a history that begins with the
-- bags, in a finished world in which every place is Gone
pub record EndsHistory {I V : Type 0} (children : I → List I) (value : I → V) (combine : V → V → V)
    (unit : V) (s : Setup) (bags : ℕ → List I) (items : ℕ) (answer : V) (counters : List Counters)
    : Type 0 where
  pub events : List Event
  pub last : World I
  pub run : Run children s (start s bags) events last
  pub all_gone : AllGone s last
  pub finished : IsFinished last
  pub items_done : items ≡ sum_of_places s last (λ a. a.count.items)
  pub answer_done : answer ≡ combined value combine unit (all_done s last)
  pub counted : counters ≡ all_counters s last

-- the outcome of the roots' trees, and for each place counters that balance and stay within their
-- bounds, where the setup says who has which lines and who was awake
pub record IsPlacesReport {I V : Type 0} (children : I → List I) (value : I → V) (combine : V → V
    → V)
    (unit : V) (q : Params) (roots : ℕ → List I) (s : Setup) (items : ℕ) (answer : V)
    (counters : List Counters) : Type 0 where
  pub outcome : IsOutcome children value unit combine (join_to q.places roots) q.limit
      (record { items = items; value = answer })
  pub many : length counters ≡ q.places
  pub small : All HasSmallUnits counters
  pub balance : IsBalanced counters items (all_degrees s) (all_awake s)
  pub asks : (p : ℕ) (c : Counters) → slice_get counters p ≡ Some c → c.asks ≤ tries_of q * c.items
  pub line_asks : (p : ℕ) (c : Counters) → slice_get counters p ≡ Some c
      → c.line_asks ≤ degree s p * c.items
