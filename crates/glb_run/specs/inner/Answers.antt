-- What a driver answers of the root's tree.
use Rattle.std.specs.Prelude.{◌≡◌, ◌≤◌, ℕ, List, length, All}
use Rattle.glb_stats.specs.Balances.{HasSmallUnits}
use Rattle.glb_stats.specs.declared.counters.Counters.{Counters}
use Rattle.glb_run.specs.declared.order.Order.{Order}
use Rattle.glb_run.specs.Roots.{root_numbers}
use Rattle.glb_run.specs.Runs.{IsRun}

-- the run is one of the order, the numbers of roots are those of its places, and with them its
-- counters can be written
pub record IsAnswer {X V : Type 0} (children : X → List X) (value : X → V) (combine : V → V → V)
    (unit : V) (root : X) (order : Order) (items : ℕ) (answer : V) (counters : List Counters)
    (roots : List ℕ) : Type 0 where
  pub run : IsRun children value combine unit root order items answer counters
  pub roots_are : roots ≡ root_numbers children order root
  pub many : length roots ≡ length counters
  pub few : length counters ≤ 64
  pub units : All HasSmallUnits counters
