use Rattle.std.proofs.Common.{◌≡◌, ◌<◌, ◌+◌, ◌%◌, ℕ, length}
use Rattle.glb_rules.specs.World.{Setup}
use Rattle.glb_rules.specs.World.{World as AbstractWorld}
use Rattle.glb_rules.specs.Schedules.{Passes}
use Rattle.glb_core.specs.Standing.{Represents}
use Rattle.glb_turns.specs.inner.Watches.{HasWatches}
use Rattle.glb_turns.proofs.driver.find_decision.Given as goal

abbrev pub invariant-loop-ahead : goal.invariant-loop-ahead
invariant-loop-ahead g l = record {
  many : length l.watches ≡ l.world.cube.places;
  watches : HasWatches {I = g.row.P-Item.Denot} g.B.Bag.items l.world l.watches;
  passed : (s : Setup) (w : AbstractWorld g.row.P-Item.Denot) → Represents g.B.Bag.items s l.world w
      → (j : ℕ) → j < l.ahead → Passes l.world.params.seed s w ((l.number + j) % s.places);
}
