use Rattle.std.proofs.Common.{◌≡◌, ◌≤◌, ◌+◌, ℕ, List, length}
use Rattle.glb_core.specs.Standing.{AllFit}
use Rattle.glb_turns.specs.inner.Turns.{Begins, Plays}
use Rattle.glb_turns.specs.inner.Watches.{HasWatches}
use Rattle.glb_turns.proofs.driver.play.Given as goal

abbrev pub invariant-loop : goal.invariant-loop
invariant-loop g l = record {
  many : length l.watches ≡ l.world.cube.places;
  watches : HasWatches {I = g.row.P-Item.Denot} g.B.Bag.items l.world l.watches;
  fits : AllFit g.B.Bag.fits l.world l.program;
  cube : l.world.cube ≡ l.fn.world.cube;
  params : l.world.params ≡ l.fn.world.params;
  within : l.world.total ≤ l.limit;
  later : (k : ℕ) → g.S.Schedule.will l.schedule k
      ≡ g.S.Schedule.will l.fn.schedule (l.counter + k);
  plays : (bags : ℕ → List g.row.P-Item.Denot)
      → Begins g.B.Bag.items (g.P.Program.value l.program) g.P.Value.Monoid.combine
      g.P.Value.Monoid.unit l.fn.world bags
      → Plays g.B.Bag.items (g.P.Program.children l.program) (g.P.Program.value l.program)
      g.P.Value.Monoid.combine g.P.Value.Monoid.unit l.fn.world bags
      (g.S.Schedule.will l.fn.schedule) l.counter l.world;
}
