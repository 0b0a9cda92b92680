use Rattle.std.proofs.Common.{◌≡◌, ◌≤◌, ◌+◌, ◌*◌, ◌^◌}
use Rattle.glb_rules.specs.World.{Setup, World}
use Rattle.glb_rules.specs.Schedules.{MintersKnowWhoAsks}
use Rattle.glb_core.specs.Standing.{Represents}
use Rattle.glb_turns.specs.inner.Turns.{IsInPlay, IsOver}
use Rattle.glb_turns.proofs.HaltFacts.{gone_count}
use Rattle.glb_turns.proofs.driver.halt.Given as goal

abbrev pub invariant-loop : goal.invariant-loop
invariant-loop g l = record {
  in_play : IsInPlay {I = g.row.P-Item.Denot} g.B.Bag.items g.B.Bag.fits l.program l.world l.watches;
  few : l.places ≤ 64;
  same : l.places ≡ l.world.cube.places;
  total : l.world.total ≤ 2 ^ 40 + 65536 * (l.counter + 2);
  over : IsOver l.code l.world;
  left : (s : Setup) × (w : World g.row.P-Item.Denot) × Represents g.B.Bag.items s l.world w
      × MintersKnowWhoAsks s w × (l.counter ≤ gone_count s w);
}
