use Rattle.std.proofs.Common.{◌≡◌, ◌≤◌, map, get_or, []}
use Rattle.glb_laws.specs.Sums.{sum_to}
use Rattle.glb_rules.specs.Setups.{has_items, bit}
use Rattle.glb_core.proofs.world.start.count_awake.Given as goal

abbrev pub invariant-loop-place : goal.invariant-loop-place
invariant-loop-place g l = record {
  sum : l.awake ≡ sum_to l.place (λ p. bit (has_items (get_or (map g.B.Bag.items l.bags) p [])));
  few : l.awake ≤ l.place;
}
