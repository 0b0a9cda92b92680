use Rattle.std.proofs.Common.{◌-◌, ◌≡◌, ◌^◌, ◌<◌, ◌≤◌, ℕ}
use Rattle.glb_cube.proofs.shape.dimension_of.Given as goal

abbrev pub invariant-loop-power : goal.invariant-loop-power
invariant-loop-power l = record {
  power : l.power ≡ l.base ^ l.dimension;
  some : 1 ≤ l.dimension;
  short : l.dimension ≤ l.power;
  less : (d : ℕ) → 1 ≤ d → d < l.dimension → l.base ^ d < l.places;
}

abbrev pub decreases-loop-power : goal.decreases-loop-power
decreases-loop-power l = l.places - l.power
