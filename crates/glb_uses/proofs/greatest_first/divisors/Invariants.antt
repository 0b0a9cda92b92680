use Rattle.std.proofs.Common.{◌≡◌, ◌+◌, ◌%◌, ◌==◌, ◌≤◌}
use Rattle.glb_laws.specs.Numbers.{count_to}
use Rattle.glb_uses.proofs.greatest_first.divisors.Given as goal

abbrev pub invariant-loop-below : goal.invariant-loop-below
invariant-loop-below l = record {
  counted : l.count ≡ count_to l.below (λ d. l.number % (d + 1) == 0);
  few : l.count ≤ l.below;
}
