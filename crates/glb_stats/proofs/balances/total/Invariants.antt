use Rattle.std.proofs.Common.{◌≡◌, ◌*◌, ◌-◌, ◌^◌, ◌≤◌, sum_by, take}
use Rattle.glb_stats.specs.Counter.{number_of}
use Rattle.glb_stats.proofs.balances.total.Given as goal

abbrev pub invariant-loop-place : goal.invariant-loop-place
invariant-loop-place l = record {
  so_far : l.sum ≡ sum_by (number_of l.counter) (take l.place-index l.all);
  small : l.sum ≤ l.place-index * (2 ^ 121 - 1);
}
