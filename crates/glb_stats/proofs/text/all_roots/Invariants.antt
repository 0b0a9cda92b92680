use Rattle.std.proofs.Common.{◌≡◌, ◌*◌, ◌-◌, ◌^◌, ◌≤◌, sum, take}
use Rattle.glb_stats.proofs.text.all_roots.Given as goal

abbrev pub invariant-loop-number : goal.invariant-loop-number
invariant-loop-number l = record {
  so_far : l.total ≡ sum (take l.number-index l.roots);
  small : l.total ≤ l.number-index * (2 ^ 32 - 1);
}
