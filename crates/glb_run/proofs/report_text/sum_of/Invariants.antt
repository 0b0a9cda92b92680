use Rattle.std.proofs.Common.{◌≡◌, ◌*◌, ◌-◌, ◌^◌, ◌≤◌, sum, take}
use Rattle.glb_run.proofs.report_text.sum_of.Given as goal

abbrev pub invariant-loop-number : goal.invariant-loop-number
invariant-loop-number l = record {
  so_far : l.sum ≡ sum (take l.number-index l.roots);
  small : l.sum ≤ l.number-index * (2 ^ 32 - 1);
}
