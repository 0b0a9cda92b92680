use Rattle.std.proofs.Common.{◌≡◌, ◌-◌, ◌≤◌, map, vec_len}
use Rattle.std.specs.Prelude.{vec_capacity}
use Rattle.std.specs.List.{range_with_len}
use Rattle.glb_bags.proofs.ahead.ask_last.Given as goal

abbrev pub invariant-loop-i : goal.invariant-loop-i
invariant-loop-i g l = record {
  asked : l.asked.items ≡ map (λ n. (l.parent, n)) (range_with_len (l.made - l.count) l.i);
  len : vec_len l.asked ≡ l.i;
  room : 8 ≤ vec_capacity l.asked;
}
