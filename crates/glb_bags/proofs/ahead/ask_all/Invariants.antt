use Rattle.std.proofs.Common.{◌≡◌, ◌+◌, ◌++◌, map, vec_len}
use Rattle.std.specs.Prelude.{vec_capacity}
use Rattle.std.specs.List.{range_with_len}
use Rattle.glb_bags.proofs.ahead.ask_all.Given as goal

abbrev pub invariant-loop-i : goal.invariant-loop-i
invariant-loop-i g l = record {
  asked : l.asked.items
      ≡ l.fn.asked.items ++ map (λ n. (l.parent, n)) (range_with_len 0 l.i);
  len : vec_len l.asked ≡ vec_len l.fn.asked + l.i;
  capacity : vec_capacity l.asked ≡ vec_capacity l.fn.asked;
}
