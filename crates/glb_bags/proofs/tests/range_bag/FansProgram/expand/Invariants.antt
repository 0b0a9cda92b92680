use Rattle.std.proofs.Common.{◌≡◌, ◌++◌, ◌+◌, ◌≤◌, ℕ, map, vec_len}
use Rattle.std.specs.Prelude.{vec_capacity}
use Rattle.std.specs.List.{range_with_len}
use Rattle.glb_bags.proofs.tests.range_bag.FansProgram.expand.Given as goal

abbrev pub invariant-loop-number : goal.invariant-loop-number
invariant-loop-number l = record {
  items : l.out.items ≡ l.fn.out.items
      ++ map (λ n. let x : ℕ × ℕ = (0, n) in x) (range_with_len 0 l.number);
  room : vec_len l.out + l.fan ≤ vec_capacity l.out + l.number;
}
