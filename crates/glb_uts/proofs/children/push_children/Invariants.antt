use Rattle.std.proofs.Common.{◌≡◌, ◌++◌, ◌+◌, ◌*◌, ◌≤◌, map, vec_len}
use Rattle.std.specs.Prelude.{vec_capacity}
use Rattle.std.specs.List.{range_with_len}
use Rattle.glb_uts.specs.Binomial.{child}
use Rattle.glb_uts.proofs.children.push_children.Given as goal

abbrev pub invariant-eights : goal.invariant-eights
invariant-eights l = record {
  pushed : l.out.items ≡ l.fn.out.items ++ map (child l.node) (range_with_len 0 (8 * l.group));
  room : vec_len l.out + l.fan ≤ vec_capacity l.out + 8 * l.group;
}
