use Rattle.std.proofs.Common.{◌≡◌, ◌+◌, ◌++◌, map, take, vec_len}
use Rattle.std.specs.Prelude.{vec_capacity}
use Rattle.glb_bags.specs.Ranges.{closed_item}
use Rattle.glb_bags.proofs.ahead.put_made.Given as goal

abbrev pub invariant-loop-item : goal.invariant-loop-item
invariant-loop-item g l = record {
  made : l.made.items ≡ l.fn.made.items ++ map closed_item (take l.item-index l.fresh);
  len : vec_len l.made ≡ vec_len l.fn.made + l.item-index;
  capacity : vec_capacity l.made ≡ vec_capacity l.fn.made;
}
