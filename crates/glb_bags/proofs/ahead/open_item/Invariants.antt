use Rattle.std.proofs.Common.{◌≡◌, ◌+◌, ◌++◌, ◌∷◌, map, take, drop, vec_len}
use Rattle.std.specs.Prelude.{vec_capacity}
use Rattle.glb_bags.specs.Ranges.{closed_item}
use Rattle.glb_bags.specs.inner.Entries.{opened_item}
use Rattle.glb_bags.proofs.ahead.open_item.Given as goal

abbrev pub invariant-loop-i : goal.invariant-loop-i
invariant-loop-i g l = record {
  made : l.made.items ≡ (take l.place l.fn.made.items ++ map closed_item (take l.i l.fresh))
      ++ opened_item l.fn.item ∷ drop (l.place + 1) l.fn.made.items;
  len : vec_len l.made ≡ vec_len l.fn.made + l.i;
  capacity : vec_capacity l.made ≡ vec_capacity l.fn.made;
}
