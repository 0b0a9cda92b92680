use Rattle.std.proofs.Common.{◌≡◌, ◌-◌, ◌^◌, min, take}
use Rattle.std.specs.List.{sum_by}
use Rattle.glb_bags.specs.inner.Entries.{entry_size}
use Rattle.glb_bags.proofs.entry.count_items.Given as goal

abbrev pub invariant-loop-entry : goal.invariant-loop-entry
invariant-loop-entry g l =
    l.count ≡ min (sum_by entry_size (take l.entry-index l.entries)) (2 ^ 64 - 1)
