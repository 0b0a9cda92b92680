use Rattle.std.proofs.Common.{◌≡◌, ◌++◌, [], get_or, map}
use Rattle.std.specs.List.{range_with_len}
use Rattle.glb_rules.specs.Setups.{has_items}
use Rattle.glb_inbox.specs.inner.Firsts.{first_lane}
use Rattle.glb_inbox.proofs.first.add_lanes.Given as goal

abbrev pub invariant-loop-other : goal.invariant-loop-other
invariant-loop-other g l =
    l.lanes.items ≡ l.initial.lanes.items
    ++ map (first_lane l.lines (λ p. has_items (get_or (map g.B.Bag.items l.bags) p [])) l.place
    l.kind) (range_with_len 0 l.other)
