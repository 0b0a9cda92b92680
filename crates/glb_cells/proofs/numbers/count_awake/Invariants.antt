use Rattle.std.proofs.Common.{◌≡◌, ◌≤◌, map, get_or, []}
use Rattle.glb_laws.specs.Sums.{sum_to}
use Rattle.glb_rules.specs.Setups.{has_items, bit}
use Rattle.glb_cells.proofs.numbers.count_awake.Given as goal

abbrev pub invariant-loop-bag : goal.invariant-loop-bag
invariant-loop-bag g l =
    (l.live ≡ sum_to l.bag-index (λ p. bit (has_items (get_or (map g.B.Bag.items l.bags) p []))))
    × (l.live ≤ l.bag-index)
