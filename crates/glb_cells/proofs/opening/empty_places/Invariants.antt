use Rattle.std.proofs.Common.{◌≡◌, map, take}
use Rattle.glb_cells.specs.inner.Numbers.{are_empty}
use Rattle.glb_cells.proofs.opening.empty_places.Given as goal

abbrev pub invariant-loop-bag : goal.invariant-loop-bag
invariant-loop-bag g l = l.empty.items ≡ map (λ b. are_empty (g.B.Bag.items b))
    (take l.bag-index l.bags)
