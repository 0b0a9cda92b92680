use Rattle.std.proofs.Common.{◌≡◌, map, take}
use Rattle.glb_cells.proofs.opening.snapshots.Given as goal

abbrev pub invariant-loop-bag : goal.invariant-loop-bag
invariant-loop-bag g l = map (λ s. s.value) l.all.items ≡ take l.bag-index l.bags
