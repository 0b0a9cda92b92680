use Rattle.std.proofs.Common.{[], ◌∷◌}
use Rattle.glb_cells.proofs.cells.Cells.settle.Given as goal

abbrev pub ghosts-settle_as-L-Part : goal.ghosts-settle_as-L-Part
ghosts-settle_as-L-Part g a = record { items = g.B.Bag.items a.bag.now }

abbrev pub ghosts-settle_as-G-Part : goal.ghosts-settle_as-G-Part
ghosts-settle_as-G-Part g a = record { items = a.gain.now ∷ [] }
