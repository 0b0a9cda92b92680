use Rattle.glb_rules.specs.Events.{name_of}
use Rattle.glb_cells.proofs.cells.Cells.shrug_line.Given as goal

abbrev pub ghosts-shrug_as : goal.ghosts-shrug_as
ghosts-shrug_as g a = record { name = name_of a._kind a._thief a._victim }
