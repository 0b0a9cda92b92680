use Rattle.glb_rules.specs.Events.{name_of}
use Rattle.glb_cells.proofs.cells.Cells.take.Given as goal

abbrev pub ghosts-take_as : goal.ghosts-take_as
ghosts-take_as g a = record { name = name_of a._kind a._thief a._victim }
