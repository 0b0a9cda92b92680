use Rattle.glb_rules.specs.Events.{name_of}
use Rattle.glb_cells.proofs.cells.Cells.look_in.Given as goal

abbrev pub ghosts-look_in_as : goal.ghosts-look_in_as
ghosts-look_in_as g a = record { name = name_of a._kind a._thief a._victim }
