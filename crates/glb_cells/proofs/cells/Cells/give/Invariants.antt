use Rattle.glb_rules.specs.Events.{name_of}
use Rattle.glb_cells.proofs.cells.Cells.give.Given as goal

abbrev pub ghosts-give_as : goal.ghosts-give_as
ghosts-give_as g a = record { name = name_of a._kind a._thief a._victim }
