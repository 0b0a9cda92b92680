use Rattle.glb_rules.specs.Events.{name_of}
use Rattle.glb_cells.proofs.cells.Cells.shrug_steal.Given as goal

abbrev pub ghosts-give_up_as : goal.ghosts-give_up_as
ghosts-give_up_as g a = record { name = name_of a._kind a._thief a._victim }
