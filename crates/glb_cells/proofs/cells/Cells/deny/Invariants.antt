use Rattle.glb_rules.specs.Events.{name_of}
use Rattle.glb_cells.proofs.cells.Cells.deny.Given as goal

abbrev pub ghosts-deny_as : goal.ghosts-deny_as
ghosts-deny_as g a = record { name = name_of a._kind a._thief a._victim }
