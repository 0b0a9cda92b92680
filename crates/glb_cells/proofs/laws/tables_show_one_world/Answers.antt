use Rattle.glb_cells.specs.Starts.{setup_from}
use Rattle.glb_cells.proofs.StepLemmas.Unique.{one_world}
use Rattle.glb_cells.proofs.laws.tables_show_one_world.Goals as goal

pub returns : goal.returns
returns g c = λ key. one_world (setup_from g.B.Bag.items g.B.Bag.fits g.P.Program.children key)
