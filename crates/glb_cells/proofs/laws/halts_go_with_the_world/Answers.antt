use Rattle.glb_cells.specs.Starts.{setup_from}
use Rattle.glb_cells.proofs.StepLemmas.Stopping.{halt_goes}
use Rattle.glb_cells.proofs.laws.halts_go_with_the_world.Goals as goal

pub returns : goal.returns
returns g c = λ key. halt_goes (setup_from g.B.Bag.items g.B.Bag.fits g.P.Program.children key)
