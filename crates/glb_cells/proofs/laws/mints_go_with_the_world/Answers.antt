use Rattle.glb_cells.specs.Starts.{setup_from}
use Rattle.glb_cells.proofs.StepLemmas.Counting.{mint_goes}
use Rattle.glb_cells.proofs.laws.mints_go_with_the_world.Goals as goal

pub returns : goal.returns
returns g c = λ key. mint_goes (setup_from g.B.Bag.items g.B.Bag.fits g.P.Program.children key)
