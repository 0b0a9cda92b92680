use Rattle.glb_cells.specs.Starts.{setup_from}
use Rattle.glb_cells.proofs.StepLemmas.Followed.{shrug_follows}
use Rattle.glb_cells.proofs.laws.line_shrugs_go_with_the_world.Goals as goal

pub returns : goal.returns
returns g c = λ key. shrug_follows (setup_from g.B.Bag.items g.B.Bag.fits g.P.Program.children key)
