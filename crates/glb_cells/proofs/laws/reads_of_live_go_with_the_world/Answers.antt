use Rattle.glb_cells.specs.Starts.{setup_from}
use Rattle.glb_cells.proofs.StepLemmas.Followed.{over_follows}
use Rattle.glb_cells.proofs.laws.reads_of_live_go_with_the_world.Goals as goal

pub returns : goal.returns
returns g c = λ key. over_follows (setup_from g.B.Bag.items g.B.Bag.fits g.P.Program.children key)
