use Rattle.glb_cells.specs.Starts.{setup_from}
use Rattle.glb_cells.proofs.StepLemmas.Giving.{begin_stays}
use Rattle.glb_cells.proofs.laws.gifts_begin_go_with_the_world.Goals as goal

pub returns : goal.returns
returns g c = λ key. begin_stays (setup_from g.B.Bag.items g.B.Bag.fits g.P.Program.children key)
