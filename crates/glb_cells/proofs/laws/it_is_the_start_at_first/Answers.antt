use Rattle.glb_cells.specs.Starts.{setup_from}
use Rattle.glb_cells.proofs.StepLemmas.Unique.{at_start}
use Rattle.glb_cells.proofs.laws.it_is_the_start_at_first.Goals as goal

pub returns : goal.returns
returns g c = λ key. at_start (setup_from g.B.Bag.items g.B.Bag.fits g.P.Program.children key)
