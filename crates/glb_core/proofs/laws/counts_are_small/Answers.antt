use Rattle.glb_core.proofs.Ends.Counts.{counts_small}
use Rattle.glb_core.proofs.laws.counts_are_small.Goals as goal

pub returns : goal.returns
returns g c = λ s w p L few tries small l. counts_small s w L few tries small p l
