use Rattle.glb_core.proofs.Ends.Balanced.{finished_balanced}
use Rattle.glb_core.proofs.laws.finished_counters_balance.Goals as goal

pub returns : goal.returns
returns g c = λ s w L few tries small finished. finished_balanced s w L few tries small finished
