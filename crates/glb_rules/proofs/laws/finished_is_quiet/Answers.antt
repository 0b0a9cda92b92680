use Rattle.glb_rules.proofs.Finish.Quiet.{finished_quiet}
use Rattle.glb_rules.proofs.laws.finished_is_quiet.Goals as goal

pub returns : goal.returns
returns g c = λ s w L z. finished_quiet s w L z
