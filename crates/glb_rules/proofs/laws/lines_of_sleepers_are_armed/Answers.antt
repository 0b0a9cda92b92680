use Rattle.glb_rules.proofs.Finish.Quiet.{held}
use Rattle.glb_rules.proofs.laws.lines_of_sleepers_are_armed.Goals as goal

pub returns : goal.returns
returns g c = λ s w L. held s w L
