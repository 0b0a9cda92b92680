use Rattle.glb_rules.proofs.Bound.Runs.{run_lawful_from}
use Rattle.glb_rules.proofs.laws.histories_are_lawful.Goals as goal

pub returns : goal.returns
returns g c = λ children s bags events w P A r. run_lawful_from children s bags P A events w r
