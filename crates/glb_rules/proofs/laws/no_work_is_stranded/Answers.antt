use Rattle.glb_rules.specs.History.{start}
use Rattle.glb_rules.proofs.Bound.Runs.{run_lawful}
use Rattle.glb_rules.proofs.Invariant.Steps.{run_stop}
use Rattle.glb_rules.proofs.Finish.Sleepers.{awaits}
use Rattle.glb_rules.proofs.laws.no_work_is_stranded.Goals as goal

pub returns : goal.returns
returns g c = λ children s bags events w P C A n r b a.
    awaits s w (run_lawful children s bags P A events w r) C
    (run_stop children s (start s bags) events w n r) a.0 b.0 a.1 b.1 a.2 b.2
