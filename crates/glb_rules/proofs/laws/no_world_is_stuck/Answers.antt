use Rattle.glb_rules.specs.History.{start}
use Rattle.glb_rules.proofs.Bound.Runs.{run_lawful}
use Rattle.glb_rules.proofs.Invariant.Steps.{run_stop}
use Rattle.glb_rules.proofs.Finish.NoneStuck.{stuck_finished}
use Rattle.glb_rules.proofs.laws.no_world_is_stuck.Goals as goal

pub returns : goal.returns
returns g c = λ children s bags events w P A n r S.
    stuck_finished s w (run_lawful children s bags P A events w r) P P.alone S
    (run_stop children s (start s bags) events w n r)
