use Rattle.glb_rules.proofs.Bound.Runs.{run_bounded}
use Rattle.glb_core.proofs.Ends.Runs.{run_bounded_on}
use Rattle.glb_core.proofs.laws.histories_are_bounded.Goals as goal

pub returns-clause-done : goal.returns-clause-done
returns-clause-done g c = λ children s bags events w P A n r. run_bounded children s bags P A events w n r

pub returns-clause-nodes : goal.returns-clause-nodes
returns-clause-nodes g c = λ children s bags most events w P A small n r.
    run_bounded_on children s bags P A most small events w n r
