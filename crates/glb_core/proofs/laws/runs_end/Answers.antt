use Rattle.glb_core.proofs.Ends.Runs.{runs_end}
use Rattle.glb_core.proofs.laws.runs_end.Goals as goal

pub returns : goal.returns
returns g c = λ children s bags most worlds P A small first R.
    runs_end children s bags P A most small worlds first R
