use Rattle.glb_cells.proofs.EndLemmas.Histories.{ends_history}
use Rattle.glb_cells.proofs.laws.closed_runs_end_histories.Goals as goal

pub returns : goal.returns
returns g c = λ program s bags items stop rs answer last gone is.
    ends_history (g.P.Program.children program) (g.P.Program.value program) g.P.Value.Monoid.combine
    g.P.Value.Monoid.unit s bags items stop rs answer last gone is
