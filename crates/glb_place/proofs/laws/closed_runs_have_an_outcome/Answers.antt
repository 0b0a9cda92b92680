use Rattle.glb_place.proofs.Closing.{closed_ok, closed_too_many}
use Rattle.glb_place.proofs.laws.closed_runs_have_an_outcome.Goals as goal

pub returns-clause-outcome : goal.returns-clause-outcome
returns-clause-outcome g c = λ program degrees awake limit roots rs live items stop value closes
    gone n h e.
    closed_ok g.met.P.Value.Monoid.monoid_laws _ (g.met.P.Program.value_proper program)
    _ degrees awake limit roots
    rs live items stop closes gone n h value e

pub returns-clause-too_many : goal.returns-clause-too_many
returns-clause-too_many g c = λ program degrees awake limit roots rs live items stop closes h small.
    closed_too_many g.met.P.Value.Monoid.monoid_laws _ (g.met.P.Program.value_proper program)
    _ degrees awake limit
    roots rs live items stop closes h small
