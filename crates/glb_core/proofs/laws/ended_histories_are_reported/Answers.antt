use Rattle.glb_core.proofs.Ends.Reported.{places_report}
use Rattle.glb_core.proofs.laws.ended_histories_are_reported.Goals as goal

pub returns : goal.returns
returns g c = λ program cube q roots bags items answer counters limits graph same E within.
    places_report (g.P.Program.children program) (g.P.Program.value program)
    g.met.P.Value.Monoid.monoid_laws (g.met.P.Program.value_proper program) cube q roots bags limits graph
    same items answer counters E within
