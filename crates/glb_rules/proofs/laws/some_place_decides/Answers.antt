use Rattle.glb_rules.specs.History.{start}
use Rattle.glb_rules.proofs.Invariant.Start.{start_lawful}
use Rattle.glb_rules.proofs.Invariant.Steps.{run_stop}
use Rattle.glb_rules.proofs.Decisions.Runs.{start_led, decided_run, decided_run_halts_not}
use Rattle.glb_rules.proofs.Decisions.Runs.{decided_run_led, some_decision}
use Rattle.glb_rules.proofs.laws.some_place_decides.Goals as goal

pub returns : goal.returns
returns g c = λ children s seed bags events w P A r alive.
    let b = start s bags in
    let L = decided_run_led children s seed P b events w (start_lawful s bags A) (start_led s bags) r in
    let z = run_stop children s b events w (decided_run_halts_not children s seed b events w r)
    (decided_run children s seed b events w r) in
    let d = some_decision seed s w P L.0 L.1 z alive in
    (d.3.0, (d.0, d.1, d.2, d.3.1))
