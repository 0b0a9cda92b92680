use Rattle.glb_rules.specs.History.{start}
use Rattle.glb_rules.proofs.Invariant.Start.{start_lawful}
use Rattle.glb_rules.proofs.Decisions.Runs.{start_led, decided_run_led, minted_sees}
use Rattle.glb_rules.proofs.laws.minted_places_see_requests.Goals as goal

pub returns-clause-knows : goal.returns-clause-knows
returns-clause-knows g c = λ children s seed bags events w P A r.
    (decided_run_led children s seed P (start s bags) events w (start_lawful s bags A) (start_led s bags) r).1

pub returns-clause-sees : goal.returns-clause-sees
returns-clause-sees g c = λ children s seed bags events w p P A r l here.
    let L = decided_run_led children s seed P (start s bags) events w (start_lawful s bags A)
    (start_led s bags) r in
    minted_sees seed s w P L.0 L.1 p l here
