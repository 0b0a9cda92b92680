use Rattle.glb_rules.specs.Sight.{sight_at, state_at}
use Rattle.glb_rules.proofs.Decisions.Sights.{sees}
use Rattle.glb_rules.proofs.Decisions.Events.{decided}
use Rattle.glb_rules.proofs.laws.decisions_are_enabled.Goals as goal

pub returns : goal.returns
returns g c = λ seed s w e P L d.
    let r = decided s w d.0 L d.1 d.2 (state_at seed s w d.0) (sight_at s w d.0)
    (sees seed s w d.0 P L d.1) e d.3 in (r.0, r.1)
