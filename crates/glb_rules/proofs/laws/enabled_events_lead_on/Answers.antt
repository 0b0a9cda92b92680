use Rattle.glb_rules.proofs.Invariant.Enabled.{enabled_steps, enabled_there}
use Rattle.glb_rules.proofs.laws.enabled_events_lead_on.Goals as goal

pub returns-clause-step : goal.returns-clause-step
returns-clause-step g c = λ children s w e P L r en. enabled_steps children s w P L e r en

pub returns-clause-edge : goal.returns-clause-edge
returns-clause-edge g c = λ s w e L r en. enabled_there s w L e r en
