use Rattle.glb_core.proofs.Lifelines.Setups.{proper, connected}
use Rattle.glb_core.proofs.laws.lifelines_give_a_setup.Goals as goal

pub returns-clause-proper : goal.returns-clause-proper
returns-clause-proper c = λ d q awake i l e. proper d q awake i e l.batch.0

pub returns-clause-connected : goal.returns-clause-connected
returns-clause-connected c = λ d q awake i. connected d q awake i
