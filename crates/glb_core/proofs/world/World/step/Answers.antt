use Rattle.std.proofs.Common.{ap, ◌∙◌, sym}
use Rattle.glb_core.proofs.world.World.step.Goals as goal

pub returns-clause-step : goal.returns-clause-step
returns-clause-step g c = rw (← c.self.view_is) c.step.ensures.step

pub returns-clause-fault : goal.returns-clause-fault
returns-clause-fault g c = rw (← c.self.view_is) c.step.ensures.fault

pub invariant_of-self : goal.invariant_of-self
invariant_of-self g c =
    (c.step.ensures.sound, c.self.invariant.1 ∙ ap (λ l. l.places) (sym c.step.ensures.graph))
