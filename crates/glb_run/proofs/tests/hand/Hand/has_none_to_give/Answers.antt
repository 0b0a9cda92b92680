use Rattle.std.proofs.Common.{◌∙◌, inr, refl}
use Rattle.glb_run.proofs.HandFacts.{below_two, has_few, none_of, works_here}
use Rattle.glb_run.proofs.tests.hand.Hand.has_none_to_give.Goals as goal

pub returns-then-is_none : goal.returns-then-is_none
returns-then-is_none g c = λ h.
    let works = c.self.invariant.0.phase_is ∙ c.in-Working.is in
    rw (← c.self.view_is) (
      works_here (g.F.Fabric.kept c.self.inside.fabric) works,
      inr (has_few g.B.Bag.items g.B.Bag.fits _ _ _ _ c.self.invariant.1 _ refl (g.F.Fabric.kept c.self.inside.fabric) c.len.result
          (none_of c.self.inside.part c.if-is_none.ensures) c.len.ensures
          (below_two c.len.result h)),
    )
