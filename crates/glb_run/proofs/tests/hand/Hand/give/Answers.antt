use Rattle.std.proofs.Common.{◌-◌, ◌∙◌, ap, refl, sym}
use Rattle.glb_run.proofs.HandFacts.{after_give, carries_given}
use Rattle.glb_run.proofs.tests.hand.Hand.give.Goals as goal

pub invariant_of-self-2 : goal.invariant_of-self-2
invariant_of-self-2 g c =
    let gave = c.in-Ok.ensures.kept in (
      after_give _ _ _ _ _ _ _ _ _ c.self.invariant.0 (1 - c.self.inside.place) refl _ (g.B.Bag.items c.in-Some.part) gave.0 gave.3,
      rw c.take.ensures.after
          (carries_given g.B.Bag.items g.B.Bag.fits _ _ _ _ c.self.invariant.1 _ c.in-Ok.ensures.same.program_stays _ c.in-Some.part gave.0
          (sym c.take.ensures.value ∙ c.in-Some.is) gave.1 (ap (λ r. r.local.bag) gave.3)),
    )
