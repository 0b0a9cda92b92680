use Rattle.std.proofs.Common.{ap, refl}
use Rattle.glb_run.proofs.HandFacts.{own_out, after_look_out, carries_as}
use Rattle.glb_run.proofs.tests.hand.Hand.look_out.Goals as goal

pub look-found-requires : goal.look-found-requires
look-found-requires g c = record { own = own_out _ _ _ _ _ _ _ _ _ c.self.invariant.0 _ refl }

pub invariant_of-self : goal.invariant_of-self
invariant_of-self g c = (
  after_look_out _ _ _ _ _ _ _ _ _ c.self.invariant.0 _ refl _ _ c.look-found.ensures.kept,
  carries_as g.B.Bag.items g.B.Bag.fits _ _ _ _ c.self.invariant.1 _
      c.look-found.ensures.same.program_stays _
      (ap (λ r. r.local.bag) c.look-found.ensures.kept),
)
