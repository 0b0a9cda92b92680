use Rattle.std.proofs.Common.{◌++◌}
use Rattle.std.proofs.Common.{◌-◌, ◌∙◌, ap, refl, sym}
use Rattle.glb_run.proofs.HandFacts.{after_take, carries_beside, carries_taken, none_of}
use Rattle.glb_run.proofs.tests.hand.Hand.take.Goals as goal

pub invariant_of-self : goal.invariant_of-self
invariant_of-self g c = (
  after_take _ _ _ _ _ _ _ _ _ c.self.invariant.0 (1 - c.self.inside.place) refl _ (g.B.Bag.items c.take-part.result) _ _
      c.take-part.ensures.kept c.after_take-self-inside.ensures,
  carries_taken g.B.Bag.items g.B.Bag.fits _ _ _ _ c.self.invariant.1 _ c.take-part.ensures.same.program_stays _ (g.B.Bag.items c.take-part.result)
      c.merge.new.self (none_of c.self.inside.part (sym c.if-is_some.ensures)) c.in-Ok.ensures.merged
      (c.merge.ensures.fits.kept _ c.self.invariant.1.bag_fits)
      (ap (λ r. r.local.bag) c.take-part.ensures.kept),
)

pub invariant_of-self-in-Err : goal.invariant_of-self-in-Err
invariant_of-self-in-Err g c =
    let same = c.in-Err.ensures.refused in (
      after_take _ _ _ _ _ _ _ _ _ c.self.invariant.0 (1 - c.self.inside.place) refl _ (g.B.Bag.items c.take-part.result) _ _
          c.take-part.ensures.kept c.after_take-self-inside.ensures,
      carries_beside g.B.Bag.items g.B.Bag.fits _ _ _ _ c.self.invariant.1 _ c.take-part.ensures.same.program_stays _ c.in-Err.part c.merge.new.self
          (none_of c.self.inside.part (sym c.if-is_some.ensures)) same.1 (c.merge.ensures.fits.kept _ c.self.invariant.1.bag_fits)
          (c.in-Err.ensures.other_fits.kept _ c.take-part.ensures.fits)
          (ap (λ r. r.local.bag) c.take-part.ensures.kept
          ∙ ap (λ xs. xs ++ (g.F.Fabric.kept c.self.inside.fabric).local.bag) (sym same.0)),
    )
