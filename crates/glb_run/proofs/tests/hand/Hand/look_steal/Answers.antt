use Rattle.glb_rules.specs.declared.kinds.Kind.TheVariants as kind
use Rattle.std.proofs.Common.{◌-◌, ◌∙◌, ap, refl}
use Rattle.glb_run.proofs.HandFacts.{own_steal, after_look_steal, carries_as, look_bag}
use Rattle.glb_run.proofs.tests.hand.Hand.look_steal.Goals as goal

pub look-found-requires : goal.look-found-requires
look-found-requires g c = record { own = own_steal _ _ _ _ _ _ _ _ _ c.self.invariant.0 _ refl }

pub invariant_of-self : goal.invariant_of-self
invariant_of-self g c = (
  after_look_steal _ _ _ _ _ _ _ _ _ c.self.invariant.0 _ refl _ _ c.look-found.ensures.kept _
      c.mark_seen-self-inside.ensures,
  carries_as g.B.Bag.items g.B.Bag.fits _ _ _ _ c.self.invariant.1 _ c.look-found.ensures.same.program_stays _
      (ap (λ r. r.local.bag) c.look-found.ensures.kept
      ∙ look_bag (g.F.Fabric.kept c.self.inside.fabric) (1 - c.self.inside.place) kind.Steal c.look-found.result),
)
