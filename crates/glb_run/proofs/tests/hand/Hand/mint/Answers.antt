use Rattle.std.proofs.Common.{rules, ◌-◌, ap, refl, sym}
use Rattle.glb_run.proofs.HandFacts.{after_mint, carries_split, had_two, may_mint, none_of}
use Rattle.glb_run.proofs.tests.hand.Hand.mint.Goals as goal

pub mint-requires : goal.mint-requires
mint-requires g c =
    let same = rw c.in-Ok-Some.field-0-is at c.in-Ok-Some.ensures.same in
    let halves = rw c.in-Ok-Some.field-0-is at c.in-Ok-Some.ensures.halves in
    record {
      may = may_mint _ _ _ _ _ _ _ _ _ c.self.invariant.0 (1 - c.self.inside.place) refl c.in-Working-One.is-0 c.in-Working-One.is-1
          (search rules)
          (had_two g.B.Bag.items g.B.Bag.fits _ _ _ _ c.self.invariant.1 _ refl (g.F.Fabric.kept c.self.inside.fabric) (g.B.Bag.items c.in-Ok-Some.part)
          (g.B.Bag.items c.split.new.self) (none_of c.self.inside.part (sym c.if-is_some.ensures)) same halves.0 halves.1);
    }

pub invariant_of-self : goal.invariant_of-self
invariant_of-self g c =
    let same = rw c.in-Ok-Some.field-0-is at c.in-Ok-Some.ensures.same in
    let part_fits = rw c.in-Ok-Some.field-0-is at c.in-Ok-Some.ensures.part_fits in
    let fits = c.self.invariant.1.bag_fits in (
      after_mint _ _ _ _ _ _ _ _ _ c.self.invariant.0 (1 - c.self.inside.place) refl _ c.mint.ensures.kept,
      carries_split g.B.Bag.items g.B.Bag.fits _ _ _ _ c.self.invariant.1 _ c.mint.ensures.same.program_stays _ c.in-Ok-Some.part c.split.new.self
          (none_of c.self.inside.part (sym c.if-is_some.ensures)) same (c.split.ensures.fits.kept _ fits) (part_fits.kept _ fits)
          (ap (λ r. r.local.bag) c.mint.ensures.kept),
    )
