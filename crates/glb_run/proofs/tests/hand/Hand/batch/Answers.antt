use Rattle.std.proofs.Common.{◌-◌, ◌∙◌, ap, arith, refl, subst, sym}
use Rattle.glb_run.proofs.HandFacts.{batch_moves, carries_again, has_few, may_batch, none_of, nothing_moved}
use Rattle.glb_run.proofs.tests.hand.Hand.batch.Goals as goal

pub invariant_of-self : goal.invariant_of-self
invariant_of-self g c = (
  c.self.invariant.0,
  carries_again g.B.Bag.items g.B.Bag.fits _ _ _ _ c.self.invariant.1 _ refl (g.F.Fabric.kept c.self.inside.fabric) c.expand_one-done.new.bag
      (none_of c.self.inside.part (sym c.if-is_some.ensures))
      (nothing_moved _ _ _ _ _ _ _ _ c.expand_one-done.ensures.moves c.if-done-eq0.true)
      (subst (g.B.Bag.fits c.expand_one-done.new.bag)
      (c.requires ∙ ap g.F.Fabric.program (sym c.self.view_is)) c.expand_one-done.ensures.fits)
      refl,
)

pub settle-self-inside-requires-clause-may : goal.settle-self-inside-requires-clause-may
settle-self-inside-requires-clause-may g c =
    may_batch _ _ _ _ _ _ _ _ _ c.self.invariant.0 (1 - c.self.inside.place) refl
    c.in-Working-One-Clear-Clear.is-0 c.in-Working-One-Clear-Clear.is-1
    c.in-Working-One-Clear-Clear.is-2 c.in-Working-One-Clear-Clear.is-3
    (has_few g.B.Bag.items g.B.Bag.fits _ _ _ _ c.self.invariant.1 _ refl (g.F.Fabric.kept c.self.inside.fabric) c.len.result
    (none_of c.self.inside.part (sym c.if-is_some.ensures)) c.len.ensures (omega (arith, c.if-len-gt1.false)))

pub settle-self-inside-requires-clause-moves : goal.settle-self-inside-requires-clause-moves
settle-self-inside-requires-clause-moves g c =
    let moves =
    rw (c.unit-gain.ensures, c.requires, ← c.self.view_is) at c.expand_one-done.ensures.moves
    in
    batch_moves g.B.Bag.items g.B.Bag.fits _ _ _ _ c.self.invariant.1 _ refl (g.F.Fabric.kept c.self.inside.fabric)
    (none_of c.self.inside.part (sym c.if-is_some.ensures)) _ _ _ _ _ _ _ moves
