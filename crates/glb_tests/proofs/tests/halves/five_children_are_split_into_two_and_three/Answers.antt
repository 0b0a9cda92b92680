use Rattle.std.proofs.Common.{◌≡◌, List, subst}
use Rattle.std.specs.Prelude.{IfSome, Option}
use Rattle.glb_laws.specs.Bag.{KeepsFit}
use Rattle.glb_uts.specs.declared.node.Node.{Node}
use Rattle.glb_tests.specs.declared.tests.halves.FirstBytes.{FirstBytes}
use Rattle.glb_tests.proofs.tests.halves.five_children_are_split_into_two_and_three.Goals as goal

pub are_taken-requires : goal.are_taken-requires
are_taken-requires g c =
    (subst (λ (o : Option (FirstBytes × List Node)). IfSome o (λ part. KeepsFit
    (λ p. c.in_ok-bag.bag.0 ≡ p) (λ p. part.0 ≡ p)))
    c.in-Some.is c.in_ok-part.ensures.part_fits).kept _ c.in_ok-bag.ensures
