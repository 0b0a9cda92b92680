use Rattle.std.proofs.Common.{arith}
use Rattle.glb_uts.specs.inner.Siblings.{child_of}
use Rattle.glb_uts.proofs.ChildrenAsked.{only_written}
use Rattle.glb_uts.proofs.ranged.make_rest.Goals as goal

pub returns-in-1 : goal.returns-in-1
returns-in-1 c =
    only_written child_of c.args.asked.now c.args.into.now _ c.child.result c.in-1.is
    (omega (arith, c.in-1.is)) c.child.ensures
