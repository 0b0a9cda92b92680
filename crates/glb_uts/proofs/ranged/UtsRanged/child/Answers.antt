use Rattle.std.proofs.Common.{Some, ◌∙◌, ap, sym, arith}
use Rattle.glb_uts.proofs.TreeTotals.{length-children}
use Rattle.glb_uts.proofs.ChildrenAsked.{child_at, depth_of_parent}
use Rattle.glb_uts.proofs.ranged.UtsRanged.child.Goals as goal

pub overflow_cast-number : goal.overflow_cast-number
overflow_cast-number c =
    omega
    (arith, c.requires, c.fan_of-fan.ensures, length-children c.args.self.now c.args.node.now)

pub child-requires : goal.child-requires
child-requires c =
    let width = length-children c.args.self.now c.args.node.now in
    let top =
    depth_of_parent c.args.self.now c.args.node.now (omega (arith, c.requires, width)) in
    omega (arith, top)

pub returns : goal.returns
returns c =
    child_at c.args.self.now c.args.node.now c.args.number c.requires
    ∙ sym (ap Some c.child.ensures)
