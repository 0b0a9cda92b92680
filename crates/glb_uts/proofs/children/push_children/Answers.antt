use Rattle.std.proofs.Common.{◌*◌, arith}
use Rattle.glb_uts.specs.Binomial.{child}
use Rattle.glb_uts.proofs.ChildrenInARow.{rows_appended}
use Rattle.glb_uts.proofs.children.push_children.Goals as goal

pub eights-preserved : goal.eights-preserved
eights-preserved c = record {
  pushed = rows_appended (child c.args.node.now) _ _ _ 0 (8 * c.eights.group)
      (8 * c.eights.group) 8 _
      (omega arith) (omega arith) c.eights.invariant.pushed c.push_eight.ensures.items;
  room = omega
      (arith, c.eights.invariant.room, c.push_eight.ensures.len, c.push_eight.ensures.capacity);
}

pub returns-clause-appended : goal.returns-clause-appended
returns-clause-appended c =
    rows_appended (child c.args.node.now) _ _ _ 0 (8 * c.eights.group) _ _ c.args.fan (omega arith)
    (omega arith)
    c.eights.invariant.pushed c.push_rest.ensures
