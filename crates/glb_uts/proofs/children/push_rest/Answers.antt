use Rattle.std.proofs.Common.{arith}
use Rattle.glb_uts.specs.Binomial.{child}
use Rattle.glb_uts.proofs.ChildrenInARow.{rows_appended}
use Rattle.glb_uts.proofs.children.push_rest.Goals as goal

pub returns-else-rest-le4 : goal.returns-else-rest-le4
returns-else-rest-le4 c =
    rows_appended (child c.args.node.now) _ _ _ c.args.first 4 _ _ c.args.rest (omega arith)
    (omega arith)
    c.push_four-else-rest-le4.ensures.items c.push_four-else-rest-le4-2.ensures.items
