use Rattle.std.proofs.Common.{◌++◌, ap, ◌∙◌, arith}
use Rattle.glb_uts.proofs.ChildrenInARow.{children_by_descriptor}
use Rattle.glb_uts.proofs.children.push_eight.Goals as goal

pub returns-clause-items : goal.returns-clause-items
returns-clause-items c =
    c.push_nodes.ensures.items
    ∙ ap (λ l. c.args.out.now.items ++ l)
    (children_by_descriptor c.args.node.now c.args.first 8 _
    (omega arith) c.children-descriptors.ensures)
