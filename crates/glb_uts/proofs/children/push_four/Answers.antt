use Rattle.std.proofs.Common.{◌++◌, [], ap, ◌∙◌, arith}
use Rattle.std.proofs.lemmas.List.{get_or-take, length-take-le}
use Rattle.glb_uts.proofs.ChildrenInARow.{children_by_descriptor}
use Rattle.glb_uts.proofs.children.push_four.Goals as goal

pub returns-clause-items : goal.returns-clause-items
returns-clause-items c =
    c.push_nodes.ensures.items
    ∙ ap (λ l. c.args.out.now.items ++ l)
    (children_by_descriptor c.args.node.now c.args.first c.args.count _
    (length-take-le c.args.count c.children-descriptors.result (omega arith))
    (λ j lt. get_or-take c.args.count c.children-descriptors.result j [] lt
    ∙ c.children-descriptors.ensures j (omega arith)))
