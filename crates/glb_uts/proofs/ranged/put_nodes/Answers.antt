use Rattle.std.proofs.Common.{◌+◌, [], ℕ, false, ap, arith, get_or}
use Rattle.std.proofs.lemmas.List.{get_or_default}
use Rattle.glb_uts.specs.declared.node.Node.{Node}
use Rattle.glb_uts.specs.inner.Siblings.{child_of, node_at}
use Rattle.glb_uts.proofs.ChildrenAsked.{one_more_written}
use Rattle.glb_uts.proofs.ranged.put_nodes.Goals as goal

pub nodes-preserved : goal.nodes-preserved
nodes-preserved c =
    let asked = c.args.asked.now in
    let i = c.nodes.i in
    let none : Node × ℕ = (record { descriptor = []; depth = 0; root = false }, 0) in
    let a = get_or asked i none in
    let read = get_or_default asked i none a (omega arith) in
    one_more_written child_of asked c.nodes.into i a _ (omega arith) (omega arith) read
    (ap (node_at (a.0.depth + 1)) (c.requires.descriptors i a (omega arith) read))
    c.nodes.invariant
