use Rattle.std.proofs.Common.{arith}
use Rattle.glb_graph.proofs.VerticesByNumber.{child_at, children_within}
use Rattle.glb_graph.proofs.ranged.DistRanged.child.Goals as goal

pub overflow_cast-result : goal.overflow_cast-result
overflow_cast-result c =
    omega (
      arith,
      c.requires,
      c.vertices-vertices.ensures,
      children_within c.args.self.now.graph.now c.args._item.now,
    )

pub returns : goal.returns
returns c = child_at c.args.self.now.graph.now c.args._item.now c.args.number c.requires
