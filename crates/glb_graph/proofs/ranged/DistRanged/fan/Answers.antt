use Rattle.std.proofs.Common.{length, arith}
use Rattle.glb_graph.proofs.ValueFacts.{length-spots}
use Rattle.glb_graph.proofs.ranged.DistRanged.fan.Goals as goal

pub returns-in-Root : goal.returns-in-Root
returns-in-Root c =
    rw c.in-Root.is (omega
    (arith, c.from.ensures, c.vertices.ensures, length-spots (length c.args.self.now.graph.now)))
