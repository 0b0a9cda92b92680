use Rattle.std.proofs.Common.{arith}
use Rattle.glb_uts.proofs.TreeTotals.{length-children}
use Rattle.glb_uts.proofs.ranged.UtsRanged.fan.Goals as goal

pub returns : goal.returns
returns c = omega (arith, c.fan_of.ensures, length-children c.args.self.now c.args.node.now)
