use Rattle.std.proofs.Common.{ap, arith, length}
use Rattle.glb_bags.proofs.range_bag.RangeBagBag.len.Goals as goal

pub returns : goal.returns
returns g c = omega (arith, c.self.invariant.1, ap (λ v. length v.1) c.self.view_is)
