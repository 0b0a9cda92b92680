use Rattle.std.proofs.Common.{vec_len}
use Rattle.glb_core.proofs.Start.Filled.{Filled}
use Rattle.glb_core.proofs.world.start.fill.Given as goal

abbrev pub invariant-loop-bag : goal.invariant-loop-bag
invariant-loop-bag g l =
    record { made : Filled g.B.Bag.items l.fn.bags.items l.fn.place_rows.items l.bags.items l.place_rows.items }

abbrev pub decreases-loop-bag : goal.decreases-loop-bag
decreases-loop-bag g l = vec_len l.bags
