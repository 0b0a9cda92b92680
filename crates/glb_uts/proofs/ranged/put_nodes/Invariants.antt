use Rattle.std.proofs.Common.{◌≡◌, map, take}
use Rattle.glb_uts.specs.inner.Siblings.{child_of}
use Rattle.glb_uts.proofs.ranged.put_nodes.Given as goal

abbrev pub invariant-nodes : goal.invariant-nodes
invariant-nodes l = take l.i l.into ≡ map child_of (take l.i l.asked)
