use Rattle.std.proofs.Common.{◌≡◌, ◌*◌, map, take}
use Rattle.glb_uts.specs.inner.Siblings.{child_of}
use Rattle.glb_uts.proofs.ranged.make_all.Given as goal

abbrev pub invariant-groups : goal.invariant-groups
invariant-groups l = take (8 * l.group) l.into ≡ map child_of (take (8 * l.group) l.asked)
