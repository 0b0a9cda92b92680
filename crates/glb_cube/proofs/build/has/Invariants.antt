use Rattle.std.proofs.Common.{◌≡◌, drop}
use Rattle.glb_laws.specs.Numbers.{has_number}
use Rattle.glb_cube.proofs.build.has.Given as goal

abbrev pub invariant-loop-x : goal.invariant-loop-x
invariant-loop-x l =
    record { left : has_number l.number (drop l.x-index l.list) ≡ has_number l.number l.list }
