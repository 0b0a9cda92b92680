use Rattle.std.proofs.Common.{◌≡◌, drop}
use Rattle.glb_laws.specs.Numbers.{has_number}
use Rattle.glb_cube.specs.Lines.{outs_of}
use Rattle.glb_core.proofs.world.conditions.is_line.Given as goal

abbrev pub invariant-loop-target : goal.invariant-loop-target
invariant-loop-target l =
    record {
      left : has_number l.victim (drop l.target-index l.target-items) ≡ has_number l.victim
          (outs_of l.lines l.thief);
    }
