use Rattle.std.proofs.Common.{arith}
use Rattle.glb_cube.proofs.UnitFacts.{power_one}
use Rattle.glb_cube.proofs.shape.dimension_of.Goals as goal

pub loop-power-init : goal.loop-power-init
loop-power-init c =
    record {
      power = power_one c.args.base;
      some = omega arith;
      short = omega (arith, c.requires.base.0);
      less = λ d a b. absurd (omega arith);
    }
