use Rattle.std.proofs.Common.{◌≡◌}
use Rattle.glb_cube.specs.Lines.{cube_of, ins_below}
use Rattle.glb_cube.proofs.build.sources_of.Given as goal

abbrev pub invariant-loop-p : goal.invariant-loop-p
invariant-loop-p l =
    record {
      made : l.ins.items ≡ ins_below
          (cube_of l.fn.shape.places l.fn.shape.base l.fn.shape.dimension) l.place l.p;
    }
