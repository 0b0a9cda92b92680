use Rattle.std.proofs.Common.{◌≡◌, map}
use Rattle.std.specs.List.{range_with_len}
use Rattle.glb_cube.specs.Lines.{cube_of, ins_of}
use Rattle.glb_cube.proofs.build.all_sources.Given as goal

abbrev pub invariant-loop-place : goal.invariant-loop-place
invariant-loop-place l =
    record {
      made : map (λ w. w.items) l.all.items ≡ map
          (λ p. ins_of (cube_of l.shape.places l.shape.base l.shape.dimension) p) (range_with_len 0 l.place);
    }
