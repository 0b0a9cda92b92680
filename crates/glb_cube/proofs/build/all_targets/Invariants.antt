use Rattle.std.proofs.Common.{◌≡◌, map}
use Rattle.std.specs.List.{range_with_len}
use Rattle.glb_cube.specs.Digits.{targets}
use Rattle.glb_cube.proofs.build.all_targets.Given as goal

abbrev pub invariant-loop-place : goal.invariant-loop-place
invariant-loop-place l =
    record {
      made : map (λ w. w.items) l.all.items ≡ map
          (λ p. targets l.shape.places l.shape.base 1 l.shape.dimension p) (range_with_len 0 l.place);
    }
