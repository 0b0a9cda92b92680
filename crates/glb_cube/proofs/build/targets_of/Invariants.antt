use Rattle.std.proofs.Common.{◌≡◌, ◌-◌, ◌^◌, ◌++◌}
use Rattle.glb_cube.specs.Digits.{targets}
use Rattle.glb_cube.proofs.build.targets_of.Given as goal

abbrev pub invariant-loop-i : goal.invariant-loop-i
invariant-loop-i l = record {
  unit : l.unit ≡ l.shape.base ^ l._i;
  left : l.out.items ++ targets l.shape.places l.shape.base l.unit (l.shape.dimension - l._i) l.place ≡
      targets l.shape.places l.shape.base 1 l.shape.dimension l.place;
}
