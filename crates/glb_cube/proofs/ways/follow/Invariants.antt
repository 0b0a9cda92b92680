use Rattle.std.proofs.Common.{◌≡◌, ◌<◌, ◌-◌, ◌++◌}
use Rattle.glb_cube.specs.Ways.{walk, last_of}
use Rattle.glb_cube.proofs.ways.follow.Given as goal

abbrev pub invariant-loop-i : goal.invariant-loop-i
invariant-loop-i l = record {
  small : l.reached < l.shape.places;
  left : l.way.items ++ walk l.shape.places l.shape.base l.unit l.goal l.reached (l.shape.base - l._i) ≡
      l.initial.way.items ++ walk l.shape.places l.shape.base l.unit l.goal l.place l.shape.base;
  last : last_of l.reached
      (walk l.shape.places l.shape.base l.unit l.goal l.reached (l.shape.base - l._i)) ≡ last_of l.place
      (walk l.shape.places l.shape.base l.unit l.goal l.place l.shape.base);
}
