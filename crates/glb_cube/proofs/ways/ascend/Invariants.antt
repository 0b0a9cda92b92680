use Rattle.std.proofs.Common.{◌≡◌, ◌<◌, ◌-◌, ◌^◌, ◌++◌}
use Rattle.glb_cube.specs.Ways.{ascent, last_of}
use Rattle.glb_cube.proofs.ways.ascend.Given as goal

abbrev pub invariant-loop-i : goal.invariant-loop-i
invariant-loop-i l = record {
  unit : l.unit ≡ l.shape.base ^ l._i;
  small : l.reached < l.shape.places;
  left : l.way.items ++ ascent l.shape.places l.shape.base l.b l.unit (l.shape.dimension - l._i) l.reached
      ≡ l.initial.way.items ++ ascent l.shape.places l.shape.base l.b 1 l.shape.dimension l.place;
  last : last_of l.reached
      (ascent l.shape.places l.shape.base l.b l.unit (l.shape.dimension - l._i) l.reached) ≡ last_of
      l.place (ascent l.shape.places l.shape.base l.b 1 l.shape.dimension l.place);
}
