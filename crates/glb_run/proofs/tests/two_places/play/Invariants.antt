use Rattle.glb_place.specs.Calls.{SameObject}
use Rattle.glb_run.proofs.tests.two_places.play.Given as goal

abbrev pub invariant-loop-place : goal.invariant-loop-place
invariant-loop-place g l = record {
  first : SameObject g.F.Fabric.program g.F.Fabric.home g.F.Fabric.refuses l.fn.first l.first;
  second : SameObject g.F.Fabric.program g.F.Fabric.home g.F.Fabric.refuses l.fn.second l.second;
}
