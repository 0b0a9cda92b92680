use Rattle.glb_place.specs.Calls.{SameObject}
use Rattle.glb_run.proofs.tests.two_places.await_answer.Given as goal

abbrev pub invariant-loop : goal.invariant-loop
invariant-loop g l = record {
  same : SameObject g.F.Fabric.program g.F.Fabric.home g.F.Fabric.refuses l.fn.hand l.hand;
}
