use Rattle.glb_place.specs.Calls.{SameObject}
use Rattle.glb_run.proofs.beside.work_beside.Given as goal

abbrev pub invariant-loop : goal.invariant-loop
invariant-loop g l = SameObject g.F.Fabric.program g.F.Fabric.home g.F.Fabric.refuses
    l.fn.place.fabric l.place.fabric
