use Rattle.glb_place.specs.Calls.{SameObject}
use Rattle.glb_place.proofs.place.Place.work.Given as goal

abbrev pub invariant-loop : goal.invariant-loop
invariant-loop g l = SameObject g.F.Fabric.program g.F.Fabric.home g.F.Fabric.refuses
    l.fn.self.fabric l.self.fabric
