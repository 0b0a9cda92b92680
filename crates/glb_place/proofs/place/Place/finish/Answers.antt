use Rattle.glb_place.proofs.HoldsFacts.{holds_of_place}
use Rattle.glb_place.proofs.place.Place.finish.Goals as goal

pub returns-clause-carried : goal.returns-clause-carried
returns-clause-carried g c =
    rw c.into_inner-fabric.ensures
    (holds_of_place g.B.Bag.items g.B.Bag.fits g.P.Program.value g.P.Value.Monoid.unit
    g.P.Value.Monoid.combine g.F.Fabric.program g.F.Fabric.kept c.self.inside.ended _
    c.self.invariant).carried
