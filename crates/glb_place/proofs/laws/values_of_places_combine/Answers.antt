use Rattle.glb_place.specs.Close.{done_of}
use Rattle.glb_place.proofs.Closing.{joined_values}
use Rattle.glb_place.proofs.laws.values_of_places_combine.Goals as goal

pub returns : goal.returns
returns g c = λ program rs value all.
    joined_values g.met.P.Value.Monoid.monoid_laws (g.P.Program.value program)
    (g.met.P.Program.value_proper program)
    done_of value rs g.P.Value.Monoid.unit g.met.P.Value.Monoid.monoid_laws.unit_proper all
