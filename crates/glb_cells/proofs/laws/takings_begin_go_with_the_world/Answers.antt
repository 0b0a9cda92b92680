use Rattle.glb_cells.specs.Starts.{setup_from}
use Rattle.glb_cells.proofs.StepLemmas.Giving.{take_goes}
use Rattle.glb_cells.proofs.laws.takings_begin_go_with_the_world.Goals as goal

pub returns : goal.returns
returns g c = λ key s h id e n r at name free may.
    let t = take_goes (setup_from g.B.Bag.items g.B.Bag.fits g.P.Program.children key) s h id e n r
    at name free may in
    (record { part = t.0.part; at_home = t.0.at_home; fits = t.0.fits; some = t.0.some }, t.1)
