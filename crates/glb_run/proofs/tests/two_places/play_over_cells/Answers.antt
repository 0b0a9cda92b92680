use Rattle.std.proofs.Common.{map, refl, subst, sym}
use Rattle.glb_cells.specs.Berths.{AreBerthsOf}
use Rattle.glb_run.specs.inner.Hands.{two_params, two_places}
use Rattle.glb_run.proofs.CellFacts.{berths_again, stands_first}
use Rattle.glb_run.proofs.tests.two_places.play_over_cells.Goals as goal

pub play_two-requires-clause-first : goal.play_two-requires-clause-first
play_two-requires-clause-first g c =
    stands_first c.args.cells.now c.args.program.now two_params two_places
    (map g.B.Bag.items c.args.bags.items) c.args.berths.items c.requires.first (λ s. s.cells.now)
    (λ s. s.berth) c.in_ok-stands.stands.items c.in_ok-stands.ensures.cells
    c.in_ok-stands.ensures.berths

pub returns : goal.returns
returns g c =
    subst (AreBerthsOf c.args.cells.now) (sym c.in_ok-berths_of.ensures.berths)
    (berths_again c.args.cells.now c.args.program.now two_params two_places
    (map g.B.Bag.items c.args.bags.items) c.args.berths.items c.requires.first (λ s. s.cells.now)
    (λ s. s.berth) c.in_ok-stands.stands.items c.in_ok-stands.ensures.cells
    c.in_ok-stands.ensures.berths _ _ _ (λ h. h.0) (λ h. h.1) (λ s. refl) (λ s. refl)
    c.in_ok-stands-2.stands.items c.in_ok-stands-2.ensures
    c.in_ok-berths_of.ensures.here)
