use Rattle.std.proofs.Common.{◌≡◌, All, map, subst, sym}
use Rattle.glb_run.proofs.CellFacts.{stands_first, stands_programs}
use Rattle.glb_run.proofs.tests.spare.play_over.Goals as goal

pub places_of-requires-clause-first : goal.places_of-requires-clause-first
places_of-requires-clause-first g c =
    stands_first c.args.cells.now c.args.program.now c.args.params.now c.args.lines.now
    (map g.B.Bag.items c.args.bags.items) c.args.berths.items c.requires.first (λ s. s.cells.now)
    (λ s. s.berth) c.in_ok-stands.stands.items c.in_ok-stands.ensures.cells
    c.in_ok-stands.ensures.berths

pub tally_of-requires-clause-programs : goal.tally_of-requires-clause-programs
tally_of-requires-clause-programs g c =
    subst (All (λ s. c.args.program.now ≡ s.cells.now.program)) (sym c.in_ok-places.ensures)
    (stands_programs c.args.cells.now c.args.program.now c.args.params.now c.args.lines.now
    (map g.B.Bag.items c.args.bags.items) c.args.berths.items c.requires.first (λ s. s.cells.now)
    (λ s. s.berth) c.in_ok-stands.stands.items c.in_ok-stands.ensures.cells
    c.in_ok-stands.ensures.berths)
