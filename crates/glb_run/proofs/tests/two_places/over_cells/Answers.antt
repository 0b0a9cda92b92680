use Rattle.std.proofs.Common.{◌∙◌, ap, map}
use Rattle.glb_cube.specs.Lines.{Cube}
use Rattle.glb_run.specs.inner.Hands.{two_params, two_places}
use Rattle.glb_run.proofs.CellFacts.{first_berths}
use Rattle.glb_run.proofs.tests.two_places.over_cells.Goals as goal

pub play_over_cells-requires-clause-first : goal.play_over_cells-requires-clause-first
play_over_cells-requires-clause-first g c =
    let made = c.in-Ok in
    first_berths made.cells c.args.program.now two_params two_places
    (map g.B.Bag.items c.deref.result.now) (map g.B.Bag.items c.args.bags.items)
    made.berths.items (ap (map g.B.Bag.items) c.deref.ensures.value)
    (rw (c.requires.params, c.requires.lines) at made.ensures.made)
    (made.ensures.many ∙ ap (λ (l : Cube). l.places) c.requires.lines) made.ensures.berths
