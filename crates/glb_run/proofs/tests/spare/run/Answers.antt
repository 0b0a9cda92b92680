use Rattle.std.proofs.Common.{ap, map}
use Rattle.glb_run.proofs.CellFacts.{first_berths}
use Rattle.glb_run.proofs.tests.spare.run.Goals as goal

pub play_over-requires-clause-first : goal.play_over-requires-clause-first
play_over-requires-clause-first g c =
    let made = c.in-Ok-new in
    first_berths made.cells c.args.program.now c.args.params.now c.in-Ok.lines
    (map g.B.Bag.items c.deref.result.now) (map g.B.Bag.items c.in-Ok-bags_of.bags.items)
    made.berths.items (ap (map g.B.Bag.items) c.deref.ensures.value) made.ensures.made
    made.ensures.many made.ensures.berths
