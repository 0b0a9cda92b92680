use Rattle.std.proofs.Common.{rules}
use Rattle.glb_cells.specs.Starts.{setup_from}
use Rattle.glb_cells.proofs.StepLemmas.Calls.{may_take, may_clear}
use Rattle.glb_cells.proofs.StepLemmas.Told.{slot_out, in_hand, given}
use Rattle.glb_cells.proofs.gifts.take_as.Goals as goal

pub swap-requires : goal.swap-requires
swap-requires g c = (
  search rules,
  search rules,
  may_take
      (setup_from g.B.Bag.items g.B.Bag.fits g.P.Program.children c.args.cells.now.key) _ _ _ _
      c.requires.name _ c.requires.ready,
)

pub exchange-part-requires : goal.exchange-part-requires
exchange-part-requires g c = (
  search rules,
  slot_out
      (setup_from g.B.Bag.items g.B.Bag.fits g.P.Program.children c.args.cells.now.key) g.J.Named.name
      c.args.cells.now.table_id.slots c.args.edge c.swap.result c.args.seat.now.me _ c.swap.ensures.2,
)

pub swap-requires-2 : goal.swap-requires-2
swap-requires-2 g c = (
  search rules,
  search rules,
  may_clear (setup_from g.B.Bag.items g.B.Bag.fits g.P.Program.children c.args.cells.now.key) _ _ _
      _ c.requires.name _ _ _
      (in_hand (setup_from g.B.Bag.items g.B.Bag.fits g.P.Program.children c.args.cells.now.key)
      g.J.Named.name c.args.cells.now.table_id.slots c.args.edge c.swap.result
      c.exchange-part.result c.args.seat.now.me c.swap.new.seat.me _ c.requires.ready
      c.swap.ensures.2 c.exchange-part.ensures.3),
)

pub returns-clause-moved : goal.returns-clause-moved
returns-clause-moved g c =
    given (setup_from g.B.Bag.items g.B.Bag.fits g.P.Program.children c.args.cells.now.key)
    g.J.Named.name c.args.cells.now.table_id.slots c.args.edge c.swap.result c.swap-2.result
    c.exchange-part.result c.unwrap.result c.args.seat.now.me c.swap.new.seat.me
    c.exchange-part.new.seat.me _
    c.requires.ready c.swap.ensures.2 c.exchange-part.ensures.2 c.exchange-part.ensures.3
    c.swap-2.ensures.2 c.unwrap.ensures
