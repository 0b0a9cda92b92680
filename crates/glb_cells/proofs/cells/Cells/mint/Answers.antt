use Rattle.std.proofs.Common.{refl, arith}
use Rattle.glb_rules.specs.declared.event.Event.TheVariants as event
use Rattle.glb_place.specs.Rows.{mint_row}
use Rattle.glb_cells.specs.Plays.{minted_on}
use Rattle.glb_rules.specs.declared.kinds.Credit.TheVariants as credits
use Rattle.glb_cells.specs.inner.Keeping.{table_of}
use Rattle.glb_cells.proofs.BerthLemmas.Opened.{turned, table_is, object_is, may, still_of, moved}
use Rattle.glb_cells.proofs.BerthLemmas.States.{mints_beside}
use Rattle.glb_cells.proofs.cells.Cells.mint.Goals as goal

pub mint-requires-clause-table : goal.mint-requires-clause-table
mint-requires-clause-table g c =
    let w = c.self.invariant.sized in (
      table_is g.B.Bag.items c.self.inside.table.shared.key c.self.inside.table.shared.table_id
          c.args.self.now c.self.view_is c.berth.inside.seat.table_id
          (object_is c.args.self.now c.berth.inside.seat.me c.berth.inside.state
          c.berth.inside.counters c.berth.inside.held.items (table_of c.berth.inside.looks)
          c.berth.inside.seat.table_id c.args.berth.now c.berth.view_is c.berth.invariant
          c.requires.here),
      omega (arith, w),
    )

pub mint-requires-clause-ready : goal.mint-requires-clause-ready
mint-requires-clause-ready g c = (
  c.berth.invariant.view,
  c.berth.invariant.me_is,
  may c.args.self.now c.berth.inside.seat.me
      c.berth.inside.state c.berth.inside.counters c.berth.inside.held.items
      (table_of c.berth.inside.looks) c.berth.inside.seat.table_id c.args.berth.now
      c.berth.view_is c.berth.invariant c.requires.here (λ p. event.Mint p) c.requires.may,
)

pub invariant_of-berth : goal.invariant_of-berth
invariant_of-berth g c =
    record {
      view = (minted_on c.mint.result) c.berth.invariant.view;
      me_is = (turned (minted_on c.mint.result) c.berth.inside.seat.me c.mint.new.seat.me
          c.berth.invariant.view c.berth.invariant.me_is c.mint.ensures.moved);
      beside = mints_beside c.berth.invariant.view.own c.berth.inside.state c.berth.inside.counters
          c.berth.inside.held.items (table_of c.berth.inside.looks) c.berth.invariant.beside;
    }

pub returns-clause-here : goal.returns-clause-here
returns-clause-here g c =
    still_of c.args.self.now c.berth.inside.seat.me c.berth.inside.state c.berth.inside.counters
    c.berth.inside.held.items (table_of c.berth.inside.looks) c.berth.inside.seat.table_id
    c.args.berth.now c.berth.view_is c.berth.invariant c.requires.here c.mint.new.seat.table_id
    c.mint.ensures.table.0 c.mint.new.seat.me ((minted_on c.mint.result) c.berth.invariant.view)
    (turned (minted_on c.mint.result) c.berth.inside.seat.me c.mint.new.seat.me
    c.berth.invariant.view c.berth.invariant.me_is c.mint.ensures.moved)
    (record c.berth.inside.state { credit = credits.Minted }) c.berth.inside.counters refl refl
    refl refl

pub returns-clause-moved : goal.returns-clause-moved
returns-clause-moved g c =
    moved c.args.self.now c.berth.inside.seat.me c.berth.inside.state c.berth.inside.counters
    c.berth.inside.held.items (table_of c.berth.inside.looks) c.berth.inside.seat.table_id
    c.args.berth.now c.berth.view_is c.berth.invariant c.requires.here c.mint.new.seat.table_id
    c.mint.ensures.table.0 c.mint.new.seat.me ((minted_on c.mint.result) c.berth.invariant.view)
    (turned (minted_on c.mint.result) c.berth.inside.seat.me c.mint.new.seat.me
    c.berth.invariant.view c.berth.invariant.me_is c.mint.ensures.moved)
    (record c.berth.inside.state { credit = credits.Minted }) c.berth.inside.counters 1 mint_row
    refl refl refl refl
