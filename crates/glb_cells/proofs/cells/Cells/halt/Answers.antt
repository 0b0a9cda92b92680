use Rattle.std.proofs.Common.{◌≡◌, ◌<◌, refl, ap, ◌∙◌, subst, arith}
use Rattle.glb_place.specs.declared.record.Record.{Record}
use Rattle.glb_place.specs.Rows.{halt_row}
use Rattle.glb_cells.specs.Plays.{halted_on}
use Rattle.glb_cells.specs.inner.Keeping.{table_of}
use Rattle.glb_cells.proofs.BerthLemmas.Opened.{turned, table_is, kept_is, object_is, still_of, moved}
use Rattle.glb_cells.proofs.BerthLemmas.States.{halts_beside}
use Rattle.glb_cells.proofs.cells.Cells.halt.Goals as goal

pub halt-requires-clause-table : goal.halt-requires-clause-table
halt-requires-clause-table g c =
    let w = c.self.invariant.sized in (
      table_is g.B.Bag.items c.self.inside.table.shared.key c.self.inside.table.shared.table_id
          c.args.self.now c.self.view_is c.berth.inside.seat.table_id
          (object_is c.args.self.now c.berth.inside.seat.me c.berth.inside.state
          c.berth.inside.counters c.berth.inside.held.items (table_of c.berth.inside.looks)
          c.berth.inside.seat.table_id c.args.berth.now c.berth.view_is c.berth.invariant
          c.requires.here),
      omega (arith, w),
    )

pub halt-requires-clause-ready : goal.halt-requires-clause-ready
halt-requires-clause-ready g c = (
  c.berth.invariant.view,
  c.berth.invariant.me_is,
  (
    (λ e. c.requires.going (ap (λ (x : Record g.row.P-Item.Denot). x.local.phase)
        (kept_is c.args.self.now c.berth.inside.seat.me c.berth.inside.state c.berth.inside.counters
        c.berth.inside.held.items (table_of c.berth.inside.looks) c.berth.inside.seat.table_id
        c.args.berth.now c.berth.view_is c.berth.invariant c.requires.here) ∙ e)),
    c.requires.code,
    subst (λ (x : Record g.row.P-Item.Denot). c.args.code ≡ 1 → x.params.limit < x.last)
        (kept_is c.args.self.now c.berth.inside.seat.me c.berth.inside.state c.berth.inside.counters
        c.berth.inside.held.items (table_of c.berth.inside.looks) c.berth.inside.seat.table_id
        c.args.berth.now c.berth.view_is c.berth.invariant c.requires.here) c.requires.cause,
  ),
)

pub invariant_of-berth : goal.invariant_of-berth
invariant_of-berth g c =
    record {
      view = (halted_on c.args.code c.halt.result) c.berth.invariant.view;
      me_is = (turned (halted_on c.args.code c.halt.result) c.berth.inside.seat.me
          c.halt.new.seat.me c.berth.invariant.view c.berth.invariant.me_is c.halt.ensures.moved);
      beside = halts_beside c.berth.invariant.view.own c.berth.inside.state c.berth.inside.counters
          c.berth.inside.held.items (table_of c.berth.inside.looks) c.berth.invariant.beside
          c.args.code;
    }

pub returns-clause-here : goal.returns-clause-here
returns-clause-here g c =
    still_of c.args.self.now c.berth.inside.seat.me c.berth.inside.state c.berth.inside.counters
    c.berth.inside.held.items (table_of c.berth.inside.looks) c.berth.inside.seat.table_id
    c.args.berth.now c.berth.view_is c.berth.invariant c.requires.here c.halt.new.seat.table_id
    c.halt.ensures.table.0 c.halt.new.seat.me
    ((halted_on c.args.code c.halt.result) c.berth.invariant.view)
    (turned (halted_on c.args.code c.halt.result) c.berth.inside.seat.me c.halt.new.seat.me
    c.berth.invariant.view c.berth.invariant.me_is c.halt.ensures.moved) c.berth.inside.state
    c.berth.inside.counters refl refl refl refl

pub returns-clause-moved : goal.returns-clause-moved
returns-clause-moved g c =
    moved c.args.self.now c.berth.inside.seat.me c.berth.inside.state c.berth.inside.counters
    c.berth.inside.held.items (table_of c.berth.inside.looks) c.berth.inside.seat.table_id
    c.args.berth.now c.berth.view_is c.berth.invariant c.requires.here c.halt.new.seat.table_id
    c.halt.ensures.table.0 c.halt.new.seat.me
    ((halted_on c.args.code c.halt.result) c.berth.invariant.view)
    (turned (halted_on c.args.code c.halt.result) c.berth.inside.seat.me c.halt.new.seat.me
    c.berth.invariant.view c.berth.invariant.me_is c.halt.ensures.moved) c.berth.inside.state
    c.berth.inside.counters 1 (halt_row c.args.code) refl refl refl refl
