use Rattle.std.proofs.Common.{◌≤◌, refl, sym, ap, ◌∙◌, subst, arith, eqb, not}
use Rattle.glb_rules.specs.declared.place_state.PlaceState.{PlaceState}
use Rattle.glb_place.specs.declared.record.Record.{Record}
use Rattle.glb_place.specs.Rows.{halted_row}
use Rattle.glb_cells.specs.Plays.{Seated, OnFirst, stopped_on}
use Rattle.glb_cells.specs.inner.Keeping.{IsBeside, table_of}
use Rattle.glb_cells.proofs.BerthLemmas.Opened.{turned, table_is, kept_is, object_is, still_of, moved, found_now}
use Rattle.glb_cells.proofs.BerthLemmas.Sizes.{neither}
use Rattle.glb_cells.proofs.BerthLemmas.States.{stops_beside, leave_stays}
use Rattle.glb_cells.proofs.cells.Cells.halted.Goals as goal

pub halted-code-requires-clause-table : goal.halted-code-requires-clause-table
halted-code-requires-clause-table g c =
    let w = c.self.invariant.sized in (
      table_is g.B.Bag.items c.self.inside.table.shared.key c.self.inside.table.shared.table_id
          c.args.self.now c.self.view_is c.berth.inside.seat.table_id
          (object_is c.args.self.now c.berth.inside.seat.me c.berth.inside.state
          c.berth.inside.counters c.berth.inside.held.items (table_of c.berth.inside.looks)
          c.berth.inside.seat.table_id c.args.berth.now c.berth.view_is c.berth.invariant
          c.requires.here),
      omega (arith, w),
    )

pub halted-code-requires-clause-ready : goal.halted-code-requires-clause-ready
halted-code-requires-clause-ready g c = (
  c.berth.invariant.view,
  c.berth.invariant.me_is,
  (λ e. c.requires.going (ap (λ (x : Record g.row.P-Item.Denot). x.local.phase)
      (kept_is c.args.self.now c.berth.inside.seat.me c.berth.inside.state c.berth.inside.counters
      c.berth.inside.held.items (table_of c.berth.inside.looks) c.berth.inside.seat.table_id
      c.args.berth.now c.berth.view_is c.berth.invariant c.requires.here) ∙ e)),
)

pub invariant_of-berth : goal.invariant_of-berth
invariant_of-berth g c =
    record {
      view = (stopped_on c.halted-code.result) c.berth.invariant.view;
      me_is = (turned (stopped_on c.halted-code.result) c.berth.inside.seat.me
          c.halted-code.new.seat.me c.berth.invariant.view c.berth.invariant.me_is
          c.halted-code.ensures.moved);
      beside = subst (λ (s : PlaceState). IsBeside
          (halted_row c.halted-code.result c.berth.invariant.view.own) s c.berth.inside.counters
          c.berth.inside.held.items (table_of c.berth.inside.looks)) (sym c.leave.ensures)
          (stops_beside c.berth.invariant.view.own c.berth.inside.state c.berth.inside.counters
          c.berth.inside.held.items (table_of c.berth.inside.looks) c.berth.invariant.beside
          c.halted-code.result);
    }

pub returns-clause-here : goal.returns-clause-here
returns-clause-here g c =
    still_of c.args.self.now c.berth.inside.seat.me c.berth.inside.state c.berth.inside.counters
    c.berth.inside.held.items (table_of c.berth.inside.looks) c.berth.inside.seat.table_id
    c.args.berth.now c.berth.view_is c.berth.invariant c.requires.here
    c.halted-code.new.seat.table_id c.halted-code.ensures.table.0 c.halted-code.new.seat.me
    ((stopped_on c.halted-code.result) c.berth.invariant.view)
    (turned (stopped_on c.halted-code.result) c.berth.inside.seat.me c.halted-code.new.seat.me
    c.berth.invariant.view c.berth.invariant.me_is c.halted-code.ensures.moved)
    c.leave.new.state c.berth.inside.counters refl
    (neither (λ (x : Record g.row.P-Item.Denot). x.lines) _ _ _ _ refl refl)
    (neither (λ (x : Record g.row.P-Item.Denot). x.params) _ _ _ _ refl refl)
    (neither (λ (x : Record g.row.P-Item.Denot). x.place) _ _ _ _ refl refl)

pub returns-clause-moved : goal.returns-clause-moved
returns-clause-moved g c =
    moved c.args.self.now c.berth.inside.seat.me c.berth.inside.state c.berth.inside.counters
    c.berth.inside.held.items (table_of c.berth.inside.looks) c.berth.inside.seat.table_id
    c.args.berth.now c.berth.view_is c.berth.invariant c.requires.here
    c.halted-code.new.seat.table_id c.halted-code.ensures.table.0 c.halted-code.new.seat.me
    ((stopped_on c.halted-code.result) c.berth.invariant.view)
    (turned (stopped_on c.halted-code.result) c.berth.inside.seat.me c.halted-code.new.seat.me
    c.berth.invariant.view c.berth.invariant.me_is c.halted-code.ensures.moved)
    c.leave.new.state c.berth.inside.counters 1 (halted_row c.halted-code.result) refl refl
    (ap (λ (s : PlaceState). s.size) c.leave.ensures
    ∙ (leave_stays (not (eqb c.halted-code.result 0)) c.berth.inside.state).1) refl

pub returns-clause-found : goal.returns-clause-found
returns-clause-found g c =
    found_now c.args.self.now c.berth.inside.seat.me c.berth.inside.state c.berth.inside.counters
    c.berth.inside.held.items (table_of c.berth.inside.looks) c.berth.inside.seat.table_id
    c.args.berth.now c.berth.view_is c.berth.invariant c.requires.here
    c.halted-code.new.seat.table_id c.halted-code.ensures.table.0 c.halted-code.new.seat.me
    ((stopped_on c.halted-code.result) c.berth.invariant.view)
    (turned (stopped_on c.halted-code.result) c.berth.inside.seat.me c.halted-code.new.seat.me
    c.berth.invariant.view c.berth.invariant.me_is c.halted-code.ensures.moved)
    c.leave.new.state c.berth.inside.counters

pub returns-clause-least : goal.returns-clause-least
returns-clause-least g c =
    subst (λ (x : Record g.row.P-Item.Denot). x.code ≤ c.halted-code.result)
    (sym (kept_is c.args.self.now c.berth.inside.seat.me c.berth.inside.state
    c.berth.inside.counters c.berth.inside.held.items (table_of c.berth.inside.looks)
    c.berth.inside.seat.table_id c.args.berth.now c.berth.view_is c.berth.invariant
    c.requires.here))
    (subst (λ (m : Seated g.row.B.Denot g.row.P.Denot g.row.P-Item.Denot). OnFirst
    (λ x. x.own.code ≤ c.halted-code.result) m.0) c.berth.invariant.me_is
    c.halted-code.ensures.least)
