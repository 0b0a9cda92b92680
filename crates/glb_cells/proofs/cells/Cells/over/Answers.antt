use Rattle.std.proofs.Common.{refl, sym, ap, ◌∙◌, subst, arith, eqb}
use Rattle.glb_rules.specs.declared.place_state.PlaceState.{PlaceState}
use Rattle.glb_place.specs.declared.record.Record.{Record}
use Rattle.glb_cells.specs.Plays.{ended_on, read_live}
use Rattle.glb_cells.specs.inner.Keeping.{IsBeside, table_of}
use Rattle.glb_cells.proofs.BerthLemmas.Opened.{turned, table_is, kept_is, object_is, still_of, moved, found_now}
use Rattle.glb_cells.proofs.BerthLemmas.Sizes.{neither}
use Rattle.glb_cells.proofs.BerthLemmas.States.{overs_beside, leave_stays}
use Rattle.glb_cells.proofs.cells.Cells.over.Goals as goal

pub over-live-requires-clause-table : goal.over-live-requires-clause-table
over-live-requires-clause-table g c =
    let w = c.self.invariant.sized in (
      table_is g.B.Bag.items c.self.inside.table.shared.key c.self.inside.table.shared.table_id
          c.args.self.now c.self.view_is c.berth.inside.seat.table_id
          (object_is c.args.self.now c.berth.inside.seat.me c.berth.inside.state
          c.berth.inside.counters c.berth.inside.held.items (table_of c.berth.inside.looks)
          c.berth.inside.seat.table_id c.args.berth.now c.berth.view_is c.berth.invariant
          c.requires.here),
      omega (arith, w),
    )

pub over-live-requires-clause-ready : goal.over-live-requires-clause-ready
over-live-requires-clause-ready g c = (
  c.berth.invariant.view,
  c.berth.invariant.me_is,
  (λ e. c.requires.going (ap (λ (x : Record g.row.P-Item.Denot). x.local.phase)
      (kept_is c.args.self.now c.berth.inside.seat.me c.berth.inside.state c.berth.inside.counters
      c.berth.inside.held.items (table_of c.berth.inside.looks) c.berth.inside.seat.table_id
      c.args.berth.now c.berth.view_is c.berth.invariant c.requires.here) ∙ e)),
)

pub invariant_of-berth : goal.invariant_of-berth
invariant_of-berth g c =
    record {
      view = (ended_on c.over-live.result) c.berth.invariant.view;
      me_is = (turned (ended_on c.over-live.result) c.berth.inside.seat.me c.over-live.new.seat.me
          c.berth.invariant.view c.berth.invariant.me_is c.over-live.ensures.moved);
      beside = subst (λ (s : PlaceState). IsBeside
          (read_live c.over-live.result c.berth.invariant.view.own) s c.berth.inside.counters
          c.berth.inside.held.items (table_of c.berth.inside.looks)) (sym c.leave.ensures)
          (overs_beside c.berth.invariant.view.own c.berth.inside.state c.berth.inside.counters
          c.berth.inside.held.items (table_of c.berth.inside.looks) c.berth.invariant.beside
          c.over-live.result);
    }

pub returns-clause-here : goal.returns-clause-here
returns-clause-here g c =
    still_of c.args.self.now c.berth.inside.seat.me c.berth.inside.state c.berth.inside.counters
    c.berth.inside.held.items (table_of c.berth.inside.looks) c.berth.inside.seat.table_id
    c.args.berth.now c.berth.view_is c.berth.invariant c.requires.here
    c.over-live.new.seat.table_id c.over-live.ensures.table.0 c.over-live.new.seat.me
    ((ended_on c.over-live.result) c.berth.invariant.view)
    (turned (ended_on c.over-live.result) c.berth.inside.seat.me c.over-live.new.seat.me
    c.berth.invariant.view c.berth.invariant.me_is c.over-live.ensures.moved) c.leave.new.state
    c.berth.inside.counters refl (neither (λ (x : Record g.row.P-Item.Denot). x.lines) _ _ _ _
    refl refl) (neither (λ (x : Record g.row.P-Item.Denot). x.params) _ _ _ _ refl refl)
    (neither (λ (x : Record g.row.P-Item.Denot). x.place) _ _ _ _ refl refl)

pub returns-clause-moved : goal.returns-clause-moved
returns-clause-moved g c =
    moved c.args.self.now c.berth.inside.seat.me c.berth.inside.state c.berth.inside.counters
    c.berth.inside.held.items (table_of c.berth.inside.looks) c.berth.inside.seat.table_id
    c.args.berth.now c.berth.view_is c.berth.invariant c.requires.here
    c.over-live.new.seat.table_id c.over-live.ensures.table.0 c.over-live.new.seat.me
    ((ended_on c.over-live.result) c.berth.invariant.view)
    (turned (ended_on c.over-live.result) c.berth.inside.seat.me c.over-live.new.seat.me
    c.berth.invariant.view c.berth.invariant.me_is c.over-live.ensures.moved) c.leave.new.state
    c.berth.inside.counters 1 _ (ap (λ n. read_live n c.berth.invariant.view.own)
    (found_now c.args.self.now c.berth.inside.seat.me c.berth.inside.state
    c.berth.inside.counters c.berth.inside.held.items (table_of c.berth.inside.looks)
    c.berth.inside.seat.table_id c.args.berth.now c.berth.view_is c.berth.invariant
    c.requires.here c.over-live.new.seat.table_id c.over-live.ensures.table.0
    c.over-live.new.seat.me ((ended_on c.over-live.result) c.berth.invariant.view)
    (turned (ended_on c.over-live.result) c.berth.inside.seat.me c.over-live.new.seat.me
    c.berth.invariant.view c.berth.invariant.me_is c.over-live.ensures.moved) c.leave.new.state
    c.berth.inside.counters)) refl (ap (λ (s : PlaceState). s.size) c.leave.ensures
    ∙ (leave_stays (eqb c.over-live.result 0) c.berth.inside.state).1) refl

pub returns-clause-found : goal.returns-clause-found
returns-clause-found g c =
    ap (λ n. eqb n 0) (found_now c.args.self.now c.berth.inside.seat.me c.berth.inside.state
    c.berth.inside.counters c.berth.inside.held.items (table_of c.berth.inside.looks)
    c.berth.inside.seat.table_id c.args.berth.now c.berth.view_is c.berth.invariant
    c.requires.here c.over-live.new.seat.table_id c.over-live.ensures.table.0
    c.over-live.new.seat.me ((ended_on c.over-live.result) c.berth.invariant.view)
    (turned (ended_on c.over-live.result) c.berth.inside.seat.me c.over-live.new.seat.me
    c.berth.invariant.view c.berth.invariant.me_is c.over-live.ensures.moved) c.leave.new.state
    c.berth.inside.counters)
