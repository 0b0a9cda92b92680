use Rattle.std.proofs.Common.{refl, sym, ap, subst, arith, eqb}
use Rattle.glb_rules.specs.declared.event.Event.TheVariants as event
use Rattle.glb_rules.specs.declared.place_state.PlaceState.{PlaceState}
use Rattle.glb_place.specs.Rows.{sleep_row}
use Rattle.glb_cells.specs.Plays.{slept_on}
use Rattle.glb_cells.specs.inner.Keeping.{IsBeside, table_of}
use Rattle.glb_cells.proofs.BerthLemmas.Opened.{turned, table_is, object_is, may, still_of, moved, found_now}
use Rattle.glb_cells.proofs.BerthLemmas.States.{sleeps_beside}
use Rattle.glb_cells.proofs.cells.Cells.sleep.Goals as goal

pub sleep-live-requires-clause-table : goal.sleep-live-requires-clause-table
sleep-live-requires-clause-table g c =
    let w = c.self.invariant.sized in (
      table_is g.B.Bag.items c.self.inside.table.shared.key c.self.inside.table.shared.table_id
          c.args.self.now c.self.view_is c.berth.inside.seat.table_id
          (object_is c.args.self.now c.berth.inside.seat.me c.berth.inside.state
          c.berth.inside.counters c.berth.inside.held.items (table_of c.berth.inside.looks)
          c.berth.inside.seat.table_id c.args.berth.now c.berth.view_is c.berth.invariant
          c.requires.here),
      omega (arith, w),
    )

pub sleep-live-requires-clause-ready : goal.sleep-live-requires-clause-ready
sleep-live-requires-clause-ready g c = (
  c.berth.invariant.view,
  c.berth.invariant.me_is,
  may c.args.self.now c.berth.inside.seat.me
      c.berth.inside.state c.berth.inside.counters c.berth.inside.held.items
      (table_of c.berth.inside.looks) c.berth.inside.seat.table_id c.args.berth.now
      c.berth.view_is c.berth.invariant c.requires.here (λ p. event.Sleep p) c.requires.may,
)

pub invariant_of-berth : goal.invariant_of-berth
invariant_of-berth g c =
    record {
      view = (slept_on c.sleep-live.result) c.berth.invariant.view;
      me_is = (turned (slept_on c.sleep-live.result) c.berth.inside.seat.me c.sleep-live.new.seat.me
          c.berth.invariant.view c.berth.invariant.me_is c.sleep-live.ensures.moved);
      beside = subst (λ (s : PlaceState). IsBeside (sleep_row c.berth.invariant.view.own) s
          c.count_sleep.new.counters c.berth.inside.held.items (table_of c.berth.inside.looks))
          (sym c.sleep.ensures) (sleeps_beside c.berth.invariant.view.own c.berth.inside.state
          c.berth.inside.counters c.berth.inside.held.items (table_of c.berth.inside.looks)
          c.berth.invariant.beside c.count_sleep.new.counters
          (c.count_sleep.ensures c.berth.invariant.view.own.local.count
          c.berth.invariant.beside.counters));
    }

pub returns-clause-here : goal.returns-clause-here
returns-clause-here g c =
    still_of c.args.self.now c.berth.inside.seat.me c.berth.inside.state c.berth.inside.counters
    c.berth.inside.held.items (table_of c.berth.inside.looks) c.berth.inside.seat.table_id
    c.args.berth.now c.berth.view_is c.berth.invariant c.requires.here
    c.sleep-live.new.seat.table_id c.sleep-live.ensures.table.0 c.sleep-live.new.seat.me
    ((slept_on c.sleep-live.result) c.berth.invariant.view)
    (turned (slept_on c.sleep-live.result) c.berth.inside.seat.me c.sleep-live.new.seat.me
    c.berth.invariant.view c.berth.invariant.me_is c.sleep-live.ensures.moved) c.sleep.new.state
    c.count_sleep.new.counters refl refl refl refl

pub returns-clause-moved : goal.returns-clause-moved
returns-clause-moved g c =
    moved c.args.self.now c.berth.inside.seat.me c.berth.inside.state c.berth.inside.counters
    c.berth.inside.held.items (table_of c.berth.inside.looks) c.berth.inside.seat.table_id
    c.args.berth.now c.berth.view_is c.berth.invariant c.requires.here
    c.sleep-live.new.seat.table_id c.sleep-live.ensures.table.0 c.sleep-live.new.seat.me
    ((slept_on c.sleep-live.result) c.berth.invariant.view)
    (turned (slept_on c.sleep-live.result) c.berth.inside.seat.me c.sleep-live.new.seat.me
    c.berth.invariant.view c.berth.invariant.me_is c.sleep-live.ensures.moved) c.sleep.new.state
    c.count_sleep.new.counters 1 sleep_row refl refl
    (ap (λ (s : PlaceState). s.size) c.sleep.ensures) refl

pub returns-clause-found : goal.returns-clause-found
returns-clause-found g c =
    ap (λ n. eqb n 1) (found_now c.args.self.now c.berth.inside.seat.me c.berth.inside.state
    c.berth.inside.counters c.berth.inside.held.items (table_of c.berth.inside.looks)
    c.berth.inside.seat.table_id c.args.berth.now c.berth.view_is c.berth.invariant
    c.requires.here c.sleep-live.new.seat.table_id c.sleep-live.ensures.table.0
    c.sleep-live.new.seat.me ((slept_on c.sleep-live.result) c.berth.invariant.view)
    (turned (slept_on c.sleep-live.result) c.berth.inside.seat.me c.sleep-live.new.seat.me
    c.berth.invariant.view c.berth.invariant.me_is c.sleep-live.ensures.moved) c.sleep.new.state
    c.count_sleep.new.counters)
