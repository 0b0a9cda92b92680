use Rattle.std.proofs.Common.{refl, sym, ap, ◌∙◌, subst}
use Rattle.glb_rules.specs.Events.{name_of}
use Rattle.glb_rules.specs.declared.event.Event.TheVariants as event
use Rattle.glb_rules.specs.declared.place_state.PlaceState.{PlaceState}
use Rattle.glb_place.specs.Rows.{ask_row}
use Rattle.glb_cells.specs.Plays.{asked_at, asked_on}
use Rattle.glb_cells.specs.inner.Keeping.{IsBeside, table_of}
use Rattle.glb_cells.proofs.BerthLemmas.Opened.{turned, numbered, table_is, object_is, place_is, may_at, ends, is_free, still_free, moved, found_now}
use Rattle.glb_cells.proofs.BerthLemmas.There.{there_ask}
use Rattle.glb_cells.proofs.BerthLemmas.States.{asks_beside, ask_stays}
use Rattle.glb_cells.proofs.cells.Cells.ask.Goals as goal

pub number-edge-requires-clause-thief : goal.number-edge-requires-clause-thief
number-edge-requires-clause-thief g c =
    let m = may_at c.args.self.now c.berth.inside.seat.me c.berth.inside.state
    c.berth.inside.counters c.berth.inside.held.items (table_of c.berth.inside.looks)
    c.berth.inside.seat.table_id c.args.berth.now c.berth.view_is c.berth.invariant
    c.requires.here.here (λ p. event.Ask p c.args.victim c.args.kind) c.requires.may in
    let there = there_ask c.berth.invariant.view.own c.berth.invariant.beside.listed c.args.kind
    c.berth.inside.state.place c.args.victim m in
    let e = ends c.args.self.now c.berth.inside.seat.me c.berth.inside.state c.berth.inside.counters
    c.berth.inside.held.items (table_of c.berth.inside.looks) c.berth.inside.seat.table_id
    c.args.berth.now c.berth.view_is c.berth.invariant c.requires.here.here
    (name_of c.args.kind c.berth.inside.state.place c.args.victim) m.1.0 m.1.2 there in
    e.thief

pub number-edge-requires-clause-victim : goal.number-edge-requires-clause-victim
number-edge-requires-clause-victim g c =
    let m = may_at c.args.self.now c.berth.inside.seat.me c.berth.inside.state
    c.berth.inside.counters c.berth.inside.held.items (table_of c.berth.inside.looks)
    c.berth.inside.seat.table_id c.args.berth.now c.berth.view_is c.berth.invariant
    c.requires.here.here (λ p. event.Ask p c.args.victim c.args.kind) c.requires.may in
    let there = there_ask c.berth.invariant.view.own c.berth.invariant.beside.listed c.args.kind
    c.berth.inside.state.place c.args.victim m in
    let e = ends c.args.self.now c.berth.inside.seat.me c.berth.inside.state c.berth.inside.counters
    c.berth.inside.held.items (table_of c.berth.inside.looks) c.berth.inside.seat.table_id
    c.args.berth.now c.berth.view_is c.berth.invariant c.requires.here.here
    (name_of c.args.kind c.berth.inside.state.place c.args.victim) m.1.0 m.1.2 there in
    e.victim

pub number-edge-requires-clause-there : goal.number-edge-requires-clause-there
number-edge-requires-clause-there g c =
    let m = may_at c.args.self.now c.berth.inside.seat.me c.berth.inside.state
    c.berth.inside.counters c.berth.inside.held.items (table_of c.berth.inside.looks)
    c.berth.inside.seat.table_id c.args.berth.now c.berth.view_is c.berth.invariant
    c.requires.here.here (λ p. event.Ask p c.args.victim c.args.kind) c.requires.may in
    let there = there_ask c.berth.invariant.view.own c.berth.invariant.beside.listed c.args.kind
    c.berth.inside.state.place c.args.victim m in
    let e = ends c.args.self.now c.berth.inside.seat.me c.berth.inside.state c.berth.inside.counters
    c.berth.inside.held.items (table_of c.berth.inside.looks) c.berth.inside.seat.table_id
    c.args.berth.now c.berth.view_is c.berth.invariant c.requires.here.here
    (name_of c.args.kind c.berth.inside.state.place c.args.victim) m.1.0 m.1.2 there in
    e.there

pub ask_as-requires-clause-table : goal.ask_as-requires-clause-table
ask_as-requires-clause-table g c =
    let n = numbered g.B.Bag.items c.self.inside.table.shared.key
    c.self.inside.table.shared.table_id c.args.self.now c.self.view_is c.number-edge.result
    (name_of c.args.kind c.berth.inside.state.place c.args.victim) c.number-edge.ensures.name
    c.number-edge.ensures.small in (
      table_is g.B.Bag.items c.self.inside.table.shared.key c.self.inside.table.shared.table_id
          c.args.self.now c.self.view_is c.berth.inside.seat.table_id
          (object_is c.args.self.now c.berth.inside.seat.me c.berth.inside.state
          c.berth.inside.counters c.berth.inside.held.items (table_of c.berth.inside.looks)
          c.berth.inside.seat.table_id c.args.berth.now c.berth.view_is c.berth.invariant
          c.requires.here.here),
      n.small,
      n.few,
    )

pub ask_as-requires-clause-name : goal.ask_as-requires-clause-name
ask_as-requires-clause-name g c =
    (numbered g.B.Bag.items c.self.inside.table.shared.key c.self.inside.table.shared.table_id
    c.args.self.now c.self.view_is c.number-edge.result
    (name_of c.args.kind c.berth.inside.state.place c.args.victim) c.number-edge.ensures.name
    c.number-edge.ensures.small).name

pub ask_as-requires-clause-ready : goal.ask_as-requires-clause-ready
ask_as-requires-clause-ready g c =
    let m = may_at c.args.self.now c.berth.inside.seat.me c.berth.inside.state
    c.berth.inside.counters c.berth.inside.held.items (table_of c.berth.inside.looks)
    c.berth.inside.seat.table_id c.args.berth.now c.berth.view_is c.berth.invariant
    c.requires.here.here (λ p. event.Ask p c.args.victim c.args.kind) c.requires.may in
    let there = there_ask c.berth.invariant.view.own c.berth.invariant.beside.listed c.args.kind
    c.berth.inside.state.place c.args.victim m in
    let e = ends c.args.self.now c.berth.inside.seat.me c.berth.inside.state c.berth.inside.counters
    c.berth.inside.held.items (table_of c.berth.inside.looks) c.berth.inside.seat.table_id
    c.args.berth.now c.berth.view_is c.berth.invariant c.requires.here.here
    (name_of c.args.kind c.berth.inside.state.place c.args.victim) m.1.0 m.1.2 there in (
      c.berth.invariant.view,
      c.berth.invariant.me_is,
      (
        is_free c.berth.invariant.me_is (ap (λ b. b.slot) c.berth.view_is ∙ c.requires.here.free),
        m,
      ),
    )

pub invariant_of-berth : goal.invariant_of-berth
invariant_of-berth g c =
    let m = may_at c.args.self.now c.berth.inside.seat.me c.berth.inside.state
    c.berth.inside.counters c.berth.inside.held.items (table_of c.berth.inside.looks)
    c.berth.inside.seat.table_id c.args.berth.now c.berth.view_is c.berth.invariant
    c.requires.here.here (λ p. event.Ask p c.args.victim c.args.kind) c.requires.may in
    let there = there_ask c.berth.invariant.view.own c.berth.invariant.beside.listed c.args.kind
    c.berth.inside.state.place c.args.victim m in
    let e = ends c.args.self.now c.berth.inside.seat.me c.berth.inside.state c.berth.inside.counters
    c.berth.inside.held.items (table_of c.berth.inside.looks) c.berth.inside.seat.table_id
    c.args.berth.now c.berth.view_is c.berth.invariant c.requires.here.here
    (name_of c.args.kind c.berth.inside.state.place c.args.victim) m.1.0 m.1.2 there in
    record {
      view = (asked_on (name_of c.args.kind c.berth.inside.state.place c.args.victim) 0)
          c.berth.invariant.view;
      me_is = (turned (asked_on (name_of c.args.kind c.berth.inside.state.place c.args.victim) 0)
          c.berth.inside.seat.me c.ask_as.new.seat.me c.berth.invariant.view c.berth.invariant.me_is
          c.ask_as.ensures.moved);
      beside = subst (λ (s : PlaceState). IsBeside
          (asked_at (name_of c.args.kind c.berth.inside.state.place c.args.victim)
          c.berth.invariant.view.own) s c.count_ask.new.counters c.berth.inside.held.items
          (table_of c.berth.inside.looks)) (sym c.ask.ensures)
          (asks_beside c.berth.invariant.view.own c.berth.inside.state c.berth.inside.counters
          c.berth.inside.held.items (table_of c.berth.inside.looks) c.berth.invariant.beside
          c.args.kind c.args.victim c.count_ask.new.counters
          (c.count_ask.ensures c.berth.invariant.view.own.local.count
          c.berth.invariant.beside.counters) there);
    }

pub returns-clause-here : goal.returns-clause-here
returns-clause-here g c =
    still_free c.args.self.now c.berth.inside.seat.me c.berth.inside.state c.berth.inside.counters
    c.berth.inside.held.items (table_of c.berth.inside.looks) c.berth.inside.seat.table_id
    c.args.berth.now c.berth.view_is c.berth.invariant c.requires.here.here
    c.ask_as.new.seat.table_id c.ask_as.ensures.table.0 c.ask_as.new.seat.me
    ((asked_on (name_of c.args.kind c.berth.inside.state.place c.args.victim) 0)
    c.berth.invariant.view) (turned (asked_on
    (name_of c.args.kind c.berth.inside.state.place c.args.victim) 0) c.berth.inside.seat.me
    c.ask_as.new.seat.me c.berth.invariant.view c.berth.invariant.me_is c.ask_as.ensures.moved)
    c.ask.new.state c.count_ask.new.counters refl refl refl refl
    (is_free c.berth.invariant.me_is (ap (λ b. b.slot) c.berth.view_is ∙ c.requires.here.free))

pub returns-clause-moved : goal.returns-clause-moved
returns-clause-moved g c =
    moved c.args.self.now c.berth.inside.seat.me c.berth.inside.state c.berth.inside.counters
    c.berth.inside.held.items (table_of c.berth.inside.looks) c.berth.inside.seat.table_id
    c.args.berth.now c.berth.view_is c.berth.invariant c.requires.here.here
    c.ask_as.new.seat.table_id c.ask_as.ensures.table.0 c.ask_as.new.seat.me
    ((asked_on (name_of c.args.kind c.berth.inside.state.place c.args.victim) 0)
    c.berth.invariant.view) (turned (asked_on
    (name_of c.args.kind c.berth.inside.state.place c.args.victim) 0) c.berth.inside.seat.me
    c.ask_as.new.seat.me c.berth.invariant.view c.berth.invariant.me_is c.ask_as.ensures.moved)
    c.ask.new.state c.count_ask.new.counters 1 (ask_row c.args.victim c.args.kind)
    (ap (λ p. asked_at (name_of c.args.kind p c.args.victim) c.berth.invariant.view.own)
    (sym (place_is c.args.self.now c.berth.inside.seat.me c.berth.inside.state
    c.berth.inside.counters c.berth.inside.held.items (table_of c.berth.inside.looks)
    c.berth.inside.seat.table_id c.args.berth.now c.berth.view_is c.berth.invariant
    c.requires.here.here))) refl (ap (λ (s : PlaceState). s.size) c.ask.ensures
    ∙ (ask_stays c.args.victim c.args.kind c.berth.inside.state).1) refl

pub returns-clause-found : goal.returns-clause-found
returns-clause-found g c =
    sym (found_now c.args.self.now c.berth.inside.seat.me c.berth.inside.state
    c.berth.inside.counters c.berth.inside.held.items (table_of c.berth.inside.looks)
    c.berth.inside.seat.table_id c.args.berth.now c.berth.view_is c.berth.invariant
    c.requires.here.here c.ask_as.new.seat.table_id c.ask_as.ensures.table.0 c.ask_as.new.seat.me
    ((asked_on (name_of c.args.kind c.berth.inside.state.place c.args.victim) 0)
    c.berth.invariant.view) (turned (asked_on
    (name_of c.args.kind c.berth.inside.state.place c.args.victim) 0) c.berth.inside.seat.me
    c.ask_as.new.seat.me c.berth.invariant.view c.berth.invariant.me_is c.ask_as.ensures.moved)
    c.ask.new.state c.count_ask.new.counters)
