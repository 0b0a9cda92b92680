use Rattle.std.proofs.Common.{refl, sym, ap, ◌∙◌, subst}
use Rattle.glb_rules.specs.Events.{name_of}
use Rattle.glb_rules.specs.declared.event.Event.TheVariants as event
use Rattle.glb_rules.specs.declared.kinds.Kind.TheVariants as kind
use Rattle.glb_rules.specs.declared.place_state.PlaceState.{PlaceState}
use Rattle.glb_place.specs.Rows.{shrug_row}
use Rattle.glb_cells.specs.Plays.{given_up_at, given_up_on}
use Rattle.glb_cells.specs.inner.Keeping.{IsBeside, table_of}
use Rattle.glb_cells.proofs.BerthLemmas.Opened.{turned, numbered, table_is, object_is, place_is, may_at, ends, is_free, still_free, moved, found_now}
use Rattle.glb_cells.proofs.BerthLemmas.There.{there_shrug}
use Rattle.glb_cells.proofs.BerthLemmas.States.{gives_up_beside}
use Rattle.glb_cells.proofs.cells.Cells.shrug_steal.Goals as goal

pub number-edge-requires-clause-thief : goal.number-edge-requires-clause-thief
number-edge-requires-clause-thief g c =
    let m = may_at c.args.self.now c.berth.inside.seat.me c.berth.inside.state
    c.berth.inside.counters c.berth.inside.held.items (table_of c.berth.inside.looks)
    c.berth.inside.seat.table_id c.args.berth.now c.berth.view_is c.berth.invariant
    c.requires.here.here (λ p. event.Shrug p c.args.victim kind.Steal) c.requires.may in
    let there = there_shrug c.berth.invariant.view.own c.berth.invariant.beside.listed kind.Steal
    c.berth.inside.state.place c.args.victim m in
    let e = ends c.args.self.now c.berth.inside.seat.me c.berth.inside.state c.berth.inside.counters
    c.berth.inside.held.items (table_of c.berth.inside.looks) c.berth.inside.seat.table_id
    c.args.berth.now c.berth.view_is c.berth.invariant c.requires.here.here
    (name_of kind.Steal c.berth.inside.state.place c.args.victim) m.1.0 m.1.2 there in
    e.thief

pub number-edge-requires-clause-victim : goal.number-edge-requires-clause-victim
number-edge-requires-clause-victim g c =
    let m = may_at c.args.self.now c.berth.inside.seat.me c.berth.inside.state
    c.berth.inside.counters c.berth.inside.held.items (table_of c.berth.inside.looks)
    c.berth.inside.seat.table_id c.args.berth.now c.berth.view_is c.berth.invariant
    c.requires.here.here (λ p. event.Shrug p c.args.victim kind.Steal) c.requires.may in
    let there = there_shrug c.berth.invariant.view.own c.berth.invariant.beside.listed kind.Steal
    c.berth.inside.state.place c.args.victim m in
    let e = ends c.args.self.now c.berth.inside.seat.me c.berth.inside.state c.berth.inside.counters
    c.berth.inside.held.items (table_of c.berth.inside.looks) c.berth.inside.seat.table_id
    c.args.berth.now c.berth.view_is c.berth.invariant c.requires.here.here
    (name_of kind.Steal c.berth.inside.state.place c.args.victim) m.1.0 m.1.2 there in
    e.victim

pub number-edge-requires-clause-there : goal.number-edge-requires-clause-there
number-edge-requires-clause-there g c =
    let m = may_at c.args.self.now c.berth.inside.seat.me c.berth.inside.state
    c.berth.inside.counters c.berth.inside.held.items (table_of c.berth.inside.looks)
    c.berth.inside.seat.table_id c.args.berth.now c.berth.view_is c.berth.invariant
    c.requires.here.here (λ p. event.Shrug p c.args.victim kind.Steal) c.requires.may in
    let there = there_shrug c.berth.invariant.view.own c.berth.invariant.beside.listed kind.Steal
    c.berth.inside.state.place c.args.victim m in
    let e = ends c.args.self.now c.berth.inside.seat.me c.berth.inside.state c.berth.inside.counters
    c.berth.inside.held.items (table_of c.berth.inside.looks) c.berth.inside.seat.table_id
    c.args.berth.now c.berth.view_is c.berth.invariant c.requires.here.here
    (name_of kind.Steal c.berth.inside.state.place c.args.victim) m.1.0 m.1.2 there in
    e.there

pub give_up_as-requires-clause-table : goal.give_up_as-requires-clause-table
give_up_as-requires-clause-table g c =
    let n = numbered g.B.Bag.items c.self.inside.table.shared.key
    c.self.inside.table.shared.table_id c.args.self.now c.self.view_is c.number-edge.result
    (name_of kind.Steal c.berth.inside.state.place c.args.victim) c.number-edge.ensures.name
    c.number-edge.ensures.small in (
      table_is g.B.Bag.items c.self.inside.table.shared.key c.self.inside.table.shared.table_id
          c.args.self.now c.self.view_is c.berth.inside.seat.table_id
          (object_is c.args.self.now c.berth.inside.seat.me c.berth.inside.state
          c.berth.inside.counters c.berth.inside.held.items (table_of c.berth.inside.looks)
          c.berth.inside.seat.table_id c.args.berth.now c.berth.view_is c.berth.invariant
          c.requires.here.here),
      n.small,
      n.few,
    )

pub give_up_as-requires-clause-name : goal.give_up_as-requires-clause-name
give_up_as-requires-clause-name g c =
    (numbered g.B.Bag.items c.self.inside.table.shared.key c.self.inside.table.shared.table_id
    c.args.self.now c.self.view_is c.number-edge.result
    (name_of kind.Steal c.berth.inside.state.place c.args.victim) c.number-edge.ensures.name
    c.number-edge.ensures.small).name

pub give_up_as-requires-clause-ready : goal.give_up_as-requires-clause-ready
give_up_as-requires-clause-ready g c =
    let m = may_at c.args.self.now c.berth.inside.seat.me c.berth.inside.state
    c.berth.inside.counters c.berth.inside.held.items (table_of c.berth.inside.looks)
    c.berth.inside.seat.table_id c.args.berth.now c.berth.view_is c.berth.invariant
    c.requires.here.here (λ p. event.Shrug p c.args.victim kind.Steal) c.requires.may in
    let there = there_shrug c.berth.invariant.view.own c.berth.invariant.beside.listed kind.Steal
    c.berth.inside.state.place c.args.victim m in
    let e = ends c.args.self.now c.berth.inside.seat.me c.berth.inside.state c.berth.inside.counters
    c.berth.inside.held.items (table_of c.berth.inside.looks) c.berth.inside.seat.table_id
    c.args.berth.now c.berth.view_is c.berth.invariant c.requires.here.here
    (name_of kind.Steal c.berth.inside.state.place c.args.victim) m.1.0 m.1.2 there in (
      c.berth.invariant.view,
      c.berth.invariant.me_is,
      (
        is_free c.berth.invariant.me_is (ap (λ b. b.slot) c.berth.view_is ∙ c.requires.here.free),
        m,
      ),
    )

pub invariant_of-berth : goal.invariant_of-berth
invariant_of-berth g c =
    let m = may_at c.args.self.now c.berth.inside.seat.me c.berth.inside.state
    c.berth.inside.counters c.berth.inside.held.items (table_of c.berth.inside.looks)
    c.berth.inside.seat.table_id c.args.berth.now c.berth.view_is c.berth.invariant
    c.requires.here.here (λ p. event.Shrug p c.args.victim kind.Steal) c.requires.may in
    let there = there_shrug c.berth.invariant.view.own c.berth.invariant.beside.listed kind.Steal
    c.berth.inside.state.place c.args.victim m in
    let e = ends c.args.self.now c.berth.inside.seat.me c.berth.inside.state c.berth.inside.counters
    c.berth.inside.held.items (table_of c.berth.inside.looks) c.berth.inside.seat.table_id
    c.args.berth.now c.berth.view_is c.berth.invariant c.requires.here.here
    (name_of kind.Steal c.berth.inside.state.place c.args.victim) m.1.0 m.1.2 there in
    record {
      view = (given_up_on (name_of kind.Steal c.berth.inside.state.place c.args.victim) 2)
          c.berth.invariant.view;
      me_is = (turned (given_up_on (name_of kind.Steal c.berth.inside.state.place c.args.victim) 2)
          c.berth.inside.seat.me c.give_up_as.new.seat.me c.berth.invariant.view
          c.berth.invariant.me_is c.give_up_as.ensures.moved);
      beside = subst (λ (s : PlaceState). IsBeside
          (given_up_at (name_of kind.Steal c.berth.inside.state.place c.args.victim)
          c.berth.invariant.view.own) s c.count_shrug.new.counters c.berth.inside.held.items
          (table_of c.berth.inside.looks)) (sym c.rest_unless.ensures)
          (gives_up_beside c.berth.invariant.view.own c.berth.inside.state c.berth.inside.counters
          c.berth.inside.held.items (table_of c.berth.inside.looks) c.berth.invariant.beside
          c.args.victim c.count_shrug.new.counters
          (c.count_shrug.ensures c.berth.invariant.view.own.local.count
          c.berth.invariant.beside.counters) there);
    }

pub returns-clause-here : goal.returns-clause-here
returns-clause-here g c =
    still_free c.args.self.now c.berth.inside.seat.me c.berth.inside.state c.berth.inside.counters
    c.berth.inside.held.items (table_of c.berth.inside.looks) c.berth.inside.seat.table_id
    c.args.berth.now c.berth.view_is c.berth.invariant c.requires.here.here
    c.give_up_as.new.seat.table_id c.give_up_as.ensures.table.0 c.give_up_as.new.seat.me
    ((given_up_on (name_of kind.Steal c.berth.inside.state.place c.args.victim) 2)
    c.berth.invariant.view) (turned (given_up_on
    (name_of kind.Steal c.berth.inside.state.place c.args.victim) 2) c.berth.inside.seat.me
    c.give_up_as.new.seat.me c.berth.invariant.view c.berth.invariant.me_is
    c.give_up_as.ensures.moved) c.rest_unless.new.state c.count_shrug.new.counters refl refl
    refl refl
    (is_free c.berth.invariant.me_is (ap (λ b. b.slot) c.berth.view_is ∙ c.requires.here.free))

pub returns-clause-moved : goal.returns-clause-moved
returns-clause-moved g c =
    moved c.args.self.now c.berth.inside.seat.me c.berth.inside.state c.berth.inside.counters
    c.berth.inside.held.items (table_of c.berth.inside.looks) c.berth.inside.seat.table_id
    c.args.berth.now c.berth.view_is c.berth.invariant c.requires.here.here
    c.give_up_as.new.seat.table_id c.give_up_as.ensures.table.0 c.give_up_as.new.seat.me
    ((given_up_on (name_of kind.Steal c.berth.inside.state.place c.args.victim) 2)
    c.berth.invariant.view) (turned (given_up_on
    (name_of kind.Steal c.berth.inside.state.place c.args.victim) 2) c.berth.inside.seat.me
    c.give_up_as.new.seat.me c.berth.invariant.view c.berth.invariant.me_is
    c.give_up_as.ensures.moved) c.rest_unless.new.state c.count_shrug.new.counters 1
    (shrug_row c.args.victim kind.Steal) (ap
    (λ p. given_up_at (name_of kind.Steal p c.args.victim) c.berth.invariant.view.own)
    (sym (place_is c.args.self.now c.berth.inside.seat.me c.berth.inside.state
    c.berth.inside.counters c.berth.inside.held.items (table_of c.berth.inside.looks)
    c.berth.inside.seat.table_id c.args.berth.now c.berth.view_is c.berth.invariant
    c.requires.here.here))) refl (ap (λ (s : PlaceState). s.size) c.rest_unless.ensures) refl

pub returns-clause-found : goal.returns-clause-found
returns-clause-found g c =
    sym (found_now c.args.self.now c.berth.inside.seat.me c.berth.inside.state
    c.berth.inside.counters c.berth.inside.held.items (table_of c.berth.inside.looks)
    c.berth.inside.seat.table_id c.args.berth.now c.berth.view_is c.berth.invariant
    c.requires.here.here c.give_up_as.new.seat.table_id c.give_up_as.ensures.table.0
    c.give_up_as.new.seat.me ((given_up_on
    (name_of kind.Steal c.berth.inside.state.place c.args.victim) 2) c.berth.invariant.view)
    (turned (given_up_on (name_of kind.Steal c.berth.inside.state.place c.args.victim) 2)
    c.berth.inside.seat.me c.give_up_as.new.seat.me c.berth.invariant.view
    c.berth.invariant.me_is c.give_up_as.ensures.moved) c.rest_unless.new.state
    c.count_shrug.new.counters)
