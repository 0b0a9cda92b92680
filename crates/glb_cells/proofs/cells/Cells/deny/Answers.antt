use Rattle.std.proofs.Common.{List, refl, sym, ap, ◌∙◌, subst, arith, Bool}
use Rattle.glb_rules.specs.Events.{name_of}
use Rattle.glb_rules.specs.declared.event.Event.TheVariants as event
use Rattle.glb_place.specs.Rows.{deny_row}
use Rattle.glb_cells.specs.Plays.{denied_at, denied_on}
use Rattle.glb_cells.specs.inner.Keeping.{IsBeside, table_of}
use Rattle.glb_cells.proofs.BerthLemmas.Opened.{turned, numbered, table_is, object_is, place_is, may_at, ends, is_free, still_free, moved, found_now}
use Rattle.glb_cells.proofs.BerthLemmas.There.{there_deny}
use Rattle.glb_cells.proofs.BerthLemmas.States.{denies_beside}
use Rattle.glb_cells.proofs.cells.Cells.deny.Goals as goal

pub number-edge-requires-clause-thief : goal.number-edge-requires-clause-thief
number-edge-requires-clause-thief g c =
    let m = may_at c.args.self.now c.berth.inside.seat.me c.berth.inside.state
    c.berth.inside.counters c.berth.inside.held.items (table_of c.berth.inside.looks)
    c.berth.inside.seat.table_id c.args.berth.now c.berth.view_is c.berth.invariant
    c.requires.here.here (λ p. event.Deny p c.args.thief c.args.kind) c.requires.may in
    let there = there_deny c.berth.invariant.view.own c.berth.invariant.beside.listed c.args.kind
    c.args.thief c.berth.inside.state.place m in
    let e = ends c.args.self.now c.berth.inside.seat.me c.berth.inside.state c.berth.inside.counters
    c.berth.inside.held.items (table_of c.berth.inside.looks) c.berth.inside.seat.table_id
    c.args.berth.now c.berth.view_is c.berth.invariant c.requires.here.here
    (name_of c.args.kind c.args.thief c.berth.inside.state.place) m.1.1 m.1.0 there in
    e.thief

pub number-edge-requires-clause-victim : goal.number-edge-requires-clause-victim
number-edge-requires-clause-victim g c =
    let m = may_at c.args.self.now c.berth.inside.seat.me c.berth.inside.state
    c.berth.inside.counters c.berth.inside.held.items (table_of c.berth.inside.looks)
    c.berth.inside.seat.table_id c.args.berth.now c.berth.view_is c.berth.invariant
    c.requires.here.here (λ p. event.Deny p c.args.thief c.args.kind) c.requires.may in
    let there = there_deny c.berth.invariant.view.own c.berth.invariant.beside.listed c.args.kind
    c.args.thief c.berth.inside.state.place m in
    let e = ends c.args.self.now c.berth.inside.seat.me c.berth.inside.state c.berth.inside.counters
    c.berth.inside.held.items (table_of c.berth.inside.looks) c.berth.inside.seat.table_id
    c.args.berth.now c.berth.view_is c.berth.invariant c.requires.here.here
    (name_of c.args.kind c.args.thief c.berth.inside.state.place) m.1.1 m.1.0 there in
    e.victim

pub number-edge-requires-clause-there : goal.number-edge-requires-clause-there
number-edge-requires-clause-there g c =
    let m = may_at c.args.self.now c.berth.inside.seat.me c.berth.inside.state
    c.berth.inside.counters c.berth.inside.held.items (table_of c.berth.inside.looks)
    c.berth.inside.seat.table_id c.args.berth.now c.berth.view_is c.berth.invariant
    c.requires.here.here (λ p. event.Deny p c.args.thief c.args.kind) c.requires.may in
    let there = there_deny c.berth.invariant.view.own c.berth.invariant.beside.listed c.args.kind
    c.args.thief c.berth.inside.state.place m in
    let e = ends c.args.self.now c.berth.inside.seat.me c.berth.inside.state c.berth.inside.counters
    c.berth.inside.held.items (table_of c.berth.inside.looks) c.berth.inside.seat.table_id
    c.args.berth.now c.berth.view_is c.berth.invariant c.requires.here.here
    (name_of c.args.kind c.args.thief c.berth.inside.state.place) m.1.1 m.1.0 there in
    e.there

pub deny_as-requires-clause-table : goal.deny_as-requires-clause-table
deny_as-requires-clause-table g c =
    let n = numbered g.B.Bag.items c.self.inside.table.shared.key
    c.self.inside.table.shared.table_id c.args.self.now c.self.view_is c.number-edge.result
    (name_of c.args.kind c.args.thief c.berth.inside.state.place) c.number-edge.ensures.name
    c.number-edge.ensures.small in (
      table_is g.B.Bag.items c.self.inside.table.shared.key c.self.inside.table.shared.table_id
          c.args.self.now c.self.view_is c.berth.inside.seat.table_id
          (object_is c.args.self.now c.berth.inside.seat.me c.berth.inside.state
          c.berth.inside.counters c.berth.inside.held.items (table_of c.berth.inside.looks)
          c.berth.inside.seat.table_id c.args.berth.now c.berth.view_is c.berth.invariant
          c.requires.here.here),
      n.small,
      n.few,
    )

pub deny_as-requires-clause-name : goal.deny_as-requires-clause-name
deny_as-requires-clause-name g c =
    (numbered g.B.Bag.items c.self.inside.table.shared.key c.self.inside.table.shared.table_id
    c.args.self.now c.self.view_is c.number-edge.result
    (name_of c.args.kind c.args.thief c.berth.inside.state.place) c.number-edge.ensures.name
    c.number-edge.ensures.small).name

pub deny_as-requires-clause-ready : goal.deny_as-requires-clause-ready
deny_as-requires-clause-ready g c =
    let m = may_at c.args.self.now c.berth.inside.seat.me c.berth.inside.state
    c.berth.inside.counters c.berth.inside.held.items (table_of c.berth.inside.looks)
    c.berth.inside.seat.table_id c.args.berth.now c.berth.view_is c.berth.invariant
    c.requires.here.here (λ p. event.Deny p c.args.thief c.args.kind) c.requires.may in
    let there = there_deny c.berth.invariant.view.own c.berth.invariant.beside.listed c.args.kind
    c.args.thief c.berth.inside.state.place m in
    let e = ends c.args.self.now c.berth.inside.seat.me c.berth.inside.state c.berth.inside.counters
    c.berth.inside.held.items (table_of c.berth.inside.looks) c.berth.inside.seat.table_id
    c.args.berth.now c.berth.view_is c.berth.invariant c.requires.here.here
    (name_of c.args.kind c.args.thief c.berth.inside.state.place) m.1.1 m.1.0 there in (
      c.berth.invariant.view,
      c.berth.invariant.me_is,
      (
        is_free c.berth.invariant.me_is (ap (λ b. b.slot) c.berth.view_is ∙ c.requires.here.free),
        m,
      ),
    )

pub hold-requires : goal.hold-requires
hold-requires g c =
    let m = may_at c.args.self.now c.berth.inside.seat.me c.berth.inside.state
    c.berth.inside.counters c.berth.inside.held.items (table_of c.berth.inside.looks)
    c.berth.inside.seat.table_id c.args.berth.now c.berth.view_is c.berth.invariant
    c.requires.here.here (λ p. event.Deny p c.args.thief c.args.kind) c.requires.may in
    let there = there_deny c.berth.invariant.view.own c.berth.invariant.beside.listed c.args.kind
    c.args.thief c.berth.inside.state.place m in
    let e = ends c.args.self.now c.berth.inside.seat.me c.berth.inside.state c.berth.inside.counters
    c.berth.inside.held.items (table_of c.berth.inside.looks) c.berth.inside.seat.table_id
    c.args.berth.now c.berth.view_is c.berth.invariant c.requires.here.here
    (name_of c.args.kind c.args.thief c.berth.inside.state.place) m.1.1 m.1.0 there in
    let l = c.berth.invariant.beside.held_long in omega (arith, m.1.1, l)

pub invariant_of-berth : goal.invariant_of-berth
invariant_of-berth g c =
    let m = may_at c.args.self.now c.berth.inside.seat.me c.berth.inside.state
    c.berth.inside.counters c.berth.inside.held.items (table_of c.berth.inside.looks)
    c.berth.inside.seat.table_id c.args.berth.now c.berth.view_is c.berth.invariant
    c.requires.here.here (λ p. event.Deny p c.args.thief c.args.kind) c.requires.may in
    let there = there_deny c.berth.invariant.view.own c.berth.invariant.beside.listed c.args.kind
    c.args.thief c.berth.inside.state.place m in
    let e = ends c.args.self.now c.berth.inside.seat.me c.berth.inside.state c.berth.inside.counters
    c.berth.inside.held.items (table_of c.berth.inside.looks) c.berth.inside.seat.table_id
    c.args.berth.now c.berth.view_is c.berth.invariant c.requires.here.here
    (name_of c.args.kind c.args.thief c.berth.inside.state.place) m.1.1 m.1.0 there in
    record {
      view = (denied_on (name_of c.args.kind c.args.thief c.berth.inside.state.place) 1)
          c.berth.invariant.view;
      me_is = (turned (denied_on (name_of c.args.kind c.args.thief c.berth.inside.state.place) 1)
          c.berth.inside.seat.me c.deny_as.new.seat.me c.berth.invariant.view
          c.berth.invariant.me_is c.deny_as.ensures.moved);
      beside = subst (λ (h : List Bool). IsBeside
          (denied_at (name_of c.args.kind c.args.thief c.berth.inside.state.place)
          c.berth.invariant.view.own) c.berth.inside.state c.count_denied.new.counters h
          (table_of c.berth.inside.looks)) (sym c.hold.ensures)
          (denies_beside c.berth.invariant.view.own c.berth.inside.state c.berth.inside.counters
          c.berth.inside.held.items (table_of c.berth.inside.looks) c.berth.invariant.beside
          c.args.kind c.args.thief c.count_denied.new.counters
          (c.count_denied.ensures c.berth.invariant.view.own.local.count
          c.berth.invariant.beside.counters) there m.1.1);
    }

pub returns-clause-here : goal.returns-clause-here
returns-clause-here g c =
    still_free c.args.self.now c.berth.inside.seat.me c.berth.inside.state c.berth.inside.counters
    c.berth.inside.held.items (table_of c.berth.inside.looks) c.berth.inside.seat.table_id
    c.args.berth.now c.berth.view_is c.berth.invariant c.requires.here.here
    c.deny_as.new.seat.table_id c.deny_as.ensures.table.0 c.deny_as.new.seat.me
    ((denied_on (name_of c.args.kind c.args.thief c.berth.inside.state.place) 1)
    c.berth.invariant.view) (turned (denied_on
    (name_of c.args.kind c.args.thief c.berth.inside.state.place) 1) c.berth.inside.seat.me
    c.deny_as.new.seat.me c.berth.invariant.view c.berth.invariant.me_is
    c.deny_as.ensures.moved) c.berth.inside.state c.count_denied.new.counters refl refl refl
    refl
    (is_free c.berth.invariant.me_is (ap (λ b. b.slot) c.berth.view_is ∙ c.requires.here.free))

pub returns-clause-moved : goal.returns-clause-moved
returns-clause-moved g c =
    moved c.args.self.now c.berth.inside.seat.me c.berth.inside.state c.berth.inside.counters
    c.berth.inside.held.items (table_of c.berth.inside.looks) c.berth.inside.seat.table_id
    c.args.berth.now c.berth.view_is c.berth.invariant c.requires.here.here
    c.deny_as.new.seat.table_id c.deny_as.ensures.table.0 c.deny_as.new.seat.me
    ((denied_on (name_of c.args.kind c.args.thief c.berth.inside.state.place) 1)
    c.berth.invariant.view) (turned (denied_on
    (name_of c.args.kind c.args.thief c.berth.inside.state.place) 1) c.berth.inside.seat.me
    c.deny_as.new.seat.me c.berth.invariant.view c.berth.invariant.me_is
    c.deny_as.ensures.moved) c.berth.inside.state c.count_denied.new.counters 1
    (deny_row c.args.thief c.args.kind) (ap
    (λ p. denied_at (name_of c.args.kind c.args.thief p) c.berth.invariant.view.own)
    (sym (place_is c.args.self.now c.berth.inside.seat.me c.berth.inside.state
    c.berth.inside.counters c.berth.inside.held.items (table_of c.berth.inside.looks)
    c.berth.inside.seat.table_id c.args.berth.now c.berth.view_is c.berth.invariant
    c.requires.here.here))) refl refl refl

pub returns-clause-found : goal.returns-clause-found
returns-clause-found g c =
    sym (found_now c.args.self.now c.berth.inside.seat.me c.berth.inside.state
    c.berth.inside.counters c.berth.inside.held.items (table_of c.berth.inside.looks)
    c.berth.inside.seat.table_id c.args.berth.now c.berth.view_is c.berth.invariant
    c.requires.here.here c.deny_as.new.seat.table_id c.deny_as.ensures.table.0 c.deny_as.new.seat.me
    ((denied_on (name_of c.args.kind c.args.thief c.berth.inside.state.place) 1)
    c.berth.invariant.view) (turned (denied_on
    (name_of c.args.kind c.args.thief c.berth.inside.state.place) 1) c.berth.inside.seat.me
    c.deny_as.new.seat.me c.berth.invariant.view c.berth.invariant.me_is
    c.deny_as.ensures.moved) c.berth.inside.state c.count_denied.new.counters)
