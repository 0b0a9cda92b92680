use Rattle.std.proofs.Common.{List, ◌≡◌, ◌+◌, ◌++◌, sym, ap, ◌∙◌, subst, arith, Bool}
use Rattle.std.specs.Prelude.{IsPermutation}
use Rattle.glb_rules.specs.Events.{name_of}
use Rattle.glb_rules.specs.declared.event.Event.TheVariants as event
use Rattle.glb_rules.specs.declared.place_state.PlaceState.{PlaceState}
use Rattle.glb_place.specs.declared.record.Record.{Record}
use Rattle.glb_place.specs.Calls.{HasMore}
use Rattle.glb_place.specs.Rows.{give_row}
use Rattle.glb_cells.specs.declared.view.View.{View}
use Rattle.glb_cells.specs.Plays.{Seated, OnFirst, gave_at}
use Rattle.glb_cells.specs.Berths.{size_after_gift}
use Rattle.glb_cells.specs.inner.Keeping.{IsBeside, table_of}
use Rattle.glb_cells.proofs.BerthLemmas.Opened.{numbered, table_is, kept_is, object_is, program_is, place_is, may_at, size_was, ends, is_free, still_free, makes, kept_now}
use Rattle.glb_cells.proofs.BerthLemmas.There.{one_view, begins_as, there_give}
use Rattle.glb_cells.proofs.BerthLemmas.States.{given_beside}
use Rattle.glb_cells.proofs.cells.Cells.give.Goals as goal

pub number-edge-requires-clause-thief : goal.number-edge-requires-clause-thief
number-edge-requires-clause-thief g c =
    let m = may_at c.args.self.now c.berth.inside.seat.me c.berth.inside.state
    c.berth.inside.counters c.berth.inside.held.items (table_of c.berth.inside.looks)
    c.berth.inside.seat.table_id c.args.berth.now c.berth.view_is c.berth.invariant
    c.requires.here.here (λ p. event.Give p c.args.thief c.args.kind) c.requires.may in
    let there = there_give c.berth.invariant.view.own c.berth.invariant.beside.listed c.args.kind
    c.args.thief c.berth.inside.state.place m in
    let e = ends c.args.self.now c.berth.inside.seat.me c.berth.inside.state c.berth.inside.counters
    c.berth.inside.held.items (table_of c.berth.inside.looks) c.berth.inside.seat.table_id
    c.args.berth.now c.berth.view_is c.berth.invariant c.requires.here.here
    (name_of c.args.kind c.args.thief c.berth.inside.state.place) m.1.1 m.1.0 there in
    e.thief

pub number-edge-requires-clause-victim : goal.number-edge-requires-clause-victim
number-edge-requires-clause-victim g c =
    let m = may_at c.args.self.now c.berth.inside.seat.me c.berth.inside.state
    c.berth.inside.counters c.berth.inside.held.items (table_of c.berth.inside.looks)
    c.berth.inside.seat.table_id c.args.berth.now c.berth.view_is c.berth.invariant
    c.requires.here.here (λ p. event.Give p c.args.thief c.args.kind) c.requires.may in
    let there = there_give c.berth.invariant.view.own c.berth.invariant.beside.listed c.args.kind
    c.args.thief c.berth.inside.state.place m in
    let e = ends c.args.self.now c.berth.inside.seat.me c.berth.inside.state c.berth.inside.counters
    c.berth.inside.held.items (table_of c.berth.inside.looks) c.berth.inside.seat.table_id
    c.args.berth.now c.berth.view_is c.berth.invariant c.requires.here.here
    (name_of c.args.kind c.args.thief c.berth.inside.state.place) m.1.1 m.1.0 there in
    e.victim

pub number-edge-requires-clause-there : goal.number-edge-requires-clause-there
number-edge-requires-clause-there g c =
    let m = may_at c.args.self.now c.berth.inside.seat.me c.berth.inside.state
    c.berth.inside.counters c.berth.inside.held.items (table_of c.berth.inside.looks)
    c.berth.inside.seat.table_id c.args.berth.now c.berth.view_is c.berth.invariant
    c.requires.here.here (λ p. event.Give p c.args.thief c.args.kind) c.requires.may in
    let there = there_give c.berth.invariant.view.own c.berth.invariant.beside.listed c.args.kind
    c.args.thief c.berth.inside.state.place m in
    let e = ends c.args.self.now c.berth.inside.seat.me c.berth.inside.state c.berth.inside.counters
    c.berth.inside.held.items (table_of c.berth.inside.looks) c.berth.inside.seat.table_id
    c.args.berth.now c.berth.view_is c.berth.invariant c.requires.here.here
    (name_of c.args.kind c.args.thief c.berth.inside.state.place) m.1.1 m.1.0 there in
    e.there

pub give_as-requires-clause-table : goal.give_as-requires-clause-table
give_as-requires-clause-table g c =
    let n = numbered g.B.Bag.items c.self.inside.table.shared.key
    c.self.inside.table.shared.table_id c.args.self.now c.self.view_is c.number-edge.result
    (name_of c.args.kind c.args.thief c.berth.inside.state.place) c.number-edge.ensures.name
    c.number-edge.ensures.small in (
      table_is g.B.Bag.items c.self.inside.table.shared.key c.self.inside.table.shared.table_id
          c.args.self.now c.self.view_is c.berth.inside.seat.table_id
          (object_is c.args.self.now c.berth.inside.seat.me c.berth.inside.state
          c.berth.inside.counters c.berth.inside.held.items (table_of c.berth.inside.looks)
          c.berth.inside.seat.table_id c.args.berth.now c.berth.view_is c.berth.invariant
          c.requires.here.here),
      n.small,
      n.few,
    )

pub give_as-requires-clause-name : goal.give_as-requires-clause-name
give_as-requires-clause-name g c =
    (numbered g.B.Bag.items c.self.inside.table.shared.key c.self.inside.table.shared.table_id
    c.args.self.now c.self.view_is c.number-edge.result
    (name_of c.args.kind c.args.thief c.berth.inside.state.place) c.number-edge.ensures.name
    c.number-edge.ensures.small).name

pub begin_word-word-requires : goal.begin_word-word-requires
begin_word-word-requires g c =
    let m = may_at c.args.self.now c.berth.inside.seat.me c.berth.inside.state
    c.berth.inside.counters c.berth.inside.held.items (table_of c.berth.inside.looks)
    c.berth.inside.seat.table_id c.args.berth.now c.berth.view_is c.berth.invariant
    c.requires.here.here (λ p. event.Give p c.args.thief c.args.kind) c.requires.may in
    let there = there_give c.berth.invariant.view.own c.berth.invariant.beside.listed c.args.kind
    c.args.thief c.berth.inside.state.place m in
    let e = ends c.args.self.now c.berth.inside.seat.me c.berth.inside.state c.berth.inside.counters
    c.berth.inside.held.items (table_of c.berth.inside.looks) c.berth.inside.seat.table_id
    c.args.berth.now c.berth.view_is c.berth.invariant c.requires.here.here
    (name_of c.args.kind c.args.thief c.berth.inside.state.place) m.1.1 m.1.0 there in
    let l = c.berth.invariant.beside.held_long in omega (arith, m.1.1, l)

pub give_as-requires-clause-ready : goal.give_as-requires-clause-ready
give_as-requires-clause-ready g c =
    let m = may_at c.args.self.now c.berth.inside.seat.me c.berth.inside.state
    c.berth.inside.counters c.berth.inside.held.items (table_of c.berth.inside.looks)
    c.berth.inside.seat.table_id c.args.berth.now c.berth.view_is c.berth.invariant
    c.requires.here.here (λ p. event.Give p c.args.thief c.args.kind) c.requires.may in
    let there = there_give c.berth.invariant.view.own c.berth.invariant.beside.listed c.args.kind
    c.args.thief c.berth.inside.state.place m in
    let e = ends c.args.self.now c.berth.inside.seat.me c.berth.inside.state c.berth.inside.counters
    c.berth.inside.held.items (table_of c.berth.inside.looks) c.berth.inside.seat.table_id
    c.args.berth.now c.berth.view_is c.berth.invariant c.requires.here.here
    (name_of c.args.kind c.args.thief c.berth.inside.state.place) m.1.1 m.1.0 there in (
      c.berth.invariant.view,
      c.berth.invariant.me_is,
      (
        (
          is_free c.berth.invariant.me_is (ap (λ b. b.slot) c.berth.view_is ∙ c.requires.here.free),
          m,
          c.requires.part,
          subst (HasMore (g.B.Bag.items c.args.part))
              (kept_is c.args.self.now c.berth.inside.seat.me c.berth.inside.state c.berth.inside.counters
              c.berth.inside.held.items (table_of c.berth.inside.looks) c.berth.inside.seat.table_id
              c.args.berth.now c.berth.view_is c.berth.invariant c.requires.here.here) c.requires.rest,
        ),
        begins_as c.berth.invariant.view.own c.berth.invariant.beside.listed c.berth.inside.held.items
            c.berth.invariant.beside.holds c.args.kind c.args.thief c.berth.inside.state.place
            c.berth.invariant.beside.state.place m there ∙ sym c.begin_word-word.ensures,
      ),
    )

pub give_as-requires-clause-fits : goal.give_as-requires-clause-fits
give_as-requires-clause-fits g c =
    subst (λ (m : Seated g.row.B.Denot g.row.P.Denot g.row.P-Item.Denot). OnFirst
    (λ (v : View g.row.P.Denot g.row.P-Item.Denot). g.B.Bag.fits c.args.part v.program) m.0)
    (sym c.berth.invariant.me_is) (subst (g.B.Bag.fits c.args.part)
    (sym (program_is c.args.self.now c.berth.inside.seat.me c.berth.inside.state
    c.berth.inside.counters c.berth.inside.held.items (table_of c.berth.inside.looks)
    c.berth.inside.seat.table_id c.args.berth.now c.berth.view_is c.berth.invariant
    c.requires.here.here)) c.requires.fits)

pub hold-requires : goal.hold-requires
hold-requires g c =
    let m = may_at c.args.self.now c.berth.inside.seat.me c.berth.inside.state
    c.berth.inside.counters c.berth.inside.held.items (table_of c.berth.inside.looks)
    c.berth.inside.seat.table_id c.args.berth.now c.berth.view_is c.berth.invariant
    c.requires.here.here (λ p. event.Give p c.args.thief c.args.kind) c.requires.may in
    let there = there_give c.berth.invariant.view.own c.berth.invariant.beside.listed c.args.kind
    c.args.thief c.berth.inside.state.place m in
    let e = ends c.args.self.now c.berth.inside.seat.me c.berth.inside.state c.berth.inside.counters
    c.berth.inside.held.items (table_of c.berth.inside.looks) c.berth.inside.seat.table_id
    c.args.berth.now c.berth.view_is c.berth.invariant c.requires.here.here
    (name_of c.args.kind c.args.thief c.berth.inside.state.place) m.1.1 m.1.0 there in
    let l = c.berth.invariant.beside.held_long in omega (arith, m.1.1, l)

pub invariant_of-berth : goal.invariant_of-berth
invariant_of-berth g c =
    let m = may_at c.args.self.now c.berth.inside.seat.me c.berth.inside.state
    c.berth.inside.counters c.berth.inside.held.items (table_of c.berth.inside.looks)
    c.berth.inside.seat.table_id c.args.berth.now c.berth.view_is c.berth.invariant
    c.requires.here.here (λ p. event.Give p c.args.thief c.args.kind) c.requires.may in
    let there = there_give c.berth.invariant.view.own c.berth.invariant.beside.listed c.args.kind
    c.args.thief c.berth.inside.state.place m in
    let e = ends c.args.self.now c.berth.inside.seat.me c.berth.inside.state c.berth.inside.counters
    c.berth.inside.held.items (table_of c.berth.inside.looks) c.berth.inside.seat.table_id
    c.args.berth.now c.berth.view_is c.berth.invariant c.requires.here.here
    (name_of c.args.kind c.args.thief c.berth.inside.state.place) m.1.1 m.1.0 there in
    let t = c.give_as.ensures.moved in
    let same : c.berth.invariant.view ≡ t.0 = one_view c.berth.inside.seat.me c.berth.invariant.view
    t.0 c.berth.invariant.me_is t.1 in
    let row = t.2.2.0.3 ∙ ap (λ (v : View g.row.P.Denot g.row.P-Item.Denot). gave_at
    (name_of c.args.kind c.args.thief c.berth.inside.state.place) (g.B.Bag.items c.args.part)
    t.2.2.0.0 v.own) (sym same) in
    let perm = subst (λ (v : View g.row.P.Denot g.row.P-Item.Denot). IsPermutation v.own.local.bag
    ((g.B.Bag.items c.args.part) ++ t.2.2.0.0)) (sym same) t.2.2.0.1 in
    let beside = given_beside c.berth.invariant.view.own c.berth.inside.state
    c.berth.inside.counters c.berth.inside.held.items (table_of c.berth.inside.looks)
    c.berth.invariant.beside c.args.kind c.args.thief c.len-units.result
    (g.B.Bag.items c.args.part) t.2.2.0.0 c.count_given.new.counters c.len-units.ensures perm
    (c.count_given.ensures c.berth.invariant.view.own.local.count
    c.berth.invariant.beside.counters) there m.1.1 in
    record {
      view = t.2.0;
      me_is = t.2.1;
      beside = subst (λ (z : Record g.row.P-Item.Denot × PlaceState × List Bool). IsBeside z.0 z.1
          c.count_given.new.counters z.2 (table_of c.berth.inside.looks))
          (λ i. (sym row i, sym c.give.ensures i, sym c.hold.ensures i)) beside;
    }

pub returns-clause-here : goal.returns-clause-here
returns-clause-here g c =
    let m = may_at c.args.self.now c.berth.inside.seat.me c.berth.inside.state
    c.berth.inside.counters c.berth.inside.held.items (table_of c.berth.inside.looks)
    c.berth.inside.seat.table_id c.args.berth.now c.berth.view_is c.berth.invariant
    c.requires.here.here (λ p. event.Give p c.args.thief c.args.kind) c.requires.may in
    let there = there_give c.berth.invariant.view.own c.berth.invariant.beside.listed c.args.kind
    c.args.thief c.berth.inside.state.place m in
    let e = ends c.args.self.now c.berth.inside.seat.me c.berth.inside.state c.berth.inside.counters
    c.berth.inside.held.items (table_of c.berth.inside.looks) c.berth.inside.seat.table_id
    c.args.berth.now c.berth.view_is c.berth.invariant c.requires.here.here
    (name_of c.args.kind c.args.thief c.berth.inside.state.place) m.1.1 m.1.0 there in
    let t = c.give_as.ensures.moved in
    let same : c.berth.invariant.view ≡ t.0 = one_view c.berth.inside.seat.me c.berth.invariant.view
    t.0 c.berth.invariant.me_is t.1 in
    let row = t.2.2.0.3 ∙ ap (λ (v : View g.row.P.Denot g.row.P-Item.Denot). gave_at
    (name_of c.args.kind c.args.thief c.berth.inside.state.place) (g.B.Bag.items c.args.part)
    t.2.2.0.0 v.own) (sym same) in
    let perm = subst (λ (v : View g.row.P.Denot g.row.P-Item.Denot). IsPermutation v.own.local.bag
    ((g.B.Bag.items c.args.part) ++ t.2.2.0.0)) (sym same) t.2.2.0.1 in
    still_free c.args.self.now c.berth.inside.seat.me c.berth.inside.state c.berth.inside.counters
    c.berth.inside.held.items (table_of c.berth.inside.looks) c.berth.inside.seat.table_id
    c.args.berth.now c.berth.view_is c.berth.invariant c.requires.here.here
    c.give_as.new.seat.table_id c.give_as.ensures.table.0 c.give_as.new.seat.me t.2.0 t.2.1
    c.give.new.state c.count_given.new.counters (t.2.2.1
    ∙ ap (λ (v : View g.row.P.Denot g.row.P-Item.Denot). v.program) (sym same))
    (ap (λ (x : Record g.row.P-Item.Denot). x.lines) row)
    (ap (λ (x : Record g.row.P-Item.Denot). x.params) row)
    (ap (λ (x : Record g.row.P-Item.Denot). x.place) row) t.2.2.2

pub returns-clause-makes : goal.returns-clause-makes
returns-clause-makes g c =
    let m = may_at c.args.self.now c.berth.inside.seat.me c.berth.inside.state
    c.berth.inside.counters c.berth.inside.held.items (table_of c.berth.inside.looks)
    c.berth.inside.seat.table_id c.args.berth.now c.berth.view_is c.berth.invariant
    c.requires.here.here (λ p. event.Give p c.args.thief c.args.kind) c.requires.may in
    let there = there_give c.berth.invariant.view.own c.berth.invariant.beside.listed c.args.kind
    c.args.thief c.berth.inside.state.place m in
    let e = ends c.args.self.now c.berth.inside.seat.me c.berth.inside.state c.berth.inside.counters
    c.berth.inside.held.items (table_of c.berth.inside.looks) c.berth.inside.seat.table_id
    c.args.berth.now c.berth.view_is c.berth.invariant c.requires.here.here
    (name_of c.args.kind c.args.thief c.berth.inside.state.place) m.1.1 m.1.0 there in
    let t = c.give_as.ensures.moved in
    let same : c.berth.invariant.view ≡ t.0 = one_view c.berth.inside.seat.me c.berth.invariant.view
    t.0 c.berth.invariant.me_is t.1 in
    let row = t.2.2.0.3 ∙ ap (λ (v : View g.row.P.Denot g.row.P-Item.Denot). gave_at
    (name_of c.args.kind c.args.thief c.berth.inside.state.place) (g.B.Bag.items c.args.part)
    t.2.2.0.0 v.own) (sym same) in
    let perm = subst (λ (v : View g.row.P.Denot g.row.P-Item.Denot). IsPermutation v.own.local.bag
    ((g.B.Bag.items c.args.part) ++ t.2.2.0.0)) (sym same) t.2.2.0.1 in
    makes c.args.self.now c.berth.inside.seat.me c.berth.inside.state c.berth.inside.counters
    c.berth.inside.held.items (table_of c.berth.inside.looks) c.berth.inside.seat.table_id
    c.args.berth.now c.berth.view_is c.berth.invariant c.requires.here.here
    c.give_as.new.seat.table_id c.give_as.ensures.table.0 c.give_as.new.seat.me t.2.0 t.2.1
    c.give.new.state c.count_given.new.counters 2 (t.2.2.3
    ∙ ap (λ (v : View g.row.P.Denot g.row.P-Item.Denot). v.steps + 2) (sym same))
    (t.2.2.2 ∙ sym (is_free c.berth.invariant.me_is (ap (λ b. b.slot) c.berth.view_is ∙ c.requires.here.free)))

pub returns-clause-kept : goal.returns-clause-kept
returns-clause-kept g c =
    let m = may_at c.args.self.now c.berth.inside.seat.me c.berth.inside.state
    c.berth.inside.counters c.berth.inside.held.items (table_of c.berth.inside.looks)
    c.berth.inside.seat.table_id c.args.berth.now c.berth.view_is c.berth.invariant
    c.requires.here.here (λ p. event.Give p c.args.thief c.args.kind) c.requires.may in
    let there = there_give c.berth.invariant.view.own c.berth.invariant.beside.listed c.args.kind
    c.args.thief c.berth.inside.state.place m in
    let e = ends c.args.self.now c.berth.inside.seat.me c.berth.inside.state c.berth.inside.counters
    c.berth.inside.held.items (table_of c.berth.inside.looks) c.berth.inside.seat.table_id
    c.args.berth.now c.berth.view_is c.berth.invariant c.requires.here.here
    (name_of c.args.kind c.args.thief c.berth.inside.state.place) m.1.1 m.1.0 there in
    let t = c.give_as.ensures.moved in
    let same : c.berth.invariant.view ≡ t.0 = one_view c.berth.inside.seat.me c.berth.invariant.view
    t.0 c.berth.invariant.me_is t.1 in
    let row = t.2.2.0.3 ∙ ap (λ (v : View g.row.P.Denot g.row.P-Item.Denot). gave_at
    (name_of c.args.kind c.args.thief c.berth.inside.state.place) (g.B.Bag.items c.args.part)
    t.2.2.0.0 v.own) (sym same) in
    let perm = subst (λ (v : View g.row.P.Denot g.row.P-Item.Denot). IsPermutation v.own.local.bag
    ((g.B.Bag.items c.args.part) ++ t.2.2.0.0)) (sym same) t.2.2.0.1 in (
      t.2.2.0.0,
      subst (λ (x : Record g.row.P-Item.Denot). IsPermutation x.local.bag
          ((g.B.Bag.items c.args.part) ++ t.2.2.0.0))
          (sym (kept_is c.args.self.now c.berth.inside.seat.me c.berth.inside.state
          c.berth.inside.counters c.berth.inside.held.items (table_of c.berth.inside.looks)
          c.berth.inside.seat.table_id c.args.berth.now c.berth.view_is c.berth.invariant
          c.requires.here.here)) perm,
      t.2.2.0.2,
      sym (kept_now c.args.self.now c.berth.inside.seat.me c.berth.inside.state
          c.berth.inside.counters c.berth.inside.held.items (table_of c.berth.inside.looks)
          c.berth.inside.seat.table_id c.args.berth.now c.berth.view_is c.berth.invariant
          c.requires.here.here c.give_as.new.seat.table_id c.give_as.ensures.table.0 c.give_as.new.seat.me
          t.2.0 t.2.1 c.give.new.state c.count_given.new.counters) ∙ row
          ∙ ap (λ p. gave_at (name_of c.args.kind c.args.thief p) (g.B.Bag.items c.args.part)
          t.2.2.0.0 c.berth.invariant.view.own) (sym
          (place_is c.args.self.now c.berth.inside.seat.me c.berth.inside.state
          c.berth.inside.counters c.berth.inside.held.items (table_of c.berth.inside.looks)
          c.berth.inside.seat.table_id c.args.berth.now c.berth.view_is c.berth.invariant
          c.requires.here.here)) ∙ ap (give_row c.args.thief c.args.kind (g.B.Bag.items c.args.part)
          t.2.2.0.0) (sym (kept_is c.args.self.now c.berth.inside.seat.me c.berth.inside.state
          c.berth.inside.counters c.berth.inside.held.items (table_of c.berth.inside.looks)
          c.berth.inside.seat.table_id c.args.berth.now c.berth.view_is c.berth.invariant
          c.requires.here.here)),
    )

pub returns-clause-size : goal.returns-clause-size
returns-clause-size g c =
    ap (λ (s : PlaceState). s.size) c.give.ensures
    ∙ (λ i. size_after_gift (c.len-units.ensures i)
    (sym (size_was c.args.self.now c.berth.inside.seat.me c.berth.inside.state
    c.berth.inside.counters c.berth.inside.held.items (table_of c.berth.inside.looks)
    c.berth.inside.seat.table_id c.args.berth.now c.berth.view_is c.berth.invariant
    c.requires.here.here) i))
