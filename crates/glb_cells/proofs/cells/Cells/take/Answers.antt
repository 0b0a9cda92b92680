use Rattle.std.proofs.Common.{◌≡◌, ◌+◌, ◌++◌, sym, ap, ◌∙◌, subst}
use Rattle.glb_rules.specs.Events.{name_of}
use Rattle.glb_rules.specs.declared.event.Event.TheVariants as event
use Rattle.glb_rules.specs.declared.place_state.PlaceState.{PlaceState}
use Rattle.glb_place.specs.declared.record.Record.{Record}
use Rattle.glb_place.specs.Rows.{take_row}
use Rattle.glb_cells.specs.declared.view.View.{View}
use Rattle.glb_cells.specs.Plays.{took_at}
use Rattle.glb_cells.specs.Berths.{size_after_take}
use Rattle.glb_cells.specs.inner.Keeping.{IsBeside, table_of}
use Rattle.glb_cells.proofs.BerthLemmas.Opened.{numbered, table_is, kept_is, object_is, program_is, place_is, may_at, size_was, ends, is_free, still_free, makes, kept_now}
use Rattle.glb_cells.proofs.BerthLemmas.There.{one_view, there_take}
use Rattle.glb_cells.proofs.BerthLemmas.States.{taken_beside}
use Rattle.glb_cells.proofs.cells.Cells.take.Goals as goal

pub number-edge-requires-clause-thief : goal.number-edge-requires-clause-thief
number-edge-requires-clause-thief g c =
    let m = may_at c.args.self.now c.berth.inside.seat.me c.berth.inside.state
    c.berth.inside.counters c.berth.inside.held.items (table_of c.berth.inside.looks)
    c.berth.inside.seat.table_id c.args.berth.now c.berth.view_is c.berth.invariant
    c.requires.here.here (λ p. event.Take p c.args.victim c.args.kind) c.requires.may in
    let there = there_take c.berth.invariant.view.own c.berth.invariant.beside.listed c.args.kind
    c.berth.inside.state.place c.args.victim m in
    let e = ends c.args.self.now c.berth.inside.seat.me c.berth.inside.state c.berth.inside.counters
    c.berth.inside.held.items (table_of c.berth.inside.looks) c.berth.inside.seat.table_id
    c.args.berth.now c.berth.view_is c.berth.invariant c.requires.here.here
    (name_of c.args.kind c.berth.inside.state.place c.args.victim) m.1.0 m.1.2 there in
    e.thief

pub number-edge-requires-clause-victim : goal.number-edge-requires-clause-victim
number-edge-requires-clause-victim g c =
    let m = may_at c.args.self.now c.berth.inside.seat.me c.berth.inside.state
    c.berth.inside.counters c.berth.inside.held.items (table_of c.berth.inside.looks)
    c.berth.inside.seat.table_id c.args.berth.now c.berth.view_is c.berth.invariant
    c.requires.here.here (λ p. event.Take p c.args.victim c.args.kind) c.requires.may in
    let there = there_take c.berth.invariant.view.own c.berth.invariant.beside.listed c.args.kind
    c.berth.inside.state.place c.args.victim m in
    let e = ends c.args.self.now c.berth.inside.seat.me c.berth.inside.state c.berth.inside.counters
    c.berth.inside.held.items (table_of c.berth.inside.looks) c.berth.inside.seat.table_id
    c.args.berth.now c.berth.view_is c.berth.invariant c.requires.here.here
    (name_of c.args.kind c.berth.inside.state.place c.args.victim) m.1.0 m.1.2 there in
    e.victim

pub number-edge-requires-clause-there : goal.number-edge-requires-clause-there
number-edge-requires-clause-there g c =
    let m = may_at c.args.self.now c.berth.inside.seat.me c.berth.inside.state
    c.berth.inside.counters c.berth.inside.held.items (table_of c.berth.inside.looks)
    c.berth.inside.seat.table_id c.args.berth.now c.berth.view_is c.berth.invariant
    c.requires.here.here (λ p. event.Take p c.args.victim c.args.kind) c.requires.may in
    let there = there_take c.berth.invariant.view.own c.berth.invariant.beside.listed c.args.kind
    c.berth.inside.state.place c.args.victim m in
    let e = ends c.args.self.now c.berth.inside.seat.me c.berth.inside.state c.berth.inside.counters
    c.berth.inside.held.items (table_of c.berth.inside.looks) c.berth.inside.seat.table_id
    c.args.berth.now c.berth.view_is c.berth.invariant c.requires.here.here
    (name_of c.args.kind c.berth.inside.state.place c.args.victim) m.1.0 m.1.2 there in
    e.there

pub take_as-part-requires-clause-table : goal.take_as-part-requires-clause-table
take_as-part-requires-clause-table g c =
    let n = numbered g.B.Bag.items c.self.inside.table.shared.key
    c.self.inside.table.shared.table_id c.args.self.now c.self.view_is c.number-edge.result
    (name_of c.args.kind c.berth.inside.state.place c.args.victim) c.number-edge.ensures.name
    c.number-edge.ensures.small in (
      table_is g.B.Bag.items c.self.inside.table.shared.key c.self.inside.table.shared.table_id
          c.args.self.now c.self.view_is c.berth.inside.seat.table_id
          (object_is c.args.self.now c.berth.inside.seat.me c.berth.inside.state
          c.berth.inside.counters c.berth.inside.held.items (table_of c.berth.inside.looks)
          c.berth.inside.seat.table_id c.args.berth.now c.berth.view_is c.berth.invariant
          c.requires.here.here),
      n.small,
      n.few,
    )

pub take_as-part-requires-clause-name : goal.take_as-part-requires-clause-name
take_as-part-requires-clause-name g c =
    (numbered g.B.Bag.items c.self.inside.table.shared.key c.self.inside.table.shared.table_id
    c.args.self.now c.self.view_is c.number-edge.result
    (name_of c.args.kind c.berth.inside.state.place c.args.victim) c.number-edge.ensures.name
    c.number-edge.ensures.small).name

pub take_as-part-requires-clause-ready : goal.take_as-part-requires-clause-ready
take_as-part-requires-clause-ready g c =
    let m = may_at c.args.self.now c.berth.inside.seat.me c.berth.inside.state
    c.berth.inside.counters c.berth.inside.held.items (table_of c.berth.inside.looks)
    c.berth.inside.seat.table_id c.args.berth.now c.berth.view_is c.berth.invariant
    c.requires.here.here (λ p. event.Take p c.args.victim c.args.kind) c.requires.may in
    let there = there_take c.berth.invariant.view.own c.berth.invariant.beside.listed c.args.kind
    c.berth.inside.state.place c.args.victim m in
    let e = ends c.args.self.now c.berth.inside.seat.me c.berth.inside.state c.berth.inside.counters
    c.berth.inside.held.items (table_of c.berth.inside.looks) c.berth.inside.seat.table_id
    c.args.berth.now c.berth.view_is c.berth.invariant c.requires.here.here
    (name_of c.args.kind c.berth.inside.state.place c.args.victim) m.1.0 m.1.2 there in (
      c.berth.invariant.view,
      c.berth.invariant.me_is,
      (
        is_free c.berth.invariant.me_is (ap (λ b. b.slot) c.berth.view_is ∙ c.requires.here.free),
        m,
      ),
    )

pub invariant_of-berth : goal.invariant_of-berth
invariant_of-berth g c =
    let m = may_at c.args.self.now c.berth.inside.seat.me c.berth.inside.state
    c.berth.inside.counters c.berth.inside.held.items (table_of c.berth.inside.looks)
    c.berth.inside.seat.table_id c.args.berth.now c.berth.view_is c.berth.invariant
    c.requires.here.here (λ p. event.Take p c.args.victim c.args.kind) c.requires.may in
    let there = there_take c.berth.invariant.view.own c.berth.invariant.beside.listed c.args.kind
    c.berth.inside.state.place c.args.victim m in
    let e = ends c.args.self.now c.berth.inside.seat.me c.berth.inside.state c.berth.inside.counters
    c.berth.inside.held.items (table_of c.berth.inside.looks) c.berth.inside.seat.table_id
    c.args.berth.now c.berth.view_is c.berth.invariant c.requires.here.here
    (name_of c.args.kind c.berth.inside.state.place c.args.victim) m.1.0 m.1.2 there in
    let t = c.take_as-part.ensures.moved in
    let u = t.2.2 in
    let same : c.berth.invariant.view ≡ t.0 = one_view c.berth.inside.seat.me c.berth.invariant.view
    t.0 c.berth.invariant.me_is t.1 in
    let row = u.2.0 ∙ ap (λ (v : View g.row.P.Denot g.row.P-Item.Denot). took_at
    (name_of c.args.kind c.berth.inside.state.place c.args.victim)
    (g.B.Bag.items c.take_as-part.result) ((g.B.Bag.items c.take_as-part.result) ++
    v.own.local.bag) v.own) (sym same) in
    let beside = taken_beside c.berth.invariant.view.own c.berth.inside.state
    c.berth.inside.counters c.berth.inside.held.items (table_of c.berth.inside.looks)
    c.berth.invariant.beside c.args.kind c.args.victim c.len-units.result
    (g.B.Bag.items c.take_as-part.result) c.count_got.new.counters c.len-units.ensures
    (c.count_got.ensures c.berth.invariant.view.own.local.count
    c.berth.invariant.beside.counters) there in
    record {
      view = u.0;
      me_is = u.1;
      beside = subst (λ (z : Record g.row.P-Item.Denot × PlaceState). IsBeside z.0 z.1
          c.count_got.new.counters c.berth.inside.held.items (table_of c.berth.inside.looks))
          (λ i. (sym row i, sym c.take.ensures i)) beside;
    }

pub returns-clause-here : goal.returns-clause-here
returns-clause-here g c =
    let m = may_at c.args.self.now c.berth.inside.seat.me c.berth.inside.state
    c.berth.inside.counters c.berth.inside.held.items (table_of c.berth.inside.looks)
    c.berth.inside.seat.table_id c.args.berth.now c.berth.view_is c.berth.invariant
    c.requires.here.here (λ p. event.Take p c.args.victim c.args.kind) c.requires.may in
    let there = there_take c.berth.invariant.view.own c.berth.invariant.beside.listed c.args.kind
    c.berth.inside.state.place c.args.victim m in
    let e = ends c.args.self.now c.berth.inside.seat.me c.berth.inside.state c.berth.inside.counters
    c.berth.inside.held.items (table_of c.berth.inside.looks) c.berth.inside.seat.table_id
    c.args.berth.now c.berth.view_is c.berth.invariant c.requires.here.here
    (name_of c.args.kind c.berth.inside.state.place c.args.victim) m.1.0 m.1.2 there in
    let t = c.take_as-part.ensures.moved in
    let u = t.2.2 in
    let same : c.berth.invariant.view ≡ t.0 = one_view c.berth.inside.seat.me c.berth.invariant.view
    t.0 c.berth.invariant.me_is t.1 in
    let row = u.2.0 ∙ ap (λ (v : View g.row.P.Denot g.row.P-Item.Denot). took_at
    (name_of c.args.kind c.berth.inside.state.place c.args.victim)
    (g.B.Bag.items c.take_as-part.result) ((g.B.Bag.items c.take_as-part.result) ++
    v.own.local.bag) v.own) (sym same) in
    still_free c.args.self.now c.berth.inside.seat.me c.berth.inside.state c.berth.inside.counters
    c.berth.inside.held.items (table_of c.berth.inside.looks) c.berth.inside.seat.table_id
    c.args.berth.now c.berth.view_is c.berth.invariant c.requires.here.here
    c.take_as-part.new.seat.table_id c.take_as-part.ensures.table.0 c.take_as-part.new.seat.me
    u.0 u.1 c.take.new.state c.count_got.new.counters (u.2.1
    ∙ ap (λ (v : View g.row.P.Denot g.row.P-Item.Denot). v.program) (sym same))
    (ap (λ (x : Record g.row.P-Item.Denot). x.lines) row)
    (ap (λ (x : Record g.row.P-Item.Denot). x.params) row)
    (ap (λ (x : Record g.row.P-Item.Denot). x.place) row) u.2.2

pub returns-clause-makes : goal.returns-clause-makes
returns-clause-makes g c =
    let m = may_at c.args.self.now c.berth.inside.seat.me c.berth.inside.state
    c.berth.inside.counters c.berth.inside.held.items (table_of c.berth.inside.looks)
    c.berth.inside.seat.table_id c.args.berth.now c.berth.view_is c.berth.invariant
    c.requires.here.here (λ p. event.Take p c.args.victim c.args.kind) c.requires.may in
    let there = there_take c.berth.invariant.view.own c.berth.invariant.beside.listed c.args.kind
    c.berth.inside.state.place c.args.victim m in
    let e = ends c.args.self.now c.berth.inside.seat.me c.berth.inside.state c.berth.inside.counters
    c.berth.inside.held.items (table_of c.berth.inside.looks) c.berth.inside.seat.table_id
    c.args.berth.now c.berth.view_is c.berth.invariant c.requires.here.here
    (name_of c.args.kind c.berth.inside.state.place c.args.victim) m.1.0 m.1.2 there in
    let t = c.take_as-part.ensures.moved in
    let u = t.2.2 in
    let same : c.berth.invariant.view ≡ t.0 = one_view c.berth.inside.seat.me c.berth.invariant.view
    t.0 c.berth.invariant.me_is t.1 in
    let row = u.2.0 ∙ ap (λ (v : View g.row.P.Denot g.row.P-Item.Denot). took_at
    (name_of c.args.kind c.berth.inside.state.place c.args.victim)
    (g.B.Bag.items c.take_as-part.result) ((g.B.Bag.items c.take_as-part.result) ++
    v.own.local.bag) v.own) (sym same) in
    makes c.args.self.now c.berth.inside.seat.me c.berth.inside.state c.berth.inside.counters
    c.berth.inside.held.items (table_of c.berth.inside.looks) c.berth.inside.seat.table_id
    c.args.berth.now c.berth.view_is c.berth.invariant c.requires.here.here
    c.take_as-part.new.seat.table_id c.take_as-part.ensures.table.0 c.take_as-part.new.seat.me
    u.0 u.1 c.take.new.state c.count_got.new.counters 2 (u.2.3
    ∙ ap (λ (v : View g.row.P.Denot g.row.P-Item.Denot). v.steps + 2) (sym same))
    (u.2.2 ∙ sym (is_free c.berth.invariant.me_is (ap (λ b. b.slot) c.berth.view_is ∙ c.requires.here.free)))

pub returns-clause-kept : goal.returns-clause-kept
returns-clause-kept g c =
    let m = may_at c.args.self.now c.berth.inside.seat.me c.berth.inside.state
    c.berth.inside.counters c.berth.inside.held.items (table_of c.berth.inside.looks)
    c.berth.inside.seat.table_id c.args.berth.now c.berth.view_is c.berth.invariant
    c.requires.here.here (λ p. event.Take p c.args.victim c.args.kind) c.requires.may in
    let there = there_take c.berth.invariant.view.own c.berth.invariant.beside.listed c.args.kind
    c.berth.inside.state.place c.args.victim m in
    let e = ends c.args.self.now c.berth.inside.seat.me c.berth.inside.state c.berth.inside.counters
    c.berth.inside.held.items (table_of c.berth.inside.looks) c.berth.inside.seat.table_id
    c.args.berth.now c.berth.view_is c.berth.invariant c.requires.here.here
    (name_of c.args.kind c.berth.inside.state.place c.args.victim) m.1.0 m.1.2 there in
    let t = c.take_as-part.ensures.moved in
    let u = t.2.2 in
    let same : c.berth.invariant.view ≡ t.0 = one_view c.berth.inside.seat.me c.berth.invariant.view
    t.0 c.berth.invariant.me_is t.1 in
    let row = u.2.0 ∙ ap (λ (v : View g.row.P.Denot g.row.P-Item.Denot). took_at
    (name_of c.args.kind c.berth.inside.state.place c.args.victim)
    (g.B.Bag.items c.take_as-part.result) ((g.B.Bag.items c.take_as-part.result) ++
    v.own.local.bag) v.own) (sym same) in
    sym (kept_now c.args.self.now c.berth.inside.seat.me c.berth.inside.state
    c.berth.inside.counters c.berth.inside.held.items (table_of c.berth.inside.looks)
    c.berth.inside.seat.table_id c.args.berth.now c.berth.view_is c.berth.invariant
    c.requires.here.here c.take_as-part.new.seat.table_id c.take_as-part.ensures.table.0
    c.take_as-part.new.seat.me u.0 u.1 c.take.new.state c.count_got.new.counters) ∙ row
    ∙ ap (λ p. took_at (name_of c.args.kind p c.args.victim)
    (g.B.Bag.items c.take_as-part.result) ((g.B.Bag.items c.take_as-part.result) ++
    c.berth.invariant.view.own.local.bag) c.berth.invariant.view.own)
    (sym (place_is c.args.self.now c.berth.inside.seat.me c.berth.inside.state
    c.berth.inside.counters c.berth.inside.held.items (table_of c.berth.inside.looks)
    c.berth.inside.seat.table_id c.args.berth.now c.berth.view_is c.berth.invariant
    c.requires.here.here)) ∙ ap (λ (x : Record g.row.P-Item.Denot). take_row c.args.victim
    c.args.kind (g.B.Bag.items c.take_as-part.result)
    ((g.B.Bag.items c.take_as-part.result) ++ x.local.bag) x)
    (sym (kept_is c.args.self.now c.berth.inside.seat.me c.berth.inside.state
    c.berth.inside.counters c.berth.inside.held.items (table_of c.berth.inside.looks)
    c.berth.inside.seat.table_id c.args.berth.now c.berth.view_is c.berth.invariant
    c.requires.here.here))

pub returns-clause-some : goal.returns-clause-some
returns-clause-some g c =
    c.take_as-part.ensures.moved.2.1

pub returns-clause-fits : goal.returns-clause-fits
returns-clause-fits g c =
    let m = may_at c.args.self.now c.berth.inside.seat.me c.berth.inside.state
    c.berth.inside.counters c.berth.inside.held.items (table_of c.berth.inside.looks)
    c.berth.inside.seat.table_id c.args.berth.now c.berth.view_is c.berth.invariant
    c.requires.here.here (λ p. event.Take p c.args.victim c.args.kind) c.requires.may in
    let there = there_take c.berth.invariant.view.own c.berth.invariant.beside.listed c.args.kind
    c.berth.inside.state.place c.args.victim m in
    let e = ends c.args.self.now c.berth.inside.seat.me c.berth.inside.state c.berth.inside.counters
    c.berth.inside.held.items (table_of c.berth.inside.looks) c.berth.inside.seat.table_id
    c.args.berth.now c.berth.view_is c.berth.invariant c.requires.here.here
    (name_of c.args.kind c.berth.inside.state.place c.args.victim) m.1.0 m.1.2 there in
    let t = c.take_as-part.ensures.moved in
    let u = t.2.2 in
    let same : c.berth.invariant.view ≡ t.0 = one_view c.berth.inside.seat.me c.berth.invariant.view
    t.0 c.berth.invariant.me_is t.1 in
    let row = u.2.0 ∙ ap (λ (v : View g.row.P.Denot g.row.P-Item.Denot). took_at
    (name_of c.args.kind c.berth.inside.state.place c.args.victim)
    (g.B.Bag.items c.take_as-part.result) ((g.B.Bag.items c.take_as-part.result) ++
    v.own.local.bag) v.own) (sym same) in
    subst (g.B.Bag.fits c.take_as-part.result)
    (ap (λ (v : View g.row.P.Denot g.row.P-Item.Denot). v.program) (sym same)
    ∙ program_is c.args.self.now c.berth.inside.seat.me c.berth.inside.state
    c.berth.inside.counters c.berth.inside.held.items (table_of c.berth.inside.looks)
    c.berth.inside.seat.table_id c.args.berth.now c.berth.view_is c.berth.invariant
    c.requires.here.here) t.2.0

pub returns-clause-size : goal.returns-clause-size
returns-clause-size g c =
    ap (λ (s : PlaceState). s.size) c.take.ensures
    ∙ (λ i. size_after_take (c.len-units.ensures i)
    (sym (size_was c.args.self.now c.berth.inside.seat.me c.berth.inside.state
    c.berth.inside.counters c.berth.inside.held.items (table_of c.berth.inside.looks)
    c.berth.inside.seat.table_id c.args.berth.now c.berth.view_is c.berth.invariant
    c.requires.here.here) i))
