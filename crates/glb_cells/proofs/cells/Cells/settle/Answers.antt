use Rattle.std.proofs.Common.{◌≡◌, ◌≤◌, ◌+◌, sym, ap, ◌∙◌, subst, arith}
use Rattle.glb_laws.specs.Expansion.{Expands}
use Rattle.glb_rules.specs.Setups.{tries_of}
use Rattle.glb_rules.specs.declared.event.Event.TheVariants as event
use Rattle.glb_rules.specs.declared.place_state.PlaceState.{PlaceState}
use Rattle.glb_place.specs.declared.record.Record.{Record}
use Rattle.glb_place.specs.Calls.{Settles}
use Rattle.glb_place.specs.Rows.{batch_row}
use Rattle.glb_cells.specs.declared.view.View.{View}
use Rattle.glb_cells.specs.Berths.{CellsView}
use Rattle.glb_cells.specs.inner.Keeping.{IsBeside, table_of}
use Rattle.glb_cells.proofs.BerthLemmas.Opened.{table_is, kept_is, object_is, program_is, params_are, may, is_free, still_free, makes, kept_now, found_now}
use Rattle.glb_cells.proofs.BerthLemmas.There.{one_view}
use Rattle.glb_cells.proofs.BerthLemmas.States.{settles_beside}
use Rattle.glb_cells.proofs.cells.Cells.settle.Goals as goal

pub settle_as-before-requires-clause-table : goal.settle_as-before-requires-clause-table
settle_as-before-requires-clause-table g c =
    let w = c.self.invariant.sized in (
      table_is g.B.Bag.items c.self.inside.table.shared.key c.self.inside.table.shared.table_id
          c.args.self.now c.self.view_is c.berth.inside.seat.table_id
          (object_is c.args.self.now c.berth.inside.seat.me c.berth.inside.state
          c.berth.inside.counters c.berth.inside.held.items (table_of c.berth.inside.looks)
          c.berth.inside.seat.table_id c.args.berth.now c.berth.view_is c.berth.invariant
          c.requires.here.here),
      omega (arith, w),
    )

pub settle_as-before-requires-clause-ready : goal.settle_as-before-requires-clause-ready
settle_as-before-requires-clause-ready g c =
    let is = kept_is c.args.self.now c.berth.inside.seat.me c.berth.inside.state
    c.berth.inside.counters c.berth.inside.held.items (table_of c.berth.inside.looks)
    c.berth.inside.seat.table_id c.args.berth.now c.berth.view_is c.berth.invariant
    c.requires.here.here in
    let m = subst (λ (z : g.row.P.Denot × Record g.row.P-Item.Denot). Expands
    (g.P.Program.children z.0) (g.P.Program.value z.0) g.P.Value.Monoid.combine z.1.local.bag
    g.P.Value.Monoid.unit c.args.done (g.B.Bag.items c.args.bag.now) c.args.gain.now)
    (λ i. (
      sym (program_is c.args.self.now c.berth.inside.seat.me c.berth.inside.state
          c.berth.inside.counters c.berth.inside.held.items (table_of c.berth.inside.looks)
          c.berth.inside.seat.table_id c.args.berth.now c.berth.view_is c.berth.invariant
          c.requires.here.here) i,
      is i,
    )) c.requires.moves in (
      c.berth.invariant.view,
      c.berth.invariant.me_is,
      (
        is_free c.berth.invariant.me_is (ap (λ b. b.slot) c.berth.view_is ∙ c.requires.here.free),
        may c.args.self.now c.berth.inside.seat.me c.berth.inside.state c.berth.inside.counters
            c.berth.inside.held.items (table_of c.berth.inside.looks) c.berth.inside.seat.table_id
            c.args.berth.now c.berth.view_is c.berth.invariant c.requires.here.here (λ p. event.Batch p)
            c.requires.may,
        c.requires.batch.0,
        subst (λ (x : Record g.row.P-Item.Denot). c.args.done ≤ x.params.batch) is c.requires.batch.1,
        subst (λ (x : Record g.row.P-Item.Denot). x.last ≤ x.params.limit) is c.requires.last,
        (m.taken, m.moves, m.number, m.value_is),
      ),
    )

pub invariant_of-berth : goal.invariant_of-berth
invariant_of-berth g c =
    let t = c.settle_as-before.ensures.moved in
    let same : c.berth.invariant.view ≡ t.0 = one_view c.berth.inside.seat.me c.berth.invariant.view
    t.0 c.berth.invariant.me_is t.1 in
    let row = t.2.2.0.4 in
    let tries = c.self.invariant.tried ∙ ap (λ (s : CellsView g.row.P.Denot g.row.P-Item.Denot).
    tries_of s.params) c.self.view_is ∙ ap tries_of
    (sym (params_are c.args.self.now c.berth.inside.seat.me c.berth.inside.state
    c.berth.inside.counters c.berth.inside.held.items (table_of c.berth.inside.looks)
    c.berth.inside.seat.table_id c.args.berth.now c.berth.view_is c.berth.invariant
    c.requires.here.here)) in
    let beside = settles_beside c.berth.invariant.view.own c.berth.inside.state
    c.berth.inside.counters c.berth.inside.held.items (table_of c.berth.inside.looks)
    c.berth.invariant.beside (c.settle_as-before.result + c.args.done) c.args.done c.len.result
    c.self.inside.tries t.2.2.0.0 (g.B.Bag.items c.args.bag.now) c.count_items.new.counters
    c.len.ensures t.2.2.0.1 tries (c.count_items.ensures c.berth.invariant.view.own.local.count
    c.berth.invariant.beside.counters) in
    record {
      view = t.2.0;
      me_is = t.2.1;
      beside = subst (λ (z : Record g.row.P-Item.Denot × PlaceState). IsBeside z.0 z.1
          c.count_items.new.counters c.berth.inside.held.items (table_of c.berth.inside.looks))
          (λ i. (
            (ap (λ (v : View g.row.P.Denot g.row.P-Item.Denot). batch_row
                (c.settle_as-before.result + c.args.done) t.2.2.0.0 (g.B.Bag.items c.args.bag.now)
                v.own) same ∙ sym row) i,
            sym c.settle.ensures i,
          )) beside;
    }

pub returns-clause-here : goal.returns-clause-here
returns-clause-here g c =
    let t = c.settle_as-before.ensures.moved in
    let same : c.berth.invariant.view ≡ t.0 = one_view c.berth.inside.seat.me c.berth.invariant.view
    t.0 c.berth.invariant.me_is t.1 in
    let row = t.2.2.0.4 in
    let at = (row ∙ ap (λ (v : View g.row.P.Denot g.row.P-Item.Denot). batch_row
    (c.settle_as-before.result + c.args.done) t.2.2.0.0 (g.B.Bag.items c.args.bag.now) v.own)
    (sym same)) in
    still_free c.args.self.now c.berth.inside.seat.me c.berth.inside.state c.berth.inside.counters
    c.berth.inside.held.items (table_of c.berth.inside.looks) c.berth.inside.seat.table_id
    c.args.berth.now c.berth.view_is c.berth.invariant c.requires.here.here
    c.settle_as-before.new.seat.table_id c.settle_as-before.ensures.table.0
    c.settle_as-before.new.seat.me t.2.0 t.2.1 c.settle.new.state c.count_items.new.counters
    (t.2.2.1 ∙ ap (λ (v : View g.row.P.Denot g.row.P-Item.Denot). v.program) (sym same))
    (ap (λ (x : Record g.row.P-Item.Denot). x.lines) at)
    (ap (λ (x : Record g.row.P-Item.Denot). x.params) at)
    (ap (λ (x : Record g.row.P-Item.Denot). x.place) at) t.2.2.2

pub returns-clause-makes : goal.returns-clause-makes
returns-clause-makes g c =
    let t = c.settle_as-before.ensures.moved in
    let same : c.berth.invariant.view ≡ t.0 = one_view c.berth.inside.seat.me c.berth.invariant.view
    t.0 c.berth.invariant.me_is t.1 in
    makes c.args.self.now c.berth.inside.seat.me c.berth.inside.state c.berth.inside.counters
    c.berth.inside.held.items (table_of c.berth.inside.looks) c.berth.inside.seat.table_id
    c.args.berth.now c.berth.view_is c.berth.invariant c.requires.here.here
    c.settle_as-before.new.seat.table_id c.settle_as-before.ensures.table.0
    c.settle_as-before.new.seat.me t.2.0 t.2.1 c.settle.new.state c.count_items.new.counters 1
    (t.2.2.3 ∙ ap (λ (v : View g.row.P.Denot g.row.P-Item.Denot). v.steps + 1) (sym same))
    (t.2.2.2 ∙ sym (is_free c.berth.invariant.me_is (ap (λ b. b.slot) c.berth.view_is ∙ c.requires.here.free)))

pub returns-clause-kept : goal.returns-clause-kept
returns-clause-kept g c =
    let t = c.settle_as-before.ensures.moved in
    let same : c.berth.invariant.view ≡ t.0 = one_view c.berth.inside.seat.me c.berth.invariant.view
    t.0 c.berth.invariant.me_is t.1 in
    subst (λ (z : g.row.P.Denot × Record g.row.P-Item.Denot × Record g.row.P-Item.Denot). Settles
    (g.P.Program.children z.0) (g.P.Program.value z.0) g.P.Value.Monoid.unit
    g.P.Value.Monoid.combine c.args.done (g.B.Bag.items c.args.bag.now) c.args.gain.now
    (c.settle_as-before.result + c.args.done) z.1 z.2)
    (λ i. (
      (ap (λ (v : View g.row.P.Denot g.row.P-Item.Denot). v.program) (sym same)
          ∙ program_is c.args.self.now c.berth.inside.seat.me c.berth.inside.state
          c.berth.inside.counters c.berth.inside.held.items (table_of c.berth.inside.looks)
          c.berth.inside.seat.table_id c.args.berth.now c.berth.view_is c.berth.invariant
          c.requires.here.here) i,
      (ap (λ (v : View g.row.P.Denot g.row.P-Item.Denot). v.own) (sym same)
          ∙ sym (kept_is c.args.self.now c.berth.inside.seat.me c.berth.inside.state
          c.berth.inside.counters c.berth.inside.held.items (table_of c.berth.inside.looks)
          c.berth.inside.seat.table_id c.args.berth.now c.berth.view_is c.berth.invariant
          c.requires.here.here)) i,
      kept_now c.args.self.now c.berth.inside.seat.me c.berth.inside.state
          c.berth.inside.counters c.berth.inside.held.items (table_of c.berth.inside.looks)
          c.berth.inside.seat.table_id c.args.berth.now c.berth.view_is c.berth.invariant
          c.requires.here.here c.settle_as-before.new.seat.table_id c.settle_as-before.ensures.table.0
          c.settle_as-before.new.seat.me t.2.0 t.2.1 c.settle.new.state c.count_items.new.counters i,
    ))
    t.2.2.0

pub returns-clause-found : goal.returns-clause-found
returns-clause-found g c =
    let t = c.settle_as-before.ensures.moved in
    let same : c.berth.invariant.view ≡ t.0 = one_view c.berth.inside.seat.me c.berth.invariant.view
    t.0 c.berth.invariant.me_is t.1 in
    ap (λ n. n + c.args.done) (sym t.2.2.4 ∙ found_now c.args.self.now c.berth.inside.seat.me
    c.berth.inside.state c.berth.inside.counters c.berth.inside.held.items
    (table_of c.berth.inside.looks) c.berth.inside.seat.table_id c.args.berth.now
    c.berth.view_is c.berth.invariant c.requires.here.here c.settle_as-before.new.seat.table_id
    c.settle_as-before.ensures.table.0 c.settle_as-before.new.seat.me t.2.0 t.2.1
    c.settle.new.state c.count_items.new.counters)

pub returns-clause-size : goal.returns-clause-size
returns-clause-size g c =
    ap (λ (s : PlaceState). s.size) c.settle.ensures ∙ c.len.ensures
