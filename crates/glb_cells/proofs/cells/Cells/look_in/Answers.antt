use Rattle.std.proofs.Common.{◌≡◌, ◌<◌, refl, sym, ap, ◌∙◌, subst, true}
use Rattle.glb_rules.specs.World.{has_edge, mark_at}
use Rattle.glb_rules.specs.Events.{name_of}
use Rattle.glb_rules.specs.declared.kinds.Side.TheVariants as side
use Rattle.glb_place.specs.declared.record.Record.{Record}
use Rattle.glb_place.specs.Records.{knows, setup_in}
use Rattle.glb_place.specs.Calls.{IsOwn, CanFind, MayFind, look_row}
use Rattle.glb_cells.specs.Words.{read}
use Rattle.glb_cells.specs.Plays.{Seated, OnFirst, looked_at, looked_on}
use Rattle.glb_cells.specs.inner.Keeping.{table_of}
use Rattle.glb_cells.proofs.BerthLemmas.Opened.{turned, numbered, table_is, kept_is, object_is, within, place_is, ends, still_of, moved, found_now}
use Rattle.glb_cells.proofs.BerthLemmas.Sizes.{neither}
use Rattle.glb_cells.proofs.BerthLemmas.States.{looks_beside}
use Rattle.glb_cells.proofs.cells.Cells.look_in.Goals as goal

pub number-edge-requires-clause-thief : goal.number-edge-requires-clause-thief
number-edge-requires-clause-thief g c =
    let q = subst (λ (x : Record g.row.P-Item.Denot). IsOwn x c.args.other c.args.kind side.Inward)
    (kept_is c.args.self.now c.berth.inside.seat.me c.berth.inside.state c.berth.inside.counters
    c.berth.inside.held.items (table_of c.berth.inside.looks) c.berth.inside.seat.table_id
    c.args.berth.now c.berth.view_is c.berth.invariant c.requires.here) c.requires.own in
    let there = subst (λ p. has_edge (setup_in c.berth.invariant.view.own) c.args.kind c.args.other
    p ≡ true) (place_is c.args.self.now c.berth.inside.seat.me c.berth.inside.state
    c.berth.inside.counters c.berth.inside.held.items (table_of c.berth.inside.looks)
    c.berth.inside.seat.table_id c.args.berth.now c.berth.view_is c.berth.invariant
    c.requires.here) q.1 in
    let w = subst (λ p. p < c.berth.invariant.view.own.lines.places)
    (place_is c.args.self.now c.berth.inside.seat.me c.berth.inside.state
    c.berth.inside.counters c.berth.inside.held.items (table_of c.berth.inside.looks)
    c.berth.inside.seat.table_id c.args.berth.now c.berth.view_is c.berth.invariant
    c.requires.here) (within c.args.self.now c.berth.inside.seat.me c.berth.inside.state
    c.berth.inside.counters c.berth.inside.held.items (table_of c.berth.inside.looks)
    c.berth.inside.seat.table_id c.args.berth.now c.berth.view_is c.berth.invariant
    c.requires.here) in
    let e = ends c.args.self.now c.berth.inside.seat.me c.berth.inside.state c.berth.inside.counters
    c.berth.inside.held.items (table_of c.berth.inside.looks) c.berth.inside.seat.table_id
    c.args.berth.now c.berth.view_is c.berth.invariant c.requires.here
    (name_of c.args.kind c.args.other c.berth.inside.state.place) q.0 w there in
    e.thief

pub number-edge-requires-clause-victim : goal.number-edge-requires-clause-victim
number-edge-requires-clause-victim g c =
    let q = subst (λ (x : Record g.row.P-Item.Denot). IsOwn x c.args.other c.args.kind side.Inward)
    (kept_is c.args.self.now c.berth.inside.seat.me c.berth.inside.state c.berth.inside.counters
    c.berth.inside.held.items (table_of c.berth.inside.looks) c.berth.inside.seat.table_id
    c.args.berth.now c.berth.view_is c.berth.invariant c.requires.here) c.requires.own in
    let there = subst (λ p. has_edge (setup_in c.berth.invariant.view.own) c.args.kind c.args.other
    p ≡ true) (place_is c.args.self.now c.berth.inside.seat.me c.berth.inside.state
    c.berth.inside.counters c.berth.inside.held.items (table_of c.berth.inside.looks)
    c.berth.inside.seat.table_id c.args.berth.now c.berth.view_is c.berth.invariant
    c.requires.here) q.1 in
    let w = subst (λ p. p < c.berth.invariant.view.own.lines.places)
    (place_is c.args.self.now c.berth.inside.seat.me c.berth.inside.state
    c.berth.inside.counters c.berth.inside.held.items (table_of c.berth.inside.looks)
    c.berth.inside.seat.table_id c.args.berth.now c.berth.view_is c.berth.invariant
    c.requires.here) (within c.args.self.now c.berth.inside.seat.me c.berth.inside.state
    c.berth.inside.counters c.berth.inside.held.items (table_of c.berth.inside.looks)
    c.berth.inside.seat.table_id c.args.berth.now c.berth.view_is c.berth.invariant
    c.requires.here) in
    let e = ends c.args.self.now c.berth.inside.seat.me c.berth.inside.state c.berth.inside.counters
    c.berth.inside.held.items (table_of c.berth.inside.looks) c.berth.inside.seat.table_id
    c.args.berth.now c.berth.view_is c.berth.invariant c.requires.here
    (name_of c.args.kind c.args.other c.berth.inside.state.place) q.0 w there in
    e.victim

pub number-edge-requires-clause-there : goal.number-edge-requires-clause-there
number-edge-requires-clause-there g c =
    let q = subst (λ (x : Record g.row.P-Item.Denot). IsOwn x c.args.other c.args.kind side.Inward)
    (kept_is c.args.self.now c.berth.inside.seat.me c.berth.inside.state c.berth.inside.counters
    c.berth.inside.held.items (table_of c.berth.inside.looks) c.berth.inside.seat.table_id
    c.args.berth.now c.berth.view_is c.berth.invariant c.requires.here) c.requires.own in
    let there = subst (λ p. has_edge (setup_in c.berth.invariant.view.own) c.args.kind c.args.other
    p ≡ true) (place_is c.args.self.now c.berth.inside.seat.me c.berth.inside.state
    c.berth.inside.counters c.berth.inside.held.items (table_of c.berth.inside.looks)
    c.berth.inside.seat.table_id c.args.berth.now c.berth.view_is c.berth.invariant
    c.requires.here) q.1 in
    let w = subst (λ p. p < c.berth.invariant.view.own.lines.places)
    (place_is c.args.self.now c.berth.inside.seat.me c.berth.inside.state
    c.berth.inside.counters c.berth.inside.held.items (table_of c.berth.inside.looks)
    c.berth.inside.seat.table_id c.args.berth.now c.berth.view_is c.berth.invariant
    c.requires.here) (within c.args.self.now c.berth.inside.seat.me c.berth.inside.state
    c.berth.inside.counters c.berth.inside.held.items (table_of c.berth.inside.looks)
    c.berth.inside.seat.table_id c.args.berth.now c.berth.view_is c.berth.invariant
    c.requires.here) in
    let e = ends c.args.self.now c.berth.inside.seat.me c.berth.inside.state c.berth.inside.counters
    c.berth.inside.held.items (table_of c.berth.inside.looks) c.berth.inside.seat.table_id
    c.args.berth.now c.berth.view_is c.berth.invariant c.requires.here
    (name_of c.args.kind c.args.other c.berth.inside.state.place) q.0 w there in
    e.there

pub look_in_as-word-requires-clause-table : goal.look_in_as-word-requires-clause-table
look_in_as-word-requires-clause-table g c =
    let n = numbered g.B.Bag.items c.self.inside.table.shared.key
    c.self.inside.table.shared.table_id c.args.self.now c.self.view_is c.number-edge.result
    (name_of c.args.kind c.args.other c.berth.inside.state.place) c.number-edge.ensures.name
    c.number-edge.ensures.small in (
      table_is g.B.Bag.items c.self.inside.table.shared.key c.self.inside.table.shared.table_id
          c.args.self.now c.self.view_is c.berth.inside.seat.table_id
          (object_is c.args.self.now c.berth.inside.seat.me c.berth.inside.state
          c.berth.inside.counters c.berth.inside.held.items (table_of c.berth.inside.looks)
          c.berth.inside.seat.table_id c.args.berth.now c.berth.view_is c.berth.invariant
          c.requires.here),
      n.small,
      n.few,
    )

pub look_in_as-word-requires-clause-name : goal.look_in_as-word-requires-clause-name
look_in_as-word-requires-clause-name g c =
    (numbered g.B.Bag.items c.self.inside.table.shared.key c.self.inside.table.shared.table_id
    c.args.self.now c.self.view_is c.number-edge.result
    (name_of c.args.kind c.args.other c.berth.inside.state.place) c.number-edge.ensures.name
    c.number-edge.ensures.small).name

pub look_in_as-word-requires-clause-ready : goal.look_in_as-word-requires-clause-ready
look_in_as-word-requires-clause-ready g c =
    let q = subst (λ (x : Record g.row.P-Item.Denot). IsOwn x c.args.other c.args.kind side.Inward)
    (kept_is c.args.self.now c.berth.inside.seat.me c.berth.inside.state c.berth.inside.counters
    c.berth.inside.held.items (table_of c.berth.inside.looks) c.berth.inside.seat.table_id
    c.args.berth.now c.berth.view_is c.berth.invariant c.requires.here) c.requires.own in
    let there = subst (λ p. has_edge (setup_in c.berth.invariant.view.own) c.args.kind c.args.other
    p ≡ true) (place_is c.args.self.now c.berth.inside.seat.me c.berth.inside.state
    c.berth.inside.counters c.berth.inside.held.items (table_of c.berth.inside.looks)
    c.berth.inside.seat.table_id c.args.berth.now c.berth.view_is c.berth.invariant
    c.requires.here) q.1 in
    let w = subst (λ p. p < c.berth.invariant.view.own.lines.places)
    (place_is c.args.self.now c.berth.inside.seat.me c.berth.inside.state
    c.berth.inside.counters c.berth.inside.held.items (table_of c.berth.inside.looks)
    c.berth.inside.seat.table_id c.args.berth.now c.berth.view_is c.berth.invariant
    c.requires.here) (within c.args.self.now c.berth.inside.seat.me c.berth.inside.state
    c.berth.inside.counters c.berth.inside.held.items (table_of c.berth.inside.looks)
    c.berth.inside.seat.table_id c.args.berth.now c.berth.view_is c.berth.invariant
    c.requires.here) in
    let e = ends c.args.self.now c.berth.inside.seat.me c.berth.inside.state c.berth.inside.counters
    c.berth.inside.held.items (table_of c.berth.inside.looks) c.berth.inside.seat.table_id
    c.args.berth.now c.berth.view_is c.berth.invariant c.requires.here
    (name_of c.args.kind c.args.other c.berth.inside.state.place) q.0 w there in (
      c.berth.invariant.view,
      c.berth.invariant.me_is,
      sym
          (place_is c.args.self.now c.berth.inside.seat.me c.berth.inside.state
          c.berth.inside.counters c.berth.inside.held.items (table_of c.berth.inside.looks)
          c.berth.inside.seat.table_id c.args.berth.now c.berth.view_is c.berth.invariant
          c.requires.here),
    )

pub invariant_of-berth : goal.invariant_of-berth
invariant_of-berth g c =
    let q = subst (λ (x : Record g.row.P-Item.Denot). IsOwn x c.args.other c.args.kind side.Inward)
    (kept_is c.args.self.now c.berth.inside.seat.me c.berth.inside.state c.berth.inside.counters
    c.berth.inside.held.items (table_of c.berth.inside.looks) c.berth.inside.seat.table_id
    c.args.berth.now c.berth.view_is c.berth.invariant c.requires.here) c.requires.own in
    let there = subst (λ p. has_edge (setup_in c.berth.invariant.view.own) c.args.kind c.args.other
    p ≡ true) (place_is c.args.self.now c.berth.inside.seat.me c.berth.inside.state
    c.berth.inside.counters c.berth.inside.held.items (table_of c.berth.inside.looks)
    c.berth.inside.seat.table_id c.args.berth.now c.berth.view_is c.berth.invariant
    c.requires.here) q.1 in
    let w = subst (λ p. p < c.berth.invariant.view.own.lines.places)
    (place_is c.args.self.now c.berth.inside.seat.me c.berth.inside.state
    c.berth.inside.counters c.berth.inside.held.items (table_of c.berth.inside.looks)
    c.berth.inside.seat.table_id c.args.berth.now c.berth.view_is c.berth.invariant
    c.requires.here) (within c.args.self.now c.berth.inside.seat.me c.berth.inside.state
    c.berth.inside.counters c.berth.inside.held.items (table_of c.berth.inside.looks)
    c.berth.inside.seat.table_id c.args.berth.now c.berth.view_is c.berth.invariant
    c.requires.here) in
    let e = ends c.args.self.now c.berth.inside.seat.me c.berth.inside.state c.berth.inside.counters
    c.berth.inside.held.items (table_of c.berth.inside.looks) c.berth.inside.seat.table_id
    c.args.berth.now c.berth.view_is c.berth.invariant c.requires.here
    (name_of c.args.kind c.args.other c.berth.inside.state.place) q.0 w there in
    record {
      view = (looked_on (name_of c.args.kind c.args.other c.berth.inside.state.place)
          c.look_in_as-word.result) c.berth.invariant.view;
      me_is = (turned (looked_on (name_of c.args.kind c.args.other c.berth.inside.state.place)
          c.look_in_as-word.result) c.berth.inside.seat.me c.look_in_as-word.new.seat.me
          c.berth.invariant.view c.berth.invariant.me_is c.look_in_as-word.ensures.moved);
      beside = looks_beside c.berth.invariant.view.own c.berth.inside.state c.berth.inside.counters
          c.berth.inside.held.items (table_of c.berth.inside.looks) c.berth.invariant.beside
          c.args.kind c.args.other (read c.look_in_as-word.result) there
          (subst (λ (m : Seated g.row.B.Denot g.row.P.Denot g.row.P-Item.Denot). OnFirst
          (λ x. CanFind (mark_at x.own.local.marks c.args.kind c.args.other) c.args.kind side.Inward
          (knows x.own (name_of c.args.kind c.args.other c.berth.inside.state.place))
          (read c.look_in_as-word.result)) m.0) c.berth.invariant.me_is
          c.look_in_as-word.ensures.found);
    }

pub returns-clause-here : goal.returns-clause-here
returns-clause-here g c =
    still_of c.args.self.now c.berth.inside.seat.me c.berth.inside.state c.berth.inside.counters
    c.berth.inside.held.items (table_of c.berth.inside.looks) c.berth.inside.seat.table_id
    c.args.berth.now c.berth.view_is c.berth.invariant c.requires.here
    c.look_in_as-word.new.seat.table_id c.look_in_as-word.ensures.table.0
    c.look_in_as-word.new.seat.me ((looked_on
    (name_of c.args.kind c.args.other c.berth.inside.state.place) c.look_in_as-word.result)
    c.berth.invariant.view) (turned (looked_on
    (name_of c.args.kind c.args.other c.berth.inside.state.place) c.look_in_as-word.result)
    c.berth.inside.seat.me c.look_in_as-word.new.seat.me c.berth.invariant.view
    c.berth.invariant.me_is c.look_in_as-word.ensures.moved) c.berth.inside.state
    c.berth.inside.counters refl (neither (λ (x : Record g.row.P-Item.Denot). x.lines) _ _ _ _
    refl refl) (neither (λ (x : Record g.row.P-Item.Denot). x.params) _ _ _ _ refl refl)
    (neither (λ (x : Record g.row.P-Item.Denot). x.place) _ _ _ _ refl refl)

pub returns-clause-moved : goal.returns-clause-moved
returns-clause-moved g c =
    moved c.args.self.now c.berth.inside.seat.me c.berth.inside.state c.berth.inside.counters
    c.berth.inside.held.items (table_of c.berth.inside.looks) c.berth.inside.seat.table_id
    c.args.berth.now c.berth.view_is c.berth.invariant c.requires.here
    c.look_in_as-word.new.seat.table_id c.look_in_as-word.ensures.table.0
    c.look_in_as-word.new.seat.me ((looked_on
    (name_of c.args.kind c.args.other c.berth.inside.state.place) c.look_in_as-word.result)
    c.berth.invariant.view) (turned (looked_on
    (name_of c.args.kind c.args.other c.berth.inside.state.place) c.look_in_as-word.result)
    c.berth.inside.seat.me c.look_in_as-word.new.seat.me c.berth.invariant.view
    c.berth.invariant.me_is c.look_in_as-word.ensures.moved) c.berth.inside.state
    c.berth.inside.counters 1 (look_row c.args.other c.args.kind side.Inward
    c.edge_of_word.result) (ap (λ p. looked_at (name_of c.args.kind c.args.other p)
    (read c.look_in_as-word.result) c.berth.invariant.view.own)
    (sym (place_is c.args.self.now c.berth.inside.seat.me c.berth.inside.state
    c.berth.inside.counters c.berth.inside.held.items (table_of c.berth.inside.looks)
    c.berth.inside.seat.table_id c.args.berth.now c.berth.view_is c.berth.invariant
    c.requires.here)) ∙ ap (λ x. look_row c.args.other c.args.kind side.Inward x
    c.berth.invariant.view.own) (sym c.edge_of_word.ensures)) refl refl refl

pub returns-clause-found : goal.returns-clause-found
returns-clause-found g c =
    c.edge_of_word.ensures ∙ ap read (found_now c.args.self.now c.berth.inside.seat.me
    c.berth.inside.state c.berth.inside.counters c.berth.inside.held.items
    (table_of c.berth.inside.looks) c.berth.inside.seat.table_id c.args.berth.now
    c.berth.view_is c.berth.invariant c.requires.here c.look_in_as-word.new.seat.table_id
    c.look_in_as-word.ensures.table.0 c.look_in_as-word.new.seat.me
    ((looked_on (name_of c.args.kind c.args.other c.berth.inside.state.place)
    c.look_in_as-word.result) c.berth.invariant.view)
    (turned (looked_on (name_of c.args.kind c.args.other c.berth.inside.state.place)
    c.look_in_as-word.result) c.berth.inside.seat.me c.look_in_as-word.new.seat.me
    c.berth.invariant.view c.berth.invariant.me_is c.look_in_as-word.ensures.moved)
    c.berth.inside.state c.berth.inside.counters)

pub returns-clause-possible : goal.returns-clause-possible
returns-clause-possible g c =
    let f = subst (λ (m : Seated g.row.B.Denot g.row.P.Denot g.row.P-Item.Denot). OnFirst
    (λ x. CanFind (mark_at x.own.local.marks c.args.kind c.args.other) c.args.kind side.Inward
    (knows x.own (name_of c.args.kind c.args.other c.berth.inside.state.place))
    (read c.look_in_as-word.result)) m.0) c.berth.invariant.me_is
    c.look_in_as-word.ensures.found in
    subst (λ (x : Record g.row.P-Item.Denot). MayFind x c.args.other c.args.kind side.Inward
    c.edge_of_word.result) (sym (kept_is c.args.self.now c.berth.inside.seat.me
    c.berth.inside.state c.berth.inside.counters c.berth.inside.held.items
    (table_of c.berth.inside.looks) c.berth.inside.seat.table_id c.args.berth.now
    c.berth.view_is c.berth.invariant c.requires.here))
    (subst (λ e. MayFind c.berth.invariant.view.own c.args.other c.args.kind side.Inward e)
    (sym c.edge_of_word.ensures)
    (subst (λ p. CanFind (mark_at c.berth.invariant.view.own.local.marks c.args.kind c.args.other)
    c.args.kind side.Inward (knows c.berth.invariant.view.own
    (name_of c.args.kind c.args.other p)) (read c.look_in_as-word.result))
    (sym (place_is c.args.self.now c.berth.inside.seat.me c.berth.inside.state
    c.berth.inside.counters c.berth.inside.held.items (table_of c.berth.inside.looks)
    c.berth.inside.seat.table_id c.args.berth.now c.berth.view_is c.berth.invariant
    c.requires.here)) f))
