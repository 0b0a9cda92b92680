use Rattle.std.proofs.Common.{sym, ap, subst, arith}
use Rattle.glb_place.specs.Calls.{IsOwn, edge_with}
use Rattle.glb_place.specs.Looks.{LooksAt}
use Rattle.glb_place.specs.declared.record.Record.{Record}
use Rattle.glb_cells.specs.Looking.{LookTable, looks_of}
use Rattle.glb_cells.specs.Berths.{BerthView}
use Rattle.glb_cells.specs.inner.Keeping.{table_of}
use Rattle.glb_cells.proofs.BerthLemmas.Looked.{Raises, looked, room_stays}
use Rattle.glb_cells.proofs.BerthLemmas.Noted.{own_is, looks_are, with_looks, own_apart}
use Rattle.glb_cells.proofs.berth.Berth.note_look.Goals as goal

pub raise_edge-requires-clause-steals_in : goal.raise_edge-requires-clause-steals_in
raise_edge-requires-clause-steals_in g c =
    let o = c.self.invariant in
    let own = subst (λ (x : Record g.row.P-Item.Denot). IsOwn x c.args.other c.args.kind
    c.args.side) (sym (own_is c.self.inside.seat.me c.self.inside.state c.self.inside.counters
    c.self.inside.held.items (table_of c.self.inside.looks) c.self.inside.seat.table_id
    c.args.self.now c.self.view_is c.self.invariant)) c.requires.own in
    let l = own.0 in
    let m = o.beside.room.steals_in in
    omega arith

pub raise_edge-requires-clause-lines_in : goal.raise_edge-requires-clause-lines_in
raise_edge-requires-clause-lines_in g c =
    let o = c.self.invariant in
    let own = subst (λ (x : Record g.row.P-Item.Denot). IsOwn x c.args.other c.args.kind
    c.args.side) (sym (own_is c.self.inside.seat.me c.self.inside.state c.self.inside.counters
    c.self.inside.held.items (table_of c.self.inside.looks) c.self.inside.seat.table_id
    c.args.self.now c.self.view_is c.self.invariant)) c.requires.own in
    let l = own.0 in
    let m = o.beside.room.lines_in in
    omega arith

pub raise_edge-requires-clause-steals_out : goal.raise_edge-requires-clause-steals_out
raise_edge-requires-clause-steals_out g c =
    let o = c.self.invariant in
    let own = subst (λ (x : Record g.row.P-Item.Denot). IsOwn x c.args.other c.args.kind
    c.args.side) (sym (own_is c.self.inside.seat.me c.self.inside.state c.self.inside.counters
    c.self.inside.held.items (table_of c.self.inside.looks) c.self.inside.seat.table_id
    c.args.self.now c.self.view_is c.self.invariant)) c.requires.own in
    let l = own.0 in
    let m = o.beside.room.steals_out in
    omega arith

pub raise_edge-requires-clause-lines_out : goal.raise_edge-requires-clause-lines_out
raise_edge-requires-clause-lines_out g c =
    let o = c.self.invariant in
    let own = subst (λ (x : Record g.row.P-Item.Denot). IsOwn x c.args.other c.args.kind
    c.args.side) (sym (own_is c.self.inside.seat.me c.self.inside.state c.self.inside.counters
    c.self.inside.held.items (table_of c.self.inside.looks) c.self.inside.seat.table_id
    c.args.self.now c.self.view_is c.self.invariant)) c.requires.own in
    let l = own.0 in
    let m = o.beside.room.lines_out in
    omega arith

pub invariant_of-self : goal.invariant_of-self
invariant_of-self g c =
    let o = c.self.invariant in
    let R : Raises c.args.kind c.args.side c.args.other (table_of c.self.inside.looks)
    (table_of c.raise_edge.new.self) = record {
      steals_in = c.raise_edge.ensures.steals_in;
      lines_in = c.raise_edge.ensures.lines_in;
      steals_out = c.raise_edge.ensures.steals_out;
      lines_out = c.raise_edge.ensures.lines_out;
      live = c.raise_edge.ensures.live;
      stop = c.raise_edge.ensures.stop;
    } in
    with_looks c.self.inside.seat.me c.self.inside.state c.self.inside.counters
    c.self.inside.held.items (table_of c.self.inside.looks) c.self.inside.seat.table_id
    c.args.self.now c.self.view_is o (table_of c.raise_edge.new.self)
    (room_stays o.view.own.lines.places (table_of c.self.inside.looks)
    (table_of c.raise_edge.new.self) c.args.kind c.args.side c.args.other o.beside.room R)

pub returns-clause-looks : goal.returns-clause-looks
returns-clause-looks g c =
    let o = c.self.invariant in
    let own = subst (λ (x : Record g.row.P-Item.Denot). IsOwn x c.args.other c.args.kind
    c.args.side) (sym (own_is c.self.inside.seat.me c.self.inside.state c.self.inside.counters
    c.self.inside.held.items (table_of c.self.inside.looks) c.self.inside.seat.table_id
    c.args.self.now c.self.view_is c.self.invariant)) c.requires.own in
    let R : Raises c.args.kind c.args.side c.args.other (table_of c.self.inside.looks)
    (table_of c.raise_edge.new.self) = record {
      steals_in = c.raise_edge.ensures.steals_in;
      lines_in = c.raise_edge.ensures.lines_in;
      steals_out = c.raise_edge.ensures.steals_out;
      lines_out = c.raise_edge.ensures.lines_out;
      live = c.raise_edge.ensures.live;
      stop = c.raise_edge.ensures.stop;
    } in
    let at = looked o.view.own.place o.view.own.lines.places (table_of c.self.inside.looks)
    (table_of c.raise_edge.new.self) c.args.kind c.args.side c.args.other o.beside.room own.0
    (own_apart o.view.own o.beside.no_loop c.args.other c.args.kind c.args.side own) R in
    subst (λ (z : Record g.row.P-Item.Denot × LookTable). LooksAt
    (edge_with z.0.place c.args.other c.args.kind c.args.side) (looks_of z.0.place z.1)
    (looks_of z.0.place (table_of c.raise_edge.new.self)))
    (λ i. (
      own_is c.self.inside.seat.me c.self.inside.state c.self.inside.counters
          c.self.inside.held.items (table_of c.self.inside.looks) c.self.inside.seat.table_id
          c.args.self.now c.self.view_is c.self.invariant i,
      looks_are c.self.inside.seat.me
          c.self.inside.state c.self.inside.counters c.self.inside.held.items
          (table_of c.self.inside.looks) c.self.inside.seat.table_id c.args.self.now c.self.view_is
          c.self.invariant i,
    )) at

pub returns-clause-same : goal.returns-clause-same
returns-clause-same g c = ap (λ (b : BerthView g.row.P.Denot g.row.P-Item.Denot). record b
    { looks = table_of c.raise_edge.new.self }) c.self.view_is
