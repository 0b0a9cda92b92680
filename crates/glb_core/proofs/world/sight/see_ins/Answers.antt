use Rattle.std.proofs.Common.{◌+◌, ◌<◌, ◌≡◌, arith, refl, ap, ◌∙◌, sym, subst, get_or, set, length}
use Rattle.glb_rules.specs.declared.kinds.Kind.TheVariants as kind
use Rattle.glb_rules.specs.declared.kinds.Edge.TheVariants as edge_state
use Rattle.glb_rules.specs.declared.kinds.Mark.TheVariants as mark
use Rattle.glb_core.specs.declared.world.rows.EdgeRow.TheVariants as edge_row
use Rattle.glb_core.specs.Tables.{mark_index}
use Rattle.glb_core.specs.inner.Effects.{row_state}
use Rattle.glb_core.specs.inner.Sights.{in_seen, row_state_at}
use Rattle.glb_core.proofs.Tables.EdgeRows.{get_or-any, edge_index_below, mark_below}
use Rattle.glb_core.proofs.Start.Filled.{map_pointwise, pointwise_more, rest_stays}
use Rattle.glb_core.proofs.world.sight.see_ins.Goals as goal

pub mark_index-requires-clause-thief : goal.mark_index-requires-clause-thief
mark_index-requires-clause-thief g c =
    (subst (λ y. y.thief < c.args.places)
    (sym (c.loop-edge.invariant.left c.loop-edge.edge-index
    (record { thief = 0; kind = kind.Steal; mark = mark.Unseen; edge = edge_state.Idle }) (omega arith)))
    (c.requires.thieves c.loop-edge.edge-index
    (record { thief = 0; kind = kind.Steal; mark = mark.Unseen; edge = edge_state.Idle }) c.loop-edge-test.true))

pub edge_index-requires-clause-thief : goal.edge_index-requires-clause-thief
edge_index-requires-clause-thief g c =
    (subst (λ y. y.thief < c.args.places)
    (sym (c.loop-edge.invariant.left c.loop-edge.edge-index
    (record { thief = 0; kind = kind.Steal; mark = mark.Unseen; edge = edge_state.Idle }) (omega arith)))
    (c.requires.thieves c.loop-edge.edge-index
    (record { thief = 0; kind = kind.Steal; mark = mark.Unseen; edge = edge_state.Idle }) c.loop-edge-test.true))

pub index-requires : goal.index-requires
index-requires g c =
    omega (
      arith,
      c.mark_index.ensures,
      c.requires.marks,
      mark_below c.args.places
          (get_or c.loop-edge.ins c.loop-edge.edge-index
          (record { thief = 0; kind = kind.Steal; mark = mark.Unseen; edge = edge_state.Idle })).kind
          (get_or c.loop-edge.ins c.loop-edge.edge-index
          (record { thief = 0; kind = kind.Steal; mark = mark.Unseen; edge = edge_state.Idle })).thief
          (subst (λ y. y.thief < c.args.places)
          (sym (c.loop-edge.invariant.left c.loop-edge.edge-index
          (record { thief = 0; kind = kind.Steal; mark = mark.Unseen; edge = edge_state.Idle }) (omega arith)))
          (c.requires.thieves c.loop-edge.edge-index
          (record { thief = 0; kind = kind.Steal; mark = mark.Unseen; edge = edge_state.Idle }) c.loop-edge-test.true)),
    )

pub bounds-edge_rows-edge_index : goal.bounds-edge_rows-edge_index
bounds-edge_rows-edge_index g c =
    omega (
      arith,
      c.edge_index.ensures,
      c.requires.edge_rows,
      edge_index_below c.args.places
          (get_or c.loop-edge.ins c.loop-edge.edge-index
          (record { thief = 0; kind = kind.Steal; mark = mark.Unseen; edge = edge_state.Idle })).kind
          (get_or c.loop-edge.ins c.loop-edge.edge-index
          (record { thief = 0; kind = kind.Steal; mark = mark.Unseen; edge = edge_state.Idle })).thief
          c.args.place (subst (λ y. y.thief < c.args.places)
          (sym (c.loop-edge.invariant.left c.loop-edge.edge-index
          (record { thief = 0; kind = kind.Steal; mark = mark.Unseen; edge = edge_state.Idle }) (omega arith)))
          (c.requires.thieves c.loop-edge.edge-index
          (record { thief = 0; kind = kind.Steal; mark = mark.Unseen; edge = edge_state.Idle })
          c.loop-edge-test.true)) c.requires.place,
    )

pub offset_bounds-edge_rows-edge_index : goal.offset_bounds-edge_rows-edge_index
offset_bounds-edge_rows-edge_index g c = omega (arith, bounds-edge_rows-edge_index g c)

pub loop-edge-preserved : goal.loop-edge-preserved
loop-edge-preserved g c =
    let i = c.loop-edge.edge-index in
    let n = c.args.places in
    let p = c.args.place in
    let old = c.args.ins.now in
    let edge_rows = c.args.edge_rows.now in
    let marks = c.args.place_row.now.marks.items in
    let y = get_or c.loop-edge.ins i
    (record { thief = 0; kind = kind.Steal; mark = mark.Unseen; edge = edge_state.Idle }) in
    let z = record y { mark = c.index.result.now; edge = c.state-edge.result } in
    let stays : y ≡ get_or old i
    (record { thief = 0; kind = kind.Steal; mark = mark.Unseen; edge = edge_state.Idle }) =
    c.loop-edge.invariant.left i
    (record { thief = 0; kind = kind.Steal; mark = mark.Unseen; edge = edge_state.Idle }) (omega arith) in
    let near : y.thief < n =
    subst (λ x. x.thief < n) (sym stays)
    (c.requires.thieves i
    (record { thief = 0; kind = kind.Steal; mark = mark.Unseen; edge = edge_state.Idle })
    c.loop-edge-test.true) in
    let at = c.edge_index.result in
    let below : at < length edge_rows =
    omega (
      arith,
      c.edge_index.ensures,
      c.requires.edge_rows,
      edge_index_below n y.kind y.thief p near c.requires.place,
    ) in
    let low : c.mark_index.result < length marks =
    omega (
      arith,
      c.mark_index.ensures,
      c.requires.marks,
      c.args.place_row.now.marks.ok.0,
      mark_below n y.kind y.thief near,
    ) in
    let told : c.state-edge.result ≡ row_state_at edge_rows n y.kind y.thief p =
    c.state-edge.ensures
    ∙ ap row_state (c.index-edge_rows-edge_index.is
    ∙ get_or-any edge_rows at c.index-edge_rows-edge_index.result edge_row.Idle below)
    ∙ ap (λ j. row_state (get_or edge_rows j edge_row.Idle)) c.edge_index.ensures in
    let marked : c.index.result.now ≡ get_or marks (mark_index n y.kind y.thief) mark.Unseen =
    c.index.ensures ∙ get_or-any marks c.mark_index.result c.index.result.now mark.Unseen low
    ∙ ap (λ j. get_or marks j mark.Unseen) c.mark_index.ensures in
    let f = in_seen c.args.place_row.now edge_rows n p in
    record {
      seen = pointwise_more f old c.loop-edge.ins (set c.loop-edge.ins i z) i (i + 1) z refl
          (let a = c.loop-edge.auto.ins in let l = c.loop-edge-test.true in omega arith) refl
          (λ e. (λ k. record y { mark = marked k; edge = told k })
          ∙ ap f (stays ∙ get_or-any old i
          (record { thief = 0; kind = kind.Steal; mark = mark.Unseen; edge = edge_state.Idle }) e
          c.loop-edge-test.true)) c.loop-edge.invariant.seen;
      left = rest_stays old c.loop-edge.ins (set c.loop-edge.ins i z) i (i + 1) z refl refl
          c.loop-edge.invariant.left;
    }

pub returns : goal.returns
returns g c = map_pointwise (in_seen c.args.place_row.now c.args.edge_rows.now c.args.places c.args.place)
    c.args.ins.now c.loop-edge.ins c.loop-edge.auto.ins
    (λ i d e l. c.loop-edge.invariant.seen i d e (let m = c.loop-edge-test.false in omega arith))
