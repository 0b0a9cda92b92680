use Rattle.std.proofs.Common.{◌+◌, ◌<◌, ◌≡◌, arith, refl, ap, ◌∙◌, sym, subst, get_or, set, length}
use Rattle.glb_rules.specs.declared.kinds.Kind.TheVariants as kind
use Rattle.glb_rules.specs.declared.kinds.Edge.TheVariants as edge_state
use Rattle.glb_core.specs.declared.world.rows.EdgeRow.TheVariants as edge_row
use Rattle.glb_core.specs.inner.Effects.{row_state}
use Rattle.glb_core.specs.inner.Sights.{out_seen, row_state_at}
use Rattle.glb_core.proofs.Tables.EdgeRows.{get_or-any, edge_index_below}
use Rattle.glb_core.proofs.Start.Filled.{map_pointwise, pointwise_more, rest_stays}
use Rattle.glb_core.proofs.world.sight.see_outs.Goals as goal

pub edge_index-requires-clause-victim : goal.edge_index-requires-clause-victim
edge_index-requires-clause-victim g c =
    subst (λ y. y.victim < c.args.places)
    (sym (c.loop-edge.invariant.left c.loop-edge.edge-index (record { victim = 0; edge = edge_state.Idle })
    (omega arith)))
    (c.requires.victims c.loop-edge.edge-index (record { victim = 0; edge = edge_state.Idle })
    c.loop-edge-test.true)

pub loop-edge-preserved : goal.loop-edge-preserved
loop-edge-preserved g c =
    let i = c.loop-edge.edge-index in
    let n = c.args.places in
    let p = c.args.place in
    let old = c.args.outs.now in
    let edge_rows = c.args.edge_rows.now in
    let y = get_or c.loop-edge.outs i (record { victim = 0; edge = edge_state.Idle }) in
    let z = record y { edge = c.state-edge.result } in
    let stays : y ≡ get_or old i (record { victim = 0; edge = edge_state.Idle }) =
    c.loop-edge.invariant.left i (record { victim = 0; edge = edge_state.Idle }) (omega arith) in
    let near : y.victim < n =
    subst (λ x. x.victim < n) (sym stays)
    (c.requires.victims i (record { victim = 0; edge = edge_state.Idle }) c.loop-edge-test.true) in
    let at = c.edge_index.result in
    let below : at < length edge_rows =
    omega (
      arith,
      c.edge_index.ensures,
      c.requires.edge_rows,
      edge_index_below n kind.Line p y.victim c.requires.place near,
    ) in
    let told : c.state-edge.result ≡ row_state_at edge_rows n kind.Line p y.victim =
    c.state-edge.ensures
    ∙ ap row_state (c.index-edge_rows-edge_index.is
    ∙ get_or-any edge_rows at c.index-edge_rows-edge_index.result edge_row.Idle below)
    ∙ ap (λ j. row_state (get_or edge_rows j edge_row.Idle)) c.edge_index.ensures in
    record {
      seen = pointwise_more (out_seen edge_rows n p) old c.loop-edge.outs (set c.loop-edge.outs i z) i (i + 1)
          z refl
          (let a = c.loop-edge.auto.outs in let l = c.loop-edge-test.true in omega arith) refl
          (λ e. (λ k. record y { edge = told k })
          ∙ ap (out_seen edge_rows n p)
          (stays ∙ get_or-any old i (record { victim = 0; edge = edge_state.Idle }) e
          c.loop-edge-test.true)) c.loop-edge.invariant.seen;
      left = rest_stays old c.loop-edge.outs (set c.loop-edge.outs i z) i (i + 1) z refl refl
          c.loop-edge.invariant.left;
    }

pub returns : goal.returns
returns g c = map_pointwise (out_seen c.args.edge_rows.now c.args.places c.args.place) c.args.outs.now
    c.loop-edge.outs c.loop-edge.auto.outs
    (λ i d e l. c.loop-edge.invariant.seen i d e (let m = c.loop-edge-test.false in omega arith))

pub bounds-edge_rows-edge_index : goal.bounds-edge_rows-edge_index
bounds-edge_rows-edge_index g c =
    omega (
      arith,
      c.edge_index.ensures,
      c.requires.edge_rows,
      edge_index_below c.args.places kind.Line c.args.place
          (get_or c.loop-edge.outs c.loop-edge.edge-index
          (record { victim = 0; edge = edge_state.Idle })).victim c.requires.place
          (subst (λ y. y.victim < c.args.places)
          (sym (c.loop-edge.invariant.left c.loop-edge.edge-index
          (record { victim = 0; edge = edge_state.Idle }) (omega arith)))
          (c.requires.victims c.loop-edge.edge-index (record { victim = 0; edge = edge_state.Idle })
          c.loop-edge-test.true)),
    )

pub offset_bounds-edge_rows-edge_index : goal.offset_bounds-edge_rows-edge_index
offset_bounds-edge_rows-edge_index g c = omega (arith, bounds-edge_rows-edge_index g c)
