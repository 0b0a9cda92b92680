use Rattle.std.proofs.Common.{◌<◌, arith, ◌∙◌, sym, ap, get_or, length}
use Rattle.glb_core.specs.declared.world.rows.EdgeRow.TheVariants as edge_row
use Rattle.glb_core.specs.inner.Effects.{row_state}
use Rattle.glb_core.specs.inner.Sights.{waited_seen}
use Rattle.glb_core.proofs.Tables.EdgeRows.{edge_index_below, get_or-any}
use Rattle.glb_core.proofs.world.sight.see_waited.Goals as goal

pub bounds-edge_rows-edge_index : goal.bounds-edge_rows-edge_index
bounds-edge_rows-edge_index g c =
    omega (
      arith,
      c.edge_index.ensures,
      c.requires.edge_rows,
      edge_index_below c.args.places c.in-Waiting.kind c.args.place c.in-Waiting.victim c.requires.place
          (c.requires.near c.in-Waiting.victim c.in-Waiting.kind c.in-Waiting.is),
    )

pub offset_bounds-edge_rows-edge_index : goal.offset_bounds-edge_rows-edge_index
offset_bounds-edge_rows-edge_index g c = omega (arith, bounds-edge_rows-edge_index g c)

pub returns-in-Waiting : goal.returns-in-Waiting
returns-in-Waiting g c =
    let edge_rows = c.args.edge_rows.now in
    let at = c.edge_index.result in
    let below : at < length edge_rows =
    omega (
      arith,
      c.edge_index.ensures,
      c.requires.edge_rows,
      edge_index_below c.args.places c.in-Waiting.kind c.args.place c.in-Waiting.victim c.requires.place
          (c.requires.near c.in-Waiting.victim c.in-Waiting.kind c.in-Waiting.is),
    ) in
    c.state.ensures ∙ ap row_state
    (c.index-edge_rows-edge_index.is ∙ get_or-any edge_rows at c.index-edge_rows-edge_index.result edge_row.Idle below)
    ∙ ap (λ j. row_state (get_or edge_rows j edge_row.Idle)) c.edge_index.ensures
    ∙ ap (waited_seen edge_rows c.args.places c.args.place) (sym c.in-Waiting.is)
