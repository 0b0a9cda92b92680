use Rattle.std.proofs.Common.{arith, get_or}
use borrow.Author.Count.{below_more}
use Rattle.glb_rules.specs.declared.kinds.Kind.TheVariants as kind
use Rattle.glb_core.specs.declared.world.rows.EdgeRow.TheVariants as edge_row
use Rattle.glb_core.specs.Tables.{edge_index}
use Rattle.glb_core.specs.inner.Conditions.{IsArmedRow}
use Rattle.glb_core.proofs.Tables.EdgeRows.{edge_index_below, at_index}
use Rattle.glb_core.proofs.world.conditions.all_armed.Goals as goal

pub bounds-edge_rows-edge_index : goal.bounds-edge_rows-edge_index
bounds-edge_rows-edge_index g c =
    omega (
      arith,
      c.edge_index.ensures,
      c.requires.edge_rows,
      edge_index_below c.args.places kind.Line c.args.place _ c.requires.place
          (c.requires.victims c.loop-victim.victim-index 0 c.loop-victim-test.true),
    )

pub offset_bounds-edge_rows-edge_index : goal.offset_bounds-edge_rows-edge_index
offset_bounds-edge_rows-edge_index g c = omega (arith, bounds-edge_rows-edge_index g c)

pub loop-victim-preserved : goal.loop-victim-preserved
loop-victim-preserved g c = record {
  passed = below_more _ c.loop-victim.victim-index c.loop-victim.invariant.passed
      (at_index IsArmedRow c.args.edge_rows.now c.edge_index.result
      (edge_index c.args.places kind.Line c.args.place
      (get_or c.args.victims.now c.loop-victim.victim-index 0)) c.index-edge_rows-edge_index.result
      edge_row.Idle c.index-edge_rows-edge_index.is
      (omega (
        arith,
        c.edge_index.ensures,
        c.requires.edge_rows,
        edge_index_below c.args.places kind.Line c.args.place _ c.requires.place
            (c.requires.victims c.loop-victim.victim-index 0 c.loop-victim-test.true),
      ))
      c.edge_index.ensures (c.is_armed.ensures.0 c.if-not-is_armed.false));
}
