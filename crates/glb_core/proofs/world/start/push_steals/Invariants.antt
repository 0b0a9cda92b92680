use Rattle.std.proofs.Common.{◌≡◌, ◌++◌, replicate}
use Rattle.glb_core.specs.declared.world.rows.EdgeRow.TheVariants as edge_row
use Rattle.glb_core.proofs.world.start.push_steals.Given as goal

abbrev pub invariant-loop-thief : goal.invariant-loop-thief
invariant-loop-thief g l =
    record { made : l.edge_rows.items ≡ l.fn.edge_rows.items ++ replicate l._thief edge_row.Idle }
