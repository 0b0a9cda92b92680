use Rattle.std.proofs.Common.{◌<◌, ℕ, get_or}
use Rattle.glb_rules.specs.declared.kinds.Kind.TheVariants as kind
use Rattle.glb_core.specs.declared.world.rows.EdgeRow.TheVariants as edge_row
use Rattle.glb_core.specs.Tables.{edge_index}
use Rattle.glb_core.specs.inner.Conditions.{IsWantedRow}
use Rattle.glb_core.proofs.world.conditions.is_asked_by_lines.Given as goal

abbrev pub invariant-loop-thief : goal.invariant-loop-thief
invariant-loop-thief g l =
    record {
      passed : (i : ℕ) → i < l.thief-index
          → IsWantedRow (get_or l.edge_rows (edge_index l.places kind.Line (get_or l.thieves i 0) l.place) edge_row.Idle)
          → ⊥;
    }
