use Rattle.std.proofs.Common.{◌≢◌, ◌<◌, ℕ, get_or}
use Rattle.glb_rules.specs.declared.kinds.Kind.TheVariants as kind
use Rattle.glb_core.specs.declared.world.rows.EdgeRow.TheVariants as edge_row
use Rattle.glb_core.specs.Tables.{edge_index}
use Rattle.glb_core.proofs.world.conditions.is_asked_by_steals.Given as goal

abbrev pub invariant-loop-thief : goal.invariant-loop-thief
invariant-loop-thief g l =
    record {
      passed : (t : ℕ) → t < l.thief → t ≢ l.place
          → get_or l.edge_rows (edge_index l.places kind.Steal t l.place) edge_row.Idle ≢ edge_row.Asked;
    }
