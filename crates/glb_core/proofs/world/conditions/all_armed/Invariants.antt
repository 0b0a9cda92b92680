use Rattle.std.proofs.Common.{◌<◌, ℕ, get_or}
use Rattle.glb_rules.specs.declared.kinds.Kind.TheVariants as kind
use Rattle.glb_core.specs.declared.world.rows.EdgeRow.TheVariants as edge_row
use Rattle.glb_core.specs.Tables.{edge_index}
use Rattle.glb_core.specs.inner.Conditions.{IsArmedRow}
use Rattle.glb_core.proofs.world.conditions.all_armed.Given as goal

abbrev pub invariant-loop-victim : goal.invariant-loop-victim
invariant-loop-victim g l =
    record {
      passed : (i : ℕ) → i < l.victim-index
          → IsArmedRow (get_or l.edge_rows (edge_index l.places kind.Line l.place (get_or l.victims i 0)) edge_row.Idle);
    }
