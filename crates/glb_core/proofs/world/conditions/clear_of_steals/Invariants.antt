use Rattle.std.proofs.Common.{◌≡◌, ◌≢◌, ◌<◌, ℕ, get_or}
use Rattle.glb_rules.specs.declared.kinds.Kind.TheVariants as kind
use Rattle.glb_rules.specs.declared.kinds.Mark.TheVariants as mark
use Rattle.glb_core.specs.Tables.{mark_index}
use Rattle.glb_core.proofs.world.conditions.clear_of_steals.Given as goal

abbrev pub invariant-loop-thief : goal.invariant-loop-thief
invariant-loop-thief g l =
    record {
      passed : (t : ℕ) → t < l.thief → t ≢ l.place
          → get_or l.place_row.marks.items (mark_index l.places kind.Steal t) mark.Unseen
          ≡ mark.Clear;
    }
