use Rattle.std.proofs.Common.{◌≡◌, replicate}
use Rattle.glb_rules.specs.declared.kinds.Mark.TheVariants as mark
use Rattle.glb_core.proofs.world.start.unseen_marks.Given as goal

abbrev pub invariant-loop-i : goal.invariant-loop-i
invariant-loop-i l = record { made : l.marks.items ≡ replicate l._i mark.Unseen }
