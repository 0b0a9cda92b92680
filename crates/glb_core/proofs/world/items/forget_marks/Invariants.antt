use Rattle.std.proofs.Common.{◌≡◌, replicate, take}
use Rattle.glb_rules.specs.declared.kinds.Mark.TheVariants as mark
use Rattle.glb_core.proofs.world.items.forget_marks.Given as goal

abbrev pub invariant-loop-mark : goal.invariant-loop-mark
invariant-loop-mark l = take l.mark-index l.marks ≡ replicate l.mark-index mark.Unseen
