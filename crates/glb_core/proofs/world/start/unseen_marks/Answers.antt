use Rattle.std.proofs.Common.{ap, ◌∙◌, ◌++◌, ◌∷◌, []}
use Rattle.std.proofs.lemmas.List.{replicate_more}
use Rattle.glb_rules.specs.declared.kinds.Mark.TheVariants as mark
use Rattle.glb_core.proofs.world.start.unseen_marks.Goals as goal

pub loop-i-preserved : goal.loop-i-preserved
loop-i-preserved c =
    record {
      made = c.in_ok-push.ensures.items ∙ ap (λ x. x ++ mark.Unseen ∷ []) c.loop-i.invariant.made
          ∙ replicate_more c.loop-i._i mark.Unseen;
    }
