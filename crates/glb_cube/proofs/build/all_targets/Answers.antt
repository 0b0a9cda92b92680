use Rattle.glb_cube.proofs.RowFacts.{rows_round}
use Rattle.glb_cube.proofs.build.all_targets.Goals as goal

pub loop-place-preserved : goal.loop-place-preserved
loop-place-preserved c =
    record {
      made = rows_round _ (λ w. w.items) c.loop-place.all.items _ c.in_ok-targets_of.field-0
          c.loop-place.place c.in_ok-push.ensures.items c.loop-place.invariant.made c.in_ok-targets_of.ensures;
    }
