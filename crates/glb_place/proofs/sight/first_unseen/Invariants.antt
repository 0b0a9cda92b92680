use Rattle.glb_place.specs.inner.Seeing.{LookedBefore}
use Rattle.glb_place.proofs.sight.first_unseen.Given as goal

abbrev pub invariant-loop-at : goal.invariant-loop-at
invariant-loop-at l = LookedBefore l.fn.ins l.at
