use Rattle.std.proofs.Common.{[]}
use Rattle.glb_core.specs.inner.Start.{FirstPlaceRows}
use Rattle.glb_core.proofs.world.start.first_place_rows.Given as goal

abbrev pub invariant-loop-place : goal.invariant-loop-place
invariant-loop-place g l =
    record { made : FirstPlaceRows g.B.Bag.items l.params (λ _. []) l.place l.place_rows.items }
