use Rattle.std.proofs.Common.{◌≡◌, ◌++◌, take, drop}
use Rattle.std.specs.Prelude.{map}
use Rattle.glb_place.specs.inner.Seeing.{unmarked}
use Rattle.glb_place.proofs.sight.unmark_all.Given as goal

abbrev pub invariant-loop-entry : goal.invariant-loop-entry
invariant-loop-entry l = l.entry-items
    ≡ map (unmarked) (take l.entry-index l.fn.ins.items) ++ drop l.entry-index l.fn.ins.items
