use Rattle.std.proofs.Common.{◌≡◌, ◌++◌, take, drop}
use Rattle.std.specs.Prelude.{map}
use Rattle.glb_place.specs.inner.Seeing.{with_state}
use Rattle.glb_place.proofs.first.note_first.Given as goal

abbrev pub invariant-loop-line : goal.invariant-loop-line
invariant-loop-line l = l.line-items
    ≡ map (with_state l.edge) (take l.line-index l.fn.outs.items)
    ++ drop l.line-index l.fn.outs.items
