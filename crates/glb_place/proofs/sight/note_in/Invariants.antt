use Rattle.std.proofs.Common.{◌≡◌, ◌++◌, take, drop}
use Rattle.std.specs.Prelude.{map}
use Rattle.glb_place.specs.inner.Seeing.{with_mark}
use Rattle.glb_place.proofs.sight.note_in.Given as goal

abbrev pub invariant-loop-entry : goal.invariant-loop-entry
invariant-loop-entry l = l.entry-items
    ≡ map (with_mark l.kind l.thief l.mark l.edge) (take l.entry-index l.fn.ins.items)
    ++ drop l.entry-index l.fn.ins.items
