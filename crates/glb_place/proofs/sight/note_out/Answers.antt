use Rattle.std.proofs.Common.{sym}
use Rattle.glb_place.proofs.Entries.{same_or}
use Rattle.std.proofs.lemmas.List.Edits.{map_over_more}
use Rattle.glb_place.proofs.sight.note_out.Goals as goal

pub loop-line-preserved : goal.loop-line-preserved
loop-line-preserved c =
    let h = c.note_one.ensures in
    let i = c.loop-line.invariant in
    let v = c.deref_mut-line-items.ensures.value in
    let t = c.loop-line-test.true in
    let l = c.loop-line.auto.line-items in
    rw h (map_over_more _ c.args.outs.now.items c.loop-line.line-items c.loop-line.line-index _
    (rw v at t) i
    (same_or c.loop-line.line-items c.loop-line.line-index _ _ (rw (sym l) at t)))
