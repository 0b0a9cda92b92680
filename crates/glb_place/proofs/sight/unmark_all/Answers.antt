use Rattle.std.proofs.Common.{sym}
use Rattle.glb_place.proofs.Entries.{same_or}
use Rattle.std.proofs.lemmas.List.Edits.{map_over_more}
use Rattle.glb_place.proofs.sight.unmark_all.Goals as goal

pub loop-entry-preserved : goal.loop-entry-preserved
loop-entry-preserved c =
    let h = c.unmark.ensures in
    let i = c.loop-entry.invariant in
    let v = c.deref_mut-entry-items.ensures.value in
    let t = c.loop-entry-test.true in
    let l = c.loop-entry.auto.entry-items in
    rw h (map_over_more _ c.args.ins.now.items c.loop-entry.entry-items c.loop-entry.entry-index _
    (rw v at t) i
    (same_or c.loop-entry.entry-items c.loop-entry.entry-index _ _ (rw (sym l) at t)))
