use Rattle.std.proofs.Common.{◌+◌, sym, subst}
use Rattle.glb_inbox.specs.inner.Books.{AreWays}
use Rattle.glb_inbox.proofs.WayLemmas.{ways_more}
use Rattle.glb_inbox.proofs.first.ways_to_all.Goals as goal

pub loop-place-preserved : goal.loop-place-preserved
loop-place-preserved g c =
    let w = c.args.words.now in
    let I = c.loop-place.invariant in
    record {
      inboxes = c.in_ok-way.ensures.inboxes;
      ways = subst (AreWays w.table_id w.key.program.value (c.loop-place.place + 1))
          (sym c.in_ok-push.ensures.items)
          (ways_more c.loop-place.place c.loop-place.ways.items I.ways c.in_ok-way.way
          c.in_ok-way.ensures.way);
    }
