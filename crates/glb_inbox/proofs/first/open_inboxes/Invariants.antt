use Rattle.glb_inbox.specs.inner.Books.{AreWays}
use Rattle.glb_inbox.proofs.first.open_inboxes.Given as goal

abbrev pub invariant-loop : goal.invariant-loop
invariant-loop g l = AreWays l.seat.table_id l.program l.counter l.ways.items
