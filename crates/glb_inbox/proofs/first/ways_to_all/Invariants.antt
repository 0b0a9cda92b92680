use Rattle.glb_inbox.specs.inner.Books.{AreWays}
use Rattle.glb_inbox.proofs.first.ways_to_all.Given as goal

abbrev pub invariant-loop-place : goal.invariant-loop-place
invariant-loop-place g l = record {
  inboxes : AreWays l.words.table_id l.words.key.program.value l.words.key.lines.value.places
      l.inboxes.items;
  ways : AreWays l.words.table_id l.words.key.program.value l.place l.ways.items;
}
