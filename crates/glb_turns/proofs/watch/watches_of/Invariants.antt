use Rattle.std.proofs.Common.{◌≡◌, length}
use Rattle.glb_turns.specs.inner.Watches.{AreStale}
use Rattle.glb_turns.proofs.watch.watches_of.Given as goal

abbrev pub invariant-loop-place : goal.invariant-loop-place
invariant-loop-place l = record {
  places : l.place-end ≡ l.lines.places;
  many : length l.watches.items ≡ l.place;
  stale : AreStale l.lines l.watches.items;
}
