use Rattle.std.proofs.Common.{◌≡◌, ◌-◌, [], length}
use Rattle.std.specs.Prelude.{All}
use Rattle.glb_bound.specs.inner.Views.{fresh}
use Rattle.glb_bound.specs.inner.Places.{IsReady}
use Rattle.glb_bound.proofs.many.deal_places.Given as goal

abbrev pub invariant-loop : goal.invariant-loop
invariant-loop g l = record {
  table : l.dealer.table_id ≡ l.words.table_id;
  dealt : l.dealer.me ≡ (fresh (l.places - l.counter) l.words.key.frontier, []);
  number : length l.all.items ≡ l.counter;
  ready : All (IsReady l.words.table_id l.words.key.frontier l.best) l.all.items;
}
