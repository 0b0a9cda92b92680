use Rattle.std.proofs.Common.{◌≡◌, ◌≤◌, ◌+◌, ℕ, List, ◌++◌, length}
use Rattle.std.specs.Prelude.{All}
use Rattle.glb_bound.specs.Best.{worth_of}
use Rattle.glb_bound.specs.inner.Places.{IsDone, HasPlayed}
use Rattle.glb_bound.proofs.many.gather_all.Given as goal

abbrev pub invariant-loop-place : goal.invariant-loop-place
invariant-loop-place g l = record {
  whole : l.fn.places.items ≡ l.yielded ++ l.place-iterator.rest.items;
  table : l.seat.table_id ≡ l.words.table_id;
  done : All (IsDone (g.S.Program.children l.search) (worth_of (g.S.Program.value l.search))
      (g.S.Search.cap_of l.search) l.words.table_id l.frontier l.fn.first)
      l.place-iterator.rest.items;
  played : (n : ℕ) × (waiting : List g.row.S-Item.Denot) × (l.visited ≡ l.fn.before + n)
      × HasPlayed (g.S.Program.children l.search) (worth_of (g.S.Program.value l.search))
      (g.S.Search.cap_of l.search) l.frontier l.fn.first (length l.yielded) n waiting l.best
      l.seat.me.0;
  least : l.fn.first.worth ≤ l.best.worth;
}
