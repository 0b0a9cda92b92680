use Rattle.std.proofs.Common.{◌≡◌, ◌-◌, ◌≤◌, length, []}
use Rattle.std.specs.Prelude.{All}
use Rattle.glb_bound.specs.Best.{IsNode, worth_of}
use Rattle.glb_bound.specs.inner.Views.{next_of}
use Rattle.glb_bound.specs.inner.Places.{IsWalking, items_at}
use Rattle.glb_bound.proofs.place.Work.walk_all.Given as goal

abbrev pub invariant-loop-limit : goal.invariant-loop-limit
invariant-loop-limit g l = record {
  table : l.seat.table_id ≡ l.words.table_id;
  slots : l.seat.me.1 ≡ [];
  places : l.seat.me.0.places ≡ 1;
  frontier : l.seat.me.0.frontier ≡ length l.frontier;
  ended : l.seat.me.0.ended ≡ 0;
  code : l.seat.me.0.code ≤ 1;
  empty : l.self.waiting.items ≡ [];
  visited : l.self.visited ≡ l.seat.me.0.counted;
  within : l.self.visited ≤ l.limit;
  walking : (root : g.row.I.Denot) → All (IsNode (g.S.Program.children l.search) root) l.frontier
      → IsNode (g.S.Program.children l.search) root l.fn.self.best.item
      → worth_of (g.S.Program.value l.search) l.fn.self.best.item ≡ l.fn.self.best.worth
      → IsWalking (g.S.Program.children l.search) (worth_of (g.S.Program.value l.search))
      (g.S.Search.cap_of l.search) root (items_at l.frontier root l.seat.me.0.claimed)
      l.self.visited [] l.self.best l.seat.me.0;
}

abbrev pub decreases-loop-limit : goal.decreases-loop-limit
decreases-loop-limit g l = length l.frontier - next_of l.seat.me.0.claimed
