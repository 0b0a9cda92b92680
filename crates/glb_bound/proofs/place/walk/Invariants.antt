use Rattle.std.proofs.Common.{◌≡◌, ◌+◌, ◌-◌, ◌<◌, ◌≤◌, List}
use Rattle.glb_bound.specs.Best.{worth_of}
use Rattle.glb_bound.specs.inner.Places.{SameClaims, IsWalking}
use Rattle.glb_bound.proofs.place.walk.Given as goal

abbrev pub invariant-loop-item : goal.invariant-loop-item
invariant-loop-item g l = record {
  table : l.seat.table_id ≡ l.words.table_id;
  slots : l.seat.me.1 ≡ l.fn.seat.me.1;
  same : SameClaims l.fn.seat.me.0 l.seat.me.0;
  visited : l.visited ≡ l.seat.me.0.counted;
  within : l.visited ≤ l.limit;
  few : l.more < 64;
  kept : (root : g.row.S-Item.Denot) (roots : List g.row.S-Item.Denot)
      → IsWalking (g.S.Program.children l.search) (worth_of (g.S.Program.value l.search))
      (g.S.Search.cap_of l.search) root roots l.fn.seat.me.0.counted l.fn.waiting.items
      l.fn.best l.fn.seat.me.0
      → IsWalking (g.S.Program.children l.search) (worth_of (g.S.Program.value l.search))
      (g.S.Search.cap_of l.search) root roots (l.visited + l.more) l.waiting.items l.best
      l.seat.me.0;
}

abbrev pub decreases-loop-item : goal.decreases-loop-item
decreases-loop-item g l = l.limit + 65 - (l.visited + l.more)
