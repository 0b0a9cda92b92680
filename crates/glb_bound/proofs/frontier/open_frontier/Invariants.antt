use Rattle.std.proofs.Common.{◌≤◌, ◌-◌, ◌+◌}
use Rattle.glb_bound.specs.Best.{worth_of}
use Rattle.glb_bound.specs.inner.Walks.{IsOpened}
use Rattle.glb_bound.proofs.frontier.open_frontier.Given as goal

abbrev pub invariant-loop-items : goal.invariant-loop-items
invariant-loop-items g l = record {
  within : l.visited ≤ l.limit;
  opened : IsOpened (g.S.Program.children l.search) (worth_of (g.S.Program.value l.search))
      (g.S.Search.cap_of l.search) l.fn.root l.visited l.items.items l.best;
}

abbrev pub decreases-loop-items : goal.decreases-loop-items
decreases-loop-items g l = l.limit + 1 - l.visited
