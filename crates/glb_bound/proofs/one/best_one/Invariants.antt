use Rattle.std.proofs.Common.{◌≡◌, ◌∷◌, [], ◌≤◌, ◌-◌, ◌+◌}
use Rattle.glb_bound.specs.Best.{IsNode, worth_of}
use Rattle.glb_bound.specs.inner.Walks.{IsWalked}
use Rattle.glb_bound.proofs.one.best_one.Given as goal

abbrev pub invariant-loop-item : goal.invariant-loop-item
invariant-loop-item g l = record {
  within : l.visited ≤ l.limit;
  walked : IsWalked (g.S.Program.children l.search) (worth_of (g.S.Program.value l.search))
      (g.S.Search.cap_of l.search) (l.fn.root ∷ []) l.visited l.waiting.items l.best.worth;
  node : IsNode (g.S.Program.children l.search) l.fn.root l.best.item;
  worth : worth_of (g.S.Program.value l.search) l.best.item ≡ l.best.worth;
}

abbrev pub decreases-loop-item : goal.decreases-loop-item
decreases-loop-item g l = l.limit + 1 - l.visited
