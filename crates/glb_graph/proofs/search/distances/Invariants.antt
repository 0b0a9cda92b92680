use Rattle.std.proofs.Common.{◌<◌, length, take, ◌-◌, ◌≤◌}
use Rattle.glb_graph.proofs.SearchFacts.{IsSearch, IsDone, IsNear, IsFront, IsQueue}
use Rattle.glb_graph.proofs.search.distances.Given as goal

abbrev pub invariant-loop-target : goal.invariant-loop-target
invariant-loop-target l = record {
  room : IsQueue l.graph l.queue.items l.found;
  front : IsFront l.graph l.start l.table.items (take l.found l.queue.items) l.head l.vertex l.steps
      l.target-items l.target-index;
}

abbrev pub invariant-loop-head : goal.invariant-loop-head
invariant-loop-head l = record {
  room : IsQueue l.graph l.queue.items l.found;
  search : IsSearch l.graph l.start l.table.items (take l.found l.queue.items);
  before : IsDone l.graph l.table.items (take l.found l.queue.items) l.head;
  within : l.head ≤ l.found;
  near : l.head < l.found → IsNear l.table.items (take l.found l.queue.items) l.head;
}

abbrev pub decreases-loop-head : goal.decreases-loop-head
decreases-loop-head l = length l.graph - l.head
