use Rattle.std.proofs.Common.{◌≤◌, ◌-◌}
use Rattle.glb_laws.specs.Expansion.{Expands}
use Rattle.glb_bags.proofs.list_bag.expand_some.Given as goal

abbrev pub invariant-loop-done : goal.invariant-loop-done
invariant-loop-done g l = record {
  within : l.done ≤ l.n;
  so_far : Expands (g.P.Program.children l.program) (g.P.Program.value l.program)
      g.P.Value.Monoid.combine l.fn.items.items l.fn.acc l.done l.items.items l.acc;
}

abbrev pub decreases-loop-done : goal.decreases-loop-done
decreases-loop-done g l = l.n - l.done
