use Rattle.std.proofs.Common.{◌≡◌, ◌≤◌, ◌-◌, length}
use Rattle.glb_laws.specs.Expansion.{Expands}
use Rattle.glb_bags.specs.Ranges.{IsHeld, all_items}
use Rattle.glb_bags.proofs.range_bag.expand_some.Given as goal

abbrev pub invariant-loop-done : goal.invariant-loop-done
invariant-loop-done g l =
    let children = g.P.Program.children l.program in
    record {
      within : l.done ≤ l.n;
      held : IsHeld children l.entries.items l.made.items;
      count : l.count ≡ length (all_items children l.entries.items);
      so_far : Expands children (g.P.Program.value l.program) g.P.Value.Monoid.combine
          (all_items children l.fn.entries.items) l.fn.acc l.done
          (all_items children l.entries.items) l.acc;
    }

abbrev pub decreases-loop-done : goal.decreases-loop-done
decreases-loop-done g l = l.n - l.done
