use Rattle.std.proofs.Common.{map, get_or, []}
use Rattle.glb_rules.specs.Setups.{has_items}
use Rattle.glb_core.specs.inner.Start.{FirstEdgeRows}
use Rattle.glb_core.proofs.world.start.first_edge_rows.Given as goal

abbrev pub invariant-loop-victim : goal.invariant-loop-victim
invariant-loop-victim g l =
    record {
      made : FirstEdgeRows l.lines (λ p. has_items (get_or (map g.B.Bag.items l.bags) p []))
          l.lines.places l.victim l.edge_rows.items;
    }
