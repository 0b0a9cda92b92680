use Rattle.std.proofs.Common.{◌≡◌, ◌++◌, map, get_or, []}
use Rattle.std.specs.List.{range_with_len}
use Rattle.glb_laws.specs.Numbers.{has_number}
use Rattle.glb_cube.specs.Lines.{outs_of}
use Rattle.glb_rules.specs.Setups.{has_items}
use Rattle.glb_core.specs.inner.Start.{first_edge_row}
use Rattle.glb_core.proofs.world.start.push_lines.Given as goal

abbrev pub invariant-loop-thief : goal.invariant-loop-thief
invariant-loop-thief g l =
    record {
      made : l.edge_rows.items ≡ l.fn.edge_rows.items
          ++ map (λ t. first_edge_row (has_items (get_or (map g.B.Bag.items l.bags) t []))
          (has_number l.victim (outs_of l.lines t))) (range_with_len 0 l.thief);
    }
