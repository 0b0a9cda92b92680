use Rattle.std.proofs.Common.{ap, ◌∙◌, ◌++◌, ◌∷◌, [], sym, append_assoc, append-nil, get_or, map}
use Rattle.std.proofs.Common.{arith}
use Rattle.std.specs.List.{range_with_len}
use Rattle.std.proofs.lemmas.List.FromFn.{map-range_with_len_more}
use Rattle.glb_laws.specs.Numbers.{has_number}
use Rattle.glb_cube.specs.Lines.{outs_of}
use Rattle.glb_rules.specs.Setups.{has_items}
use Rattle.glb_core.specs.inner.Start.{first_edge_row}
use Rattle.glb_core.proofs.world.start.push_lines.Goals as goal

pub loop-thief-init : goal.loop-thief-init
loop-thief-init g c = record { made = sym (append-nil c.args.edge_rows.now.items) }

pub loop-thief-preserved : goal.loop-thief-preserved
loop-thief-preserved g c = record {
  made = c.in_ok-push.ensures.items ∙ ap (λ x. x ++ c.row_of_line.result ∷ []) c.loop-thief.invariant.made
      ∙ append_assoc c.args.edge_rows.now.items _ (c.row_of_line.result ∷ [])
      ∙ ap (λ y. c.args.edge_rows.now.items
      ++ (map (λ t. first_edge_row (has_items (get_or (map g.B.Bag.items c.args.bags.now) t []))
      (has_number c.args.victim (outs_of c.args.lines.now t))) (range_with_len 0 c.loop-thief.thief)
      ++ y ∷ []))
      (c.row_of_line.ensures ∙ ap (λ a. first_edge_row a c.is_line.result) c.is_awake-awake.ensures
      ∙ ap (first_edge_row (has_items (get_or (map g.B.Bag.items c.args.bags.now) c.loop-thief.thief [])))
      c.is_line.ensures)
      ∙ ap (λ x. c.args.edge_rows.now.items ++ x)
      (sym (map-range_with_len_more
      (λ t. first_edge_row (has_items (get_or (map g.B.Bag.items c.args.bags.now) t []))
      (has_number c.args.victim (outs_of c.args.lines.now t))) 0 c.loop-thief.thief c.loop-thief.thief
      (omega arith)));
}
