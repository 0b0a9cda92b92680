use Rattle.std.proofs.Common.{map, get_or, [], refl, ap, arith, length, ◌∙◌, ◌++◌, ◌+◌, replicate}
use Rattle.glb_rules.specs.Setups.{has_items}
use Rattle.glb_core.specs.declared.world.rows.EdgeRow.TheVariants as edge_row
use Rattle.glb_core.proofs.Start.Made.{rows_more}
use Rattle.glb_core.proofs.world.start.first_edge_rows.Goals as goal

pub loop-victim-init : goal.loop-victim-init
loop-victim-init g c =
    record {
      made = record {
        number = ap length c.new-edge_rows.ensures.items
            ∙ omega arith;
        edge = λ k t v l m. absurd (omega arith);
        plain = λ j d l.
            absurd (let e = ap length c.new-edge_rows.ensures.items in omega arith);
      };
    }

pub loop-victim-preserved : goal.loop-victim-preserved
loop-victim-preserved g c = record {
  made = rows_more c.args.lines.now (λ p. has_items (get_or (map g.B.Bag.items c.args.bags.now) p []))
      c.args.lines.now.places c.loop-victim.victim (c.loop-victim.victim + 1)
      c.loop-victim.edge_rows.items c.push_steals.new.edge_rows.items c.push_lines.new.edge_rows.items
      c.loop-victim.invariant.made refl
      (c.in_ok-push_steals.ensures
      ∙ ap (λ n. c.loop-victim.edge_rows.items ++ replicate n edge_row.Idle) c.places.ensures.places)
      c.in_ok-push_lines.ensures;
}
