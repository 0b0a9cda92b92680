use Rattle.std.proofs.Common.{ap, ◌∙◌, ◌++◌, ◌∷◌, [], sym, append_assoc, append-nil}
use Rattle.std.proofs.lemmas.List.{replicate_more}
use Rattle.glb_core.specs.declared.world.rows.EdgeRow.TheVariants as edge_row
use Rattle.glb_core.proofs.world.start.push_steals.Goals as goal

pub loop-thief-init : goal.loop-thief-init
loop-thief-init g c = record { made = sym (append-nil c.args.edge_rows.now.items) }

pub loop-thief-preserved : goal.loop-thief-preserved
loop-thief-preserved g c = record {
  made = c.in_ok-push.ensures.items ∙ ap (λ x. x ++ edge_row.Idle ∷ []) c.loop-thief.invariant.made
      ∙ append_assoc c.args.edge_rows.now.items _ (edge_row.Idle ∷ [])
      ∙ ap (λ x. c.args.edge_rows.now.items ++ x) (replicate_more c.loop-thief._thief edge_row.Idle);
}
