use Rattle.std.proofs.Common.{[], ◌∷◌, refl, ◌∙◌}
use Rattle.glb_uts.proofs.Messages.{two_parts}
use Rattle.glb_uts.proofs.node.child_message.Goals as goal

pub returns : goal.returns
returns c =
    two_parts c.copy_from_slice.new.self (0 ∷ 0 ∷ 0 ∷ 0 ∷ []) c.copy_from_slice-2.new.self
    c.args.parent.now _
    c.told-parent refl c.copy_from_slice.ensures.after
    (c.copy_from_slice-2.ensures.after ∙ c.to_be_bytes.ensures)
