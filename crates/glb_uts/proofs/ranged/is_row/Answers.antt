use Rattle.std.proofs.Common.{ℕ, [], false, sym, ◌∙◌, arith}
use Rattle.glb_uts.specs.declared.node.Node.{Node}
use Rattle.glb_uts.proofs.ChildrenAsked.{not_other, one_more_in_row}
use Rattle.glb_uts.proofs.ranged.is_row.Goals as goal

pub row-preserved : goal.row-preserved
row-preserved c =
    let none : Node × ℕ = (record { descriptor = []; depth = 0; root = false }, 0) in
    one_more_in_row c.args.asked.now c.row.i none (omega arith)
    (not_other _ _ (sym c.if-ne.false ∙ c.ne.ensures)) c.if-number-first.false c.row.invariant
