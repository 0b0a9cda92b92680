use Rattle.glb_uts.proofs.TreeTotals.{answer_is_totals}
use Rattle.glb_uts.proofs.uts.Uts.root.Goals as goal

pub returns-clause-answer : goal.returns-clause-answer
returns-clause-answer c = λ most few small.
    answer_is_totals c.args.self.now c.root.result most c.root.ensures.depth few small
