use Rattle.std.proofs.Common.{refl}
use Rattle.glb_uses.proofs.SumsOfTrees.{counts_sums}
use Rattle.glb_uses.proofs.subset_sums.SubsetSums.root.Goals as goal

pub returns-clause-answer : goal.returns-clause-answer
returns-clause-answer c = counts_sums c.args.self.now.weights.items _ c.args.target refl refl
