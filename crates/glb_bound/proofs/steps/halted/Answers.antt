use Rattle.std.proofs.Common.{rules}
use Rattle.glb_bound.proofs.Keeping.{may_look}
use Rattle.glb_bound.proofs.steps.halted.Goals as goal

pub load-requires : goal.load-requires
load-requires c = (search rules, search rules, may_look c.args.words.now.key _ _ _)
