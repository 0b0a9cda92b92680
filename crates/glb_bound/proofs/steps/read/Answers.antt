use Rattle.std.proofs.Common.{rules}
use Rattle.glb_bound.proofs.Keeping.{may_read}
use Rattle.glb_bound.proofs.steps.read.Goals as goal

pub load-requires : goal.load-requires
load-requires c = (search rules, search rules, may_read c.args.words.now.key _ _ _)
