use Rattle.std.proofs.Common.{rules}
use Rattle.glb_bound.proofs.Keeping.{may_raise}
use Rattle.glb_bound.proofs.steps.raise.Goals as goal

pub fetch_max-requires : goal.fetch_max-requires
fetch_max-requires c = (
  search rules,
  search rules,
  may_raise c.args.words.now.key _ _ _ _ c.requires.one,
)
