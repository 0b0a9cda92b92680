use Rattle.std.proofs.Common.{rules}
use Rattle.glb_bound.proofs.Keeping.{may_halt}
use Rattle.glb_bound.proofs.steps.halt.Goals as goal

pub fetch_max-requires : goal.fetch_max-requires
fetch_max-requires c = (
  search rules,
  search rules,
  may_halt c.args.words.now.key _ _ _ _ c.requires.one c.requires.cause,
)
