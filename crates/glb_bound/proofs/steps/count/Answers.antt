use Rattle.std.proofs.Common.{rules}
use Rattle.glb_bound.proofs.Keeping.{may_count}
use Rattle.glb_bound.proofs.steps.count.Goals as goal

pub fetch_add-requires : goal.fetch_add-requires
fetch_add-requires c = (
  search rules,
  search rules,
  may_count c.args.words.now.key _ _ _ _ c.requires.one c.requires.few,
)
