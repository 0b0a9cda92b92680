use Rattle.std.proofs.Common.{rules}
use Rattle.glb_bound.proofs.Keeping.{may_claim}
use Rattle.glb_bound.proofs.steps.claim.Goals as goal

pub fetch_add-requires : goal.fetch_add-requires
fetch_add-requires c = (
  search rules,
  search rules,
  may_claim c.args.words.now.key _ _ _ c.requires.one.0 c.requires.one.1,
)
