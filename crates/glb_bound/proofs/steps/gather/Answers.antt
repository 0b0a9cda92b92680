use Rattle.std.proofs.Common.{rules}
use Rattle.glb_bound.proofs.Seating.{may_gather}
use Rattle.glb_bound.proofs.steps.gather.Goals as goal

pub join_seat-requires : goal.join_seat-requires
join_seat-requires c = (
  search rules,
  search rules,
  search rules,
  search rules,
  may_gather c.args.words.now.key _ _ _ _,
)
