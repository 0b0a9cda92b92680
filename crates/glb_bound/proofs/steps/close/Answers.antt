use Rattle.glb_bound.proofs.Seating.{ends}
use Rattle.glb_bound.proofs.steps.close.Goals as goal

pub returns : goal.returns
returns c = ends c.args.table.shared.key _ _ c.requires.all _ _ c.close_with-closed.ensures.values.2
