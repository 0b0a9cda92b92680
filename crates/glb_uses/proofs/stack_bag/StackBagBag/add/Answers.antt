use Rattle.glb_uses.proofs.Tops.{pushed}
use Rattle.glb_uses.proofs.stack_bag.StackBagBag.add.Goals as goal

pub returns-in-Ok-clause-added : goal.returns-in-Ok-clause-added
returns-in-Ok-clause-added g c = pushed _ _ c.args.item c.in-Ok.ensures.items
