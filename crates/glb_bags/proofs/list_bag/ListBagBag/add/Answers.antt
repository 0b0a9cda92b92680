use Rattle.glb_bags.proofs.ItemsAtTheEnd.{pushed}
use Rattle.glb_bags.proofs.list_bag.ListBagBag.add.Goals as goal

pub returns-in-Ok-clause-added : goal.returns-in-Ok-clause-added
returns-in-Ok-clause-added g c = pushed _ _ c.args.self.now.held c.args.item c.in-Ok.ensures.items
