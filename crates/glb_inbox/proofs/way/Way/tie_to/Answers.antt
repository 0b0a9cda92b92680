use Rattle.std.proofs.Common.{◌∙◌}
use Rattle.glb_inbox.proofs.way.Way.tie_to.Goals as goal

pub name-requires : goal.name-requires
name-requires g c = (rw c.deref-mailbox.ensures c.self.invariant, c.self.view_is ∙ c.requires)
