use Rattle.std.proofs.Common.{◌∙◌}
use Rattle.glb_inbox.proofs.way.Way.receive.Goals as goal

pub receive-requires : goal.receive-requires
receive-requires g c =
    let t = c.requires.tied in
    (rw c.deref-mailbox.ensures c.self.invariant, (t.0, c.self.view_is ∙ t.1))
