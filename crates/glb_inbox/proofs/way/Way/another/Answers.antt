use Rattle.std.proofs.Common.{◌∙◌}
use Rattle.glb_inbox.proofs.way.Way.another.Goals as goal

pub copy-pass-requires : goal.copy-pass-requires
copy-pass-requires g c =
    let t = c.requires.tied in
    (rw c.deref-mailbox.ensures c.self.invariant, (t.0, c.self.view_is ∙ t.1))
