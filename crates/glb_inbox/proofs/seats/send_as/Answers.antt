use Rattle.std.proofs.Common.{rules}
use Rattle.glb_inbox.specs.inner.Begins.{job_of}
use Rattle.glb_inbox.proofs.Slips.{may_send}
use Rattle.glb_inbox.proofs.seats.send_as.Goals as goal

pub split_seat-requires : goal.split_seat-requires
split_seat-requires g c =
    let j = job_of g.P.Program.children g.B.Bag.items c.args.words.now.key in
    let r = c.requires.row in
    (search rules, search rules, rw (r.0, r.1) (may_send j _ c.args.act _ c.requires.ready))
