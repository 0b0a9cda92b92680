use Rattle.std.proofs.Common.{rules}
use Rattle.glb_inbox.specs.inner.Begins.{job_of}
use Rattle.glb_inbox.proofs.Tabled.{gather_step}
use Rattle.glb_inbox.proofs.close.gather.Goals as goal

pub join_seat-requires : goal.join_seat-requires
join_seat-requires g c =
    let j = job_of g.P.Program.children g.B.Bag.items c.args.words.now.key in
    let t = c.requires.table in
    (t.0, t.1, c.requires.free, search rules, gather_step j _ _ _ _)
