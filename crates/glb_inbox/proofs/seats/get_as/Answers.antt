use Rattle.std.proofs.Common.{rules}
use Rattle.glb_inbox.specs.inner.Begins.{job_of}
use Rattle.glb_inbox.proofs.Slips.{may_get}
use Rattle.glb_inbox.proofs.seats.get_as.Goals as goal

pub join_seat-requires : goal.join_seat-requires
join_seat-requires g c =
    let j = job_of g.P.Program.children g.B.Bag.items c.args.words.now.key in
    let t = c.requires.table in
    let s = c.requires.slip in (
      t.0,
      t.1,
      s.0,
      search rules,
      rw c.requires.row (may_get j _ _ c.args.act _ c.args.slip.me c.requires.ready s.0 s.1),
    )
