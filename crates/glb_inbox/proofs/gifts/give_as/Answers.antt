use Rattle.std.proofs.Common.{rules}
use Rattle.glb_inbox.specs.inner.Begins.{job_of}
use Rattle.glb_inbox.proofs.Slips.{may_give}
use Rattle.glb_inbox.proofs.gifts.give_as.Goals as goal

pub split_seat-requires : goal.split_seat-requires
split_seat-requires g c =
    let j = job_of g.P.Program.children g.B.Bag.items c.args.words.now.key in
    let r = c.requires.row in (
      search rules,
      search rules,
      rw (r.0, r.1) (may_give j _ c.args.thief c.args.kind (g.B.Bag.items c.args.part.now) _
          c.requires.ready),
    )
