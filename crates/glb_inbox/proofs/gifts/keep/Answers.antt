use Rattle.std.proofs.Common.{rules, ap}
use Rattle.glb_inbox.specs.inner.Begins.{job_of}
use Rattle.glb_inbox.proofs.Slips.{may_undo_give}
use Rattle.glb_inbox.proofs.gifts.keep.Goals as goal

pub join_seat-requires : goal.join_seat-requires
join_seat-requires g c =
    let j = job_of g.P.Program.children g.B.Bag.items c.args.words.now.key in
    let t = c.requires.table in
    let r = c.requires.ready in (
      t.0,
      t.1,
      ap (λ m. m.1) c.requires.slip,
      search rules,
      may_undo_give j _ _ _ _ _ r.0 _ c.args.slip.me r.1 c.requires.slip,
    )
