use Rattle.std.proofs.Common.{rules, ap}
use Rattle.glb_inbox.specs.inner.Begins.{job_of}
use Rattle.glb_inbox.proofs.Slips.{may_take_back}
use Rattle.glb_inbox.proofs.gifts.take_back.Goals as goal

pub join_seat-requires : goal.join_seat-requires
join_seat-requires g c =
    let j = job_of g.P.Program.children g.B.Bag.items c.args.words.now.key in
    let t = c.requires.table in (
      t.0,
      t.1,
      ap (λ m. m.1) c.requires.slip,
      search rules,
      may_take_back j _ _ c.args.act _ c.args.slip.me c.requires.ready c.requires.slip,
    )
