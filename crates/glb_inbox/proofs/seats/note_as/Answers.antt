use Rattle.std.proofs.Common.{rules}
use Rattle.glb_inbox.specs.inner.Begins.{job_of}
use Rattle.glb_inbox.proofs.Calls.{may_note}
use Rattle.glb_inbox.proofs.Noting.{noting}
use Rattle.glb_inbox.proofs.seats.note_as.Goals as goal

pub load-requires : goal.load-requires
load-requires g c =
    let j = job_of g.P.Program.children g.B.Bag.items c.args.words.now.key in
    let r = c.requires.ready in (
      search rules,
      search rules,
      rw c.requires.row (may_note j _ _ _ _ (r.0, r.1, noting j r.0.kept c.args.act r.2)),
    )

pub returns-clause-moved : goal.returns-clause-moved
returns-clause-moved g c = rw c.requires.row at c.load.ensures.2
