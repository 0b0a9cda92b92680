use Rattle.std.proofs.Common.{rules}
use Rattle.glb_inbox.specs.inner.Begins.{job_of}
use Rattle.glb_inbox.proofs.Calls.{may_spare}
use Rattle.glb_inbox.proofs.gifts.spare_as.Goals as goal

pub load-requires : goal.load-requires
load-requires g c =
    let j = job_of g.P.Program.children g.B.Bag.items c.args.words.now.key in
    (search rules, search rules, rw c.requires.part (may_spare j _ _ _ _ c.requires.ready))

pub returns-clause-moved : goal.returns-clause-moved
returns-clause-moved g c = rw c.requires.part at c.load.ensures.2
