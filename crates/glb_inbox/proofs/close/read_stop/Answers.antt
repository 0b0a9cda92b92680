use Rattle.std.proofs.Common.{rules}
use Rattle.glb_inbox.specs.inner.Begins.{job_of}
use Rattle.glb_inbox.proofs.Calls.{may_read_stop}
use Rattle.glb_inbox.proofs.close.read_stop.Goals as goal

pub load-requires : goal.load-requires
load-requires g c =
    let j = job_of g.P.Program.children g.B.Bag.items c.args.words.now.key in
    (search rules, search rules, rw c.requires.job (may_read_stop j _ _ _))
