use Rattle.std.proofs.Common.{rules}
use Rattle.glb_inbox.specs.inner.Begins.{job_of}
use Rattle.glb_inbox.proofs.Calls.{may_end}
use Rattle.glb_inbox.proofs.words.over.Goals as goal

pub load-requires : goal.load-requires
load-requires g c = (
  search rules,
  search rules,
  may_end (job_of g.P.Program.children g.B.Bag.items c.args.words.now.key) _ _ _ c.requires.ready,
)
