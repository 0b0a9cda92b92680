use Rattle.std.proofs.Common.{rules}
use Rattle.glb_inbox.specs.inner.Begins.{job_of}
use Rattle.glb_inbox.proofs.Calls.{may_halt}
use Rattle.glb_inbox.proofs.words.halt.Goals as goal

pub fetch_max-requires : goal.fetch_max-requires
fetch_max-requires g c = (
  search rules,
  search rules,
  may_halt (job_of g.P.Program.children g.B.Bag.items c.args.words.now.key) _ _ _ _
      c.requires.ready,
)
