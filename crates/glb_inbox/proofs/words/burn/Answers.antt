use Rattle.std.proofs.Common.{rules}
use Rattle.glb_inbox.specs.inner.Begins.{job_of}
use Rattle.glb_inbox.proofs.Calls.{may_burn}
use Rattle.glb_inbox.proofs.words.burn.Goals as goal

pub fetch_sub-requires : goal.fetch_sub-requires
fetch_sub-requires g c = (
  search rules,
  search rules,
  may_burn (job_of g.P.Program.children g.B.Bag.items c.args.words.now.key) _ _ _
      c.requires.ready,
)
