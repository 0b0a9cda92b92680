use Rattle.std.proofs.Common.{rules}
use Rattle.glb_inbox.specs.inner.Begins.{job_of}
use Rattle.glb_inbox.proofs.Calls.{may_mint}
use Rattle.glb_inbox.proofs.words.mint.Goals as goal

pub fetch_add-requires : goal.fetch_add-requires
fetch_add-requires g c = (
  search rules,
  search rules,
  may_mint (job_of g.P.Program.children g.B.Bag.items c.args.words.now.key) _ _ _
      c.requires.ready,
)
