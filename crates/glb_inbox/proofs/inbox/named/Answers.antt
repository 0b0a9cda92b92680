use Rattle.glb_inbox.specs.inner.Posted.{tie}
use Rattle.glb_inbox.proofs.Posting.{names}
use Rattle.glb_inbox.proofs.inbox.named.Goals as goal

pub another-requires-clause-rule : goal.another-requires-clause-rule
another-requires-clause-rule g c = names g.B.Bag.items g.B.Bag.fits _ _ _ c.requires.pass.1
    (tie c.args.program.now c.args.seat.now.table_id, c.requires.tie)
