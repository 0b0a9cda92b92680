use Rattle.std.proofs.Common.{rules}
use Rattle.glb_inbox.specs.inner.Begins.{job_of}
use Rattle.glb_inbox.proofs.Calls.{may_settle}
use Rattle.glb_inbox.proofs.gifts.settle_as.Goals as goal

pub fetch_add-requires : goal.fetch_add-requires
fetch_add-requires g c =
    let k = c.args.words.now.key in
    let j = job_of g.P.Program.children g.B.Bag.items k in (
      search rules,
      search rules,
      rw c.requires.leaves
          (may_settle j (g.P.Program.value k.program.value) g.P.Value.Monoid.unit
          g.P.Value.Monoid.combine _ _ _ _ _ c.args.gain.now _
          (record { tells = λ bag taken t. (c.requires.takes bag taken).1 t }) c.requires.ready),
    )

pub returns-clause-moved : goal.returns-clause-moved
returns-clause-moved g c =
    let e = rw c.requires.leaves at c.fetch_add.ensures.2 in
    (e.0, (c.requires.takes _ e.0).0 e.1, e.2, e.3)
