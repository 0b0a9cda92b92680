use Rattle.std.proofs.Common.{ap, ◌∙◌}
use Rattle.glb_inbox.specs.inner.Begins.{job_of}
use Rattle.glb_inbox.proofs.Closing.{closes}
use Rattle.glb_inbox.proofs.close.read_all.Goals as goal

pub returns-clause-closes : goal.returns-clause-closes
returns-clause-closes g c = λ xs is all.
    let j = job_of g.P.Program.children g.B.Bag.items c.args.words.now.key in
    let one = ap (λ m. m.0) c.read_live-live.ensures.me ∙ is in
    let two = ap (λ m. m.0) c.read_items-items.ensures.me ∙ one in
    closes j xs _ _ _ (c.read_live-live.ensures.told xs is all)
    (c.read_items-items.ensures.told xs one all) (c.read_stop-stop.ensures.told xs two all)
