use Rattle.std.proofs.lemmas.Result.{IfOk-weaker}
use Rattle.glb_run.proofs.threaded.knap_in_threads.Goals as goal

pub returns-in-Ok-clause-report : goal.returns-in-Ok-clause-report
returns-in-Ok-clause-report g c =
    let worth = c.in-Ok.best.worth in
    IfOk-weaker c.knap_bytes.result _ _
    (λ bytes whole. record {
      most = worth;
      optimum = (c.root.ensures.best worth).0 c.in-Ok.ensures.worth;
      whole = whole;
    })
    c.knap_bytes.ensures.bytes
