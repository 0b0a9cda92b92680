use Rattle.std.proofs.lemmas.Result.{IfOk-weaker}
use Rattle.glb_run.proofs.ThreadsFacts.{every_report}
use Rattle.glb_tests.proofs.tests.threads.run_queens.Goals as goal

pub returns : goal.returns
returns g c =
    IfOk-weaker c.run_places.result _ _
    (λ report told. (every_report c.args.fabric told).report.small)
    c.run_places.ensures.ok
