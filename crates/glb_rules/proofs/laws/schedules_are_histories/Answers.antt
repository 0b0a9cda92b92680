use Rattle.glb_rules.proofs.Decisions.Runs.{schedule_decides, decided_run, decided_run_halts_not}
use Rattle.glb_rules.proofs.laws.schedules_are_histories.Goals as goal

pub returns-clause-decided : goal.returns-clause-decided
returns-clause-decided g c = λ children s seed old new ns es P r.
    schedule_decides children s seed P old ns es new r

pub returns-clause-history : goal.returns-clause-history
returns-clause-history g c = λ children s seed old new es r.
    (decided_run_halts_not children s seed old es new r, decided_run children s seed old es new r)
