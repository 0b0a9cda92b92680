use Rattle.glb_run.proofs.BesideFacts.{hold_then}
use Rattle.glb_run.proofs.beside.work_all.Goals as goal

pub returns-clause-same : goal.returns-clause-same
returns-clause-same g c = hold_then g.F.Fabric.program g.F.Fabric.home g.F.Fabric.refuses
    (λ p. p.fabric) c.args.places.now c.work_each.new.places c.end_by_turns.new.places
    c.work_each.auto.places c.work_each.ensures c.end_by_turns.ensures.same
