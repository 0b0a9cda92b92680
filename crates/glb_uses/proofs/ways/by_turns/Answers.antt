use Rattle.std.proofs.lemmas.Result.{IfOk-weaker}
use Rattle.glb_uses.proofs.Starts.{outcome_of_root, fault_of_root}
use Rattle.glb_uses.proofs.ways.by_turns.Goals as goal

pub returns-clause-ok : goal.returns-clause-ok
returns-clause-ok g c =
    IfOk-weaker c.run_turns.result _ _
    (λ report told. outcome_of_root _ _ _ _ c.args.root c.args.params.now c.requires.places.0 _
    c.in-Ok.ensures.lists _ _ _ _ told.report)
    c.run_turns.ensures.ok

pub returns-clause-fault : goal.returns-clause-fault
returns-clause-fault g c =
    fault_of_root (g.P.Program.children c.args.program.now) (g.P.Program.value c.args.program.now)
    g.P.Value.Monoid.combine g.P.Value.Monoid.unit c.args.root c.args.params.now
    c.requires.places.0 _ c.in-Ok.ensures.lists c.run_turns.result c.run_turns.ensures.fault
