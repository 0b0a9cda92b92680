use Rattle.std.proofs.Common.{◌+◌, [], map, get_or, ap, ◌∙◌, subst}
use Rattle.std.specs.Prelude.{IfOk}
use Rattle.glb_turns.specs.ScheduledRuns.{IsTurnsReport}
use Rattle.glb_turns.proofs.Numbered.{same_schedule}
use Rattle.glb_turns.proofs.driver.run_listed.Goals as goal

pub returns-clause-ok : goal.returns-clause-ok
returns-clause-ok g c =
    subst
    (λ will. IfOk c.run_turns.result (λ report.
    IsTurnsReport (g.P.Program.children c.args.program.now) (g.P.Program.value c.args.program.now)
    g.P.Value.Monoid.combine g.P.Value.Monoid.unit c.args.params.now
    (λ p. get_or (map (λ v. v.items) c.args.roots.items) p []) will
    report.items report.value report.counters.items))
    (same_schedule
    (λ k. get_or c.new-listed.result.list.items (c.new-listed.result.next + k) 0)
    (λ k. get_or c.args.list.now k 0)
    (λ k. c.new-listed.ensures k ∙ ap (λ l. get_or l k 0) c.in-Ok.ensures.items))
    c.run_turns.ensures.ok
