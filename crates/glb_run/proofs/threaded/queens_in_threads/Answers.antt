use Rattle.std.proofs.Common.{ℕ, ◌≤◌, List, [], sym, subst, ◌∙◌}
use Rattle.glb_queens.specs.Boards.{boards_below, value_of}
use Rattle.glb_run.specs.Jobs.{no_sum, add_sums}
use Rattle.glb_run.specs.inner.Answers.{IsAnswer}
use Rattle.glb_run.proofs.ChildFacts.{few_boards}
use Rattle.glb_run.specs.inner.Stops.{StopsRun}
use Rattle.glb_run.proofs.threaded.queens_in_threads.Goals as goal

pub run_in_threads-requires-clause-few : goal.run_in_threads-requires-clause-few
run_in_threads-requires-clause-few g c κs within =
    few_boards c.new-gated.result.inner c.root-root.result
    (subst (λ n. n ≤ 16) (sym (c.new-gated.ensures ∙ c.new-queens.ensures)) c.requires.n.1)

pub queens_bytes-requires : goal.queens_bytes-requires
queens_bytes-requires g c =
    let run = c.in-Ok.outcome in
    let Answers : ℕ → List ℕ → Type 0 = λ n root.
    IsAnswer (boards_below n) (value_of n) add_sums no_sum root c.args.order.now run.report.items
    run.report.value run.report.counters.items run.roots.items in
    subst (λ n. Answers n []) (c.new-gated.ensures ∙ c.new-queens.ensures)
    (subst (Answers c.new-gated.result.inner) c.root-root.ensures.root c.in-Ok.ensures.run)

pub returns-in-Err-clause-stops : goal.returns-in-Err-clause-stops
returns-in-Err-clause-stops g c =
    let Stops : ℕ → List ℕ → Type 0 = λ n root.
    StopsRun (boards_below n) root c.args.order.now c.in-Err.fault in
    subst (λ n. Stops n []) (c.new-gated.ensures ∙ c.new-queens.ensures)
    (subst (Stops c.new-gated.result.inner) c.root-root.ensures.root c.in-Err.ensures.stops)
