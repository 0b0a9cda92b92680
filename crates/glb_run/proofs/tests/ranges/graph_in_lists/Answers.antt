use Rattle.std.proofs.Common.{ℕ, ◌≤◌, List, length, sym, subst}
use Rattle.glb_laws.specs.Tallies.{no_tallies, join_tallies}
use Rattle.glb_graph.specs.Spots.{spot_children, spot_value}
use Rattle.glb_graph.specs.declared.dist.Spot.{Spot}
use Rattle.glb_graph.specs.declared.dist.Spot.TheVariants.{Root}
use Rattle.glb_run.specs.inner.Answers.{IsAnswer}
use Rattle.glb_run.proofs.ChildFacts.{few_spots}
use Rattle.glb_run.proofs.tests.ranges.graph_in_lists.Goals as goal

pub run_in_threads-requires-clause-few : goal.run_in_threads-requires-clause-few
run_in_threads-requires-clause-few g c κs within =
    let rows = c.new-distances.result.graph.now in
    subst (λ s. length (spot_children rows s) ≤ 100000) (sym c.root-root.ensures)
    (few_spots rows
    (subst (λ (r : List (List ℕ)). length r ≤ 20000) (sym c.new-distances.ensures)
    c.known.ensures.few_vertices))

pub dist_bytes-requires : goal.dist_bytes-requires
dist_bytes-requires g c =
    let run = c.in-Ok.outcome in
    let Answers : List (List ℕ) → Spot → Type 0 = λ rows root.
    IsAnswer (spot_children rows) (spot_value rows) join_tallies no_tallies root c.args.order.now
    run.report.items run.report.value run.report.counters.items run.roots.items in
    subst (λ rows. Answers rows Root) c.new-distances.ensures
    (subst (Answers c.new-distances.result.graph.now) c.root-root.ensures c.in-Ok.ensures.run)
