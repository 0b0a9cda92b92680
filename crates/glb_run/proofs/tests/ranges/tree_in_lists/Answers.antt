use Rattle.std.proofs.Common.{◌≡◌, ◌≤◌, ap, sym, subst, ◌∙◌}
use Rattle.glb_laws.specs.Tallies.{no_tallies, join_tallies}
use Rattle.glb_uts.specs.Binomial.{children, value_of}
use Rattle.glb_uts.specs.Descriptors.{root_descriptor}
use Rattle.glb_uts.specs.declared.uts.Uts.{Uts}
use Rattle.glb_uts.specs.declared.node.Node.{Node}
use Rattle.glb_run.specs.Jobs.{tree_of, root_of}
use Rattle.glb_run.proofs.RunFacts.{tree_same, root_same}
use Rattle.glb_run.specs.inner.Answers.{IsAnswer}
use Rattle.glb_run.proofs.ChildFacts.{few_nodes}
use Rattle.glb_run.proofs.tests.ranges.tree_in_lists.Goals as goal

pub run_in_threads-requires-clause-few : goal.run_in_threads-requires-clause-few
run_in_threads-requires-clause-few g c κs within =
    few_nodes c.new-tree.result c.root-root.result c.root-root.ensures.root
    (subst (λ b. b ≤ 100000) (sym c.new-tree.ensures.b0) c.requires.numbers.0)

pub uts_bytes-requires : goal.uts_bytes-requires
uts_bytes-requires g c =
    let run = c.in-Ok.outcome in
    let n = c.args.numbers in
    let made = c.new-tree.ensures in
    let tree : c.new-tree.result ≡ tree_of n.0 n.1 n.2 n.3 =
    tree_same c.new-tree.result _ _ _ _ made.b0 made.m made.q made.seed in
    let root : c.root-root.result ≡ root_of n.3 =
    root_same c.root-root.result n.3
    (c.root-root.ensures.descriptor ∙ ap root_descriptor made.seed) c.root-root.ensures.depth
    c.root-root.ensures.root in
    let Answers : Uts → Node → Type 0 = λ t u.
    IsAnswer (children t) (value_of t) join_tallies no_tallies u c.args.order.now run.report.items
    run.report.value run.report.counters.items run.roots.items in
    subst (λ t. Answers t (root_of n.3)) tree
    (subst (Answers c.new-tree.result) root c.in-Ok.ensures.run)
