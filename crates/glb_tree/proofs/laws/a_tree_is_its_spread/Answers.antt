use Rattle.glb_tree.proofs.Spreading.{spread_small, spread_nodes, spread_answer}
use Rattle.glb_tree.proofs.laws.a_tree_is_its_spread.Goals as goal

pub returns-clause-small : goal.returns-clause-small
returns-clause-small g c = spread_small (g.P.Program.children c.args.program.now)

pub returns-clause-nodes : goal.returns-clause-nodes
returns-clause-nodes g c = spread_nodes (g.P.Program.children c.args.program.now)

pub returns-clause-answer : goal.returns-clause-answer
returns-clause-answer g c =
    spread_answer (g.P.Program.children c.args.program.now) (g.P.Program.value c.args.program.now)
    g.met.P.Value.Monoid.monoid_laws (g.met.P.Program.value_proper c.args.program.now)
