use Rattle.glb_tree.proofs.Orders.{ended_small, ended_nodes}
use Rattle.glb_tree.proofs.laws.every_order_ends_alike.Goals as goal

pub returns-clause-small : goal.returns-clause-small
returns-clause-small g c = ended_small (g.P.Program.children c.args.program.now)

pub returns-clause-nodes : goal.returns-clause-nodes
returns-clause-nodes g c = ended_nodes (g.P.Program.children c.args.program.now)
