use Rattle.glb_tree.proofs.Forests.{nodes_same}
use Rattle.glb_tree.proofs.laws.nodes_are_one_list.Goals as goal

pub returns : goal.returns
returns g c = nodes_same (g.P.Program.children c.args.program.now)
