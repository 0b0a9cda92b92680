use Rattle.glb_graph.proofs.ValueFacts.{length-spots}
use Rattle.glb_graph.proofs.LawFacts.{root_tree, root_small}
use Rattle.glb_graph.proofs.laws.tree_of_the_root.Goals as goal

pub returns-clause-small : goal.returns-clause-small
returns-clause-small c = root_small

pub returns-clause-nodes : goal.returns-clause-nodes
returns-clause-nodes c = root_tree

pub returns-clause-count : goal.returns-clause-count
returns-clause-count c = length-spots
