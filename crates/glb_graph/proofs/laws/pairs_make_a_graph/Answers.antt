use Rattle.glb_graph.proofs.PairFacts.{targets_of-graph_of}
use Rattle.glb_graph.proofs.LawFacts.{graph_is, graph_edges}
use Rattle.glb_graph.proofs.laws.pairs_make_a_graph.Goals as goal

pub returns-clause-graph : goal.returns-clause-graph
returns-clause-graph c = graph_is

pub returns-clause-edges : goal.returns-clause-edges
returns-clause-edges c = graph_edges

pub returns-clause-targets : goal.returns-clause-targets
returns-clause-targets c = λ n v pairs l. targets_of-graph_of n pairs v l
