use Rattle.glb_graph.proofs.ReadFacts.{says_limits}
use Rattle.glb_graph.proofs.PairFacts.{length-graph_of}
use Rattle.glb_graph.proofs.LawFacts.{graph_is, graph_edges}
use Rattle.glb_graph.proofs.laws.text_is_of_a_graph.Goals as goal

pub returns-clause-graph : goal.returns-clause-graph
returns-clause-graph c = λ bytes v pairs says. let l = says_limits bytes v pairs says
    in graph_is v pairs l.0 l.1 l.2

pub returns-clause-vertices : goal.returns-clause-vertices
returns-clause-vertices c = length-graph_of

pub returns-clause-edges : goal.returns-clause-edges
returns-clause-edges c =
    λ bytes v pairs says. graph_edges v pairs (says_limits bytes v pairs says).2
