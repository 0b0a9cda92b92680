use Rattle.glb_graph.proofs.LawFacts.{distance_is, distance_is_none}
use Rattle.glb_graph.proofs.laws.distance_is_least.Goals as goal

pub returns-clause-some : goal.returns-clause-some
returns-clause-some c = distance_is

pub returns-clause-none : goal.returns-clause-none
returns-clause-none c = distance_is_none
