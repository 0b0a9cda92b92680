use Rattle.glb_graph.proofs.ReadFacts.{says_limits, says_graph}
use Rattle.glb_graph.proofs.text.read_graph.Goals as goal

pub from_pairs-requires-clause-few : goal.from_pairs-requires-clause-few
from_pairs-requires-clause-few c = (says_limits _ _ _ c.in_ok-vertices.ensures.graph).1

pub from_pairs-requires-clause-limit : goal.from_pairs-requires-clause-limit
from_pairs-requires-clause-limit c = (says_limits _ _ _ c.in_ok-vertices.ensures.graph).0

pub from_pairs-requires-clause-pairs : goal.from_pairs-requires-clause-pairs
from_pairs-requires-clause-pairs c = (says_limits _ _ _ c.in_ok-vertices.ensures.graph).2

pub returns-in-Ok-clause-graph : goal.returns-in-Ok-clause-graph
returns-in-Ok-clause-graph c = says_graph _ _ _ _ c.in_ok-vertices.ensures.graph c.in-Ok.ensures
