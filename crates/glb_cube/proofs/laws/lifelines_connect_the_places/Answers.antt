use Rattle.glb_cube.proofs.GraphFacts.{graph_laws}
use Rattle.glb_cube.proofs.laws.lifelines_connect_the_places.Goals as goal

pub returns : goal.returns
returns c = graph_laws
