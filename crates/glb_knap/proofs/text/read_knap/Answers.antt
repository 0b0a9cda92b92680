use Rattle.glb_knap.proofs.Readings.{says_problem}
use Rattle.glb_knap.proofs.text.read_knap.Goals as goal

pub new-requires : goal.new-requires
new-requires c = says_problem _ _ _ c.in_ok-capacity.ensures.lines
