use Rattle.std.proofs.Common.{refl}
use Rattle.glb_core.proofs.world.effects.deny.Goals as goal

pub returns-clause-place_row : goal.returns-clause-place_row
returns-clause-place_row g c = rw c.count_denied.ensures refl
