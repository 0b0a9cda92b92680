use Rattle.std.proofs.Common.{refl}
use Rattle.glb_core.proofs.world.effects.effect.Goals as goal

pub returns-in-Look-clause-place_row : goal.returns-in-Look-clause-place_row
returns-in-Look-clause-place_row g c = rw (c.in-Look.is, c.look.ensures, c.mark_index.ensures) refl

pub returns-in-Deny-clause-place_row : goal.returns-in-Deny-clause-place_row
returns-in-Deny-clause-place_row g c = rw (c.in-Deny.is, c.deny.ensures.place_row, c.mark_index-in-Deny.ensures) refl
