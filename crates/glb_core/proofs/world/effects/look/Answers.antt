use Rattle.std.proofs.Common.{refl}
use Rattle.glb_core.proofs.world.effects.look.Goals as goal

pub returns : goal.returns
returns g c = rw (c.mark_after_look.ensures, c.state.ensures) refl
