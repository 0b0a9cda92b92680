use Rattle.std.proofs.Common.{refl}
use Rattle.glb_place.proofs.AgreesFacts.{agrees_slept}
use Rattle.glb_place.proofs.HoldsFacts.{holds_as}
use Rattle.glb_place.proofs.actions.sleep.Goals as goal

pub returns-clause-holds : goal.returns-clause-holds
returns-clause-holds g c =
    rw (c.sleep.ensures.same.program_stays, c.sleep.ensures.kept)
    (holds_as _ _ _ _ _ _ _ _ _ _ _ c.requires.holds _ _ refl refl refl
    (c.count_sleep.ensures _ c.requires.holds.counters_are))

pub returns-clause-agrees : goal.returns-clause-agrees
returns-clause-agrees g c =
    rw c.sleep.ensures.kept
    (agrees_slept _ _ _ _ _ _ _ _ _ c.requires.agrees c.requires.may c.requires.not_minted)
