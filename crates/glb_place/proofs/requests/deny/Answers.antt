use Rattle.std.proofs.Common.{refl}
use Rattle.glb_place.proofs.AgreesFacts.{agrees_denied}
use Rattle.glb_place.proofs.HoldsFacts.{holds_as}
use Rattle.glb_place.proofs.requests.deny.Goals as goal

pub returns-clause-holds : goal.returns-clause-holds
returns-clause-holds g c =
    rw (c.deny.ensures.same.program_stays, c.in_ok-deny.ensures.kept)
    (holds_as _ _ _ _ _ _ _ _ _ _ _ c.requires.holds _ _ refl refl refl
    (c.count_denied.ensures _ c.requires.holds.counters_are))

pub returns-clause-agrees : goal.returns-clause-agrees
returns-clause-agrees g c =
    rw (c.in_ok-deny.ensures.kept, c.note_in.ensures)
    (agrees_denied _ _ _ _ _ _ _ _ _ c.requires.agrees c.args.kind c.args.thief c.requires.there
    c.requires.not_minted)
