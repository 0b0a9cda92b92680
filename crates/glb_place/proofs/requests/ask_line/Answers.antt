use Rattle.std.proofs.Common.{refl}
use Rattle.glb_place.proofs.AgreesFacts.{agrees_line_asked}
use Rattle.glb_place.proofs.HoldsFacts.{holds_as}
use Rattle.glb_place.proofs.requests.ask_line.Goals as goal

pub returns-clause-holds : goal.returns-clause-holds
returns-clause-holds g c =
    rw (c.ask.ensures.same.program_stays, c.in_ok-ask.ensures.kept)
    (holds_as _ _ _ _ _ _ _ _ _ _ _ c.requires.holds _ _ refl refl refl
    (c.count_ask.ensures _ c.requires.holds.counters_are))

pub returns-clause-agrees : goal.returns-clause-agrees
returns-clause-agrees g c =
    rw (c.in_ok-ask.ensures.kept, c.note_out.ensures)
    (agrees_line_asked _ _ _ _ _ _ _ _ _ c.requires.agrees c.args.victim c.requires.may
    c.requires.there
    c.requires.not_minted)
