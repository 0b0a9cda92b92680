use Rattle.glb_place.proofs.AgreesFacts.{agrees_asked}
use Rattle.glb_place.proofs.requests.ask_victim.Goals as goal

pub returns-clause-agrees : goal.returns-clause-agrees
returns-clause-agrees g c =
    rw (c.in_ok-ask.ensures.kept, c.saturating_sub-held.ensures)
    (agrees_asked _ _ _ _ _ _ _ _ _ c.requires.agrees c.args.victim c.draw-held.result
    c.draw-held.new.words
    c.requires.may c.requires.there c.requires.not_minted c.draw-held.ensures.words
    c.draw-held.ensures.victim)
