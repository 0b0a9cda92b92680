use Rattle.glb_place.proofs.AgreesFacts.{agrees_shrugged, agrees_arrived_at}
use Rattle.glb_place.proofs.requests.shrug.Goals as goal

pub returns-then-shrug-clause-agrees : goal.returns-then-shrug-clause-agrees
returns-then-shrug-clause-agrees g c =
    rw (c.shrug.ensures.kept c.if-shrug.true)
    (agrees_shrugged _ _ _ _ _ _ _ _ _ c.requires.agrees c.args.victim c.args.kind c.requires.may
    c.requires.there c.requires.not_minted)

pub returns-else-shrug-clause-agrees : goal.returns-else-shrug-clause-agrees
returns-else-shrug-clause-agrees g c =
    let x = c.shrug.ensures.loot c.if-shrug.false in
    rw (x.1, c.note_out.ensures)
    (agrees_arrived_at _ _ _ _ _ _ _ _ _ c.requires.agrees c.args.victim c.args.kind x.0
    c.requires.may
    c.requires.there c.requires.not_minted)
