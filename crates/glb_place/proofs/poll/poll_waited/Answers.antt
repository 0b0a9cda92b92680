use Rattle.std.proofs.Common.{sym, subst}
use Rattle.glb_core.specs.Seen.{sight}
use Rattle.glb_place.specs.declared.record.Record.{Record}
use Rattle.glb_place.specs.Turns.{Learns}
use Rattle.glb_place.proofs.AgreesFacts.{agrees_waited}
use Rattle.glb_place.proofs.Finding.{learns_out}
use Rattle.glb_place.proofs.VictimFacts.{other_victim}
use Rattle.glb_place.proofs.poll.poll_waited.Goals as goal

pub look-found-requires : goal.look-found-requires
look-found-requires g c =
    record { own = c.requires.agrees.tells.own.near c.args.victim c.args.kind c.requires.waits }

pub returns-clause-agrees : goal.returns-clause-agrees
returns-clause-agrees g c =
    rw (c.look-found.ensures.kept, c.note_line.ensures)
    (agrees_waited _ _ _ _ _ _ _ _ _ c.requires.agrees c.args.victim c.args.kind c.look-found.result
    c.requires.waits (c.requires.agrees.tells.own.near c.args.victim c.args.kind c.requires.waits).1
    c.requires.not_minted)

pub returns-clause-learns : goal.returns-clause-learns
returns-clause-learns g c =
    let r = g.F.Fabric.kept c.args.held.now.fabric in
    let A = c.requires.agrees in
    let v = c.args.victim in
    let k = c.args.kind in
    let there = (A.tells.own.near v k c.requires.waits).1 in
    subst (λ (x : Record _). Learns r x) (sym c.look-found.ensures.kept)
    (learns_out r k v c.look-found.result
    (other_victim r (sight c.args.held.now.seen) c.args.held.now.first A.tells A.running k v there)
    c.look-found.ensures.found)
