use Rattle.std.proofs.Common.{◌≡◌, ◌<◌, ◌∙◌, true, set, get_or, ap, sym, subst}
use Rattle.glb_rules.specs.World.{has_edge}
use Rattle.glb_rules.specs.Events.{name_of}
use Rattle.glb_core.specs.Seen.{sight}
use Rattle.glb_rules.specs.declared.kinds.Side.TheVariants as side
use Rattle.glb_rules.specs.declared.edges.InEdge.{InEdge}
use Rattle.glb_rules.specs.declared.local.EdgeName.{EdgeName}
use Rattle.glb_place.specs.declared.record.Record.{Record}
use Rattle.glb_place.specs.Records.{setup_in}
use Rattle.glb_place.specs.Turns.{Learns}
use Rattle.glb_place.specs.Rows.{known_row}
use Rattle.glb_place.specs.Calls.{MayFind}
use Rattle.glb_place.proofs.AgreesFacts.{agrees_polled, looked_learns}
use Rattle.glb_place.proofs.Finding.{learns_in}
use Rattle.glb_place.proofs.LookFacts.{look_else}
use Rattle.glb_place.proofs.VictimFacts.{in_there, other_thief}
use Rattle.glb_place.proofs.KnownFacts.{member}
use Rattle.glb_place.proofs.poll.poll_in.Goals as goal

pub look-found-requires : goal.look-found-requires
look-found-requires g c =
    let r = g.F.Fabric.kept c.args.held.now.fabric in
    let d = c.index-edge.result.now in
    let ins = c.args.held.now.seen.ins.items in
    let h =
    in_there r (sight c.args.held.now.seen)
    c.args.held.now.first c.requires.agrees.tells c.requires.agrees.running
    (get_or ins c.args.at d) (member ins c.args.at d c.requires.within)
    in
    record {
      own = subst (λ (y : InEdge). (y.thief < r.lines.places)
          × (has_edge (setup_in r) y.kind y.thief r.place ≡ true))
          (sym c.index-edge.ensures) h;
    }

pub returns-clause-agrees : goal.returns-clause-agrees
returns-clause-agrees g c =
    let r = g.F.Fabric.kept c.args.held.now.fabric in
    let d = c.index-edge.result.now in
    let e = c.index-edge.ensures in
    let x = c.look-found.result in
    let ins = c.args.held.now.seen.ins.items in
    let at = c.args.at in
    let k =
    c.look-found.ensures.kept ∙ looked_learns r d.thief d.kind x c.requires.rests
    ∙ ap (λ (y : InEdge). known_row (name_of y.kind y.thief r.place) x r) e
    in
    let n =
    c.note_at.ensures d
    ∙ ap (λ (y : InEdge). set ins at (record (get_or ins at d) { mark = y.mark; edge = x })) e
    in
    let can =
    subst (λ (y : InEdge). MayFind r y.thief y.kind side.Inward x) e
    c.look-found.ensures.found
    in
    rw (k, n)
    (agrees_polled _ _ _ _ _ _ _ _ _ c.requires.agrees at d x c.requires.within
    c.requires.not_minted can)

pub returns-clause-learns : goal.returns-clause-learns
returns-clause-learns g c =
    let r = g.F.Fabric.kept c.args.held.now.fabric in
    let z = sight c.args.held.now.seen in
    let A = c.requires.agrees in
    let d = c.index-edge.result.now in
    let ins = c.args.held.now.seen.ins.items in
    let there : has_edge (setup_in r) d.kind d.thief r.place ≡ true =
    subst (λ (y : InEdge). has_edge (setup_in r) y.kind y.thief r.place ≡ true)
    (sym c.index-edge.ensures)
    (in_there r z c.args.held.now.first A.tells A.running (get_or ins c.args.at d)
    (member ins c.args.at d c.requires.within)).1
    in
    let k = c.look-found.ensures.kept
    ∙ looked_learns r d.thief d.kind c.look-found.result c.requires.rests in
    subst (λ (x : Record _). Learns r x) (sym k)
    (learns_in r d.kind d.thief c.look-found.result
    (other_thief r z c.args.held.now.first A.tells A.running d.kind d.thief there)
    c.look-found.ensures.found)

pub returns-clause-outs : goal.returns-clause-outs
returns-clause-outs g c = λ n own.
    let r = g.F.Fabric.kept c.args.held.now.fabric in
    let z = sight c.args.held.now.seen in
    let A = c.requires.agrees in
    let d = c.index-edge.result.now in
    let ins = c.args.held.now.seen.ins.items in
    let there : has_edge (setup_in r) d.kind d.thief r.place ≡ true =
    subst (λ (y : InEdge). has_edge (setup_in r) y.kind y.thief r.place ≡ true)
    (sym c.index-edge.ensures)
    (in_there r z c.args.held.now.first A.tells A.running (get_or ins c.args.at d)
    (member ins c.args.at d c.requires.within)).1
    in
    let other = other_thief r z c.args.held.now.first A.tells A.running d.kind d.thief there in
    look_else (name_of d.kind d.thief r.place) n (g.F.Fabric.looks c.args.held.now.fabric)
    (g.F.Fabric.looks c.look-found.new.self) c.look-found.ensures.looks
    (λ (e : n ≡ name_of d.kind d.thief r.place).
    other (sym (ap (λ (m : EdgeName). m.thief) e) ∙ own))
