use Rattle.std.proofs.Common.{◌≡◌, ◌<◌, ◌∙◌, true, get_or, ap, sym, subst}
use Rattle.glb_rules.specs.World.{has_line}
use Rattle.glb_core.specs.Seen.{sight}
use Rattle.glb_rules.specs.declared.edges.OutEdge.{OutEdge}
use Rattle.glb_place.specs.Records.{setup_in}
use Rattle.glb_rules.specs.Events.{name_of}
use Rattle.glb_rules.specs.declared.kinds.Kind.TheVariants as kind
use Rattle.glb_rules.specs.declared.local.EdgeName.{EdgeName}
use Rattle.glb_place.specs.declared.record.Record.{Record}
use Rattle.glb_place.specs.Looks.{LooksAt}
use Rattle.glb_place.specs.Turns.{Learns}
use Rattle.glb_place.proofs.AgreesFacts.{agrees_watched}
use Rattle.glb_place.proofs.Finding.{learns_out}
use Rattle.glb_place.proofs.LookFacts.{look_else, out_name_at}
use Rattle.glb_place.proofs.VictimFacts.{out_there, other_victim}
use Rattle.glb_place.proofs.KnownFacts.{member}
use Rattle.glb_place.proofs.poll.poll_out.Goals as goal

pub look-found-requires : goal.look-found-requires
look-found-requires g c =
    let r = g.F.Fabric.kept c.args.held.now.fabric in
    let d = c.index.result.now in
    let outs = c.args.held.now.seen.outs.items in
    let h =
    out_there r (sight c.args.held.now.seen)
    c.args.held.now.first c.requires.agrees.tells c.requires.agrees.running
    (get_or outs c.args.at d) (member outs c.args.at d c.requires.within)
    in
    record {
      own = subst (λ (y : OutEdge). (y.victim < r.lines.places)
          × (has_line (setup_in r) r.place y.victim ≡ true))
          (sym c.index.ensures) h;
    }

pub returns-clause-agrees : goal.returns-clause-agrees
returns-clause-agrees g c =
    let r = g.F.Fabric.kept c.args.held.now.fabric in
    let d = c.index.result.now in
    let outs = c.args.held.now.seen.outs.items in
    let there =
    out_there r (sight c.args.held.now.seen)
    c.args.held.now.first c.requires.agrees.tells c.requires.agrees.running
    (get_or outs c.args.at d) (member outs c.args.at d c.requires.within)
    in
    let h =
    subst (λ (y : OutEdge). (y.victim < r.lines.places)
    × (has_line (setup_in r) r.place y.victim ≡ true))
    (sym c.index.ensures) there
    in
    rw (c.look-found.ensures.kept, c.note_line.ensures)
    (agrees_watched _ _ _ _ _ _ _ _ _ c.requires.agrees d.victim c.look-found.result
    c.requires.sleeps h.0 h.1
    c.requires.not_minted c.look-found.ensures.found)

pub returns-clause-learns : goal.returns-clause-learns
returns-clause-learns g c =
    let r = g.F.Fabric.kept c.args.held.now.fabric in
    let z = sight c.args.held.now.seen in
    let A = c.requires.agrees in
    let d = c.index.result.now in
    let outs = c.args.held.now.seen.outs.items in
    let there : has_line (setup_in r) r.place d.victim ≡ true =
    subst (λ (y : OutEdge). has_line (setup_in r) r.place y.victim ≡ true) (sym c.index.ensures)
    (out_there r z c.args.held.now.first A.tells A.running (get_or outs c.args.at d)
    (member outs c.args.at d c.requires.within)).1
    in
    subst (λ (x : Record _). Learns r x) (sym c.look-found.ensures.kept)
    (learns_out r kind.Line d.victim c.look-found.result
    (other_victim r z c.args.held.now.first A.tells A.running kind.Line d.victim there)
    c.look-found.ensures.found)

pub returns-clause-looks : goal.returns-clause-looks
returns-clause-looks g c = λ e.
    let r = g.F.Fabric.kept c.args.held.now.fabric in
    let d = c.index.result.now in
    let outs = c.args.held.now.seen.outs.items in
    subst (λ n. LooksAt n (g.F.Fabric.looks c.args.held.now.fabric)
    (g.F.Fabric.looks c.look-found.new.self))
    (ap (λ (y : OutEdge). name_of kind.Line r.place y.victim) c.index.ensures
    ∙ out_name_at r.lines r.place outs c.args.at d e c.requires.agrees.tells.made.outs
    c.requires.within)
    c.look-found.ensures.looks

pub returns-clause-ins : goal.returns-clause-ins
returns-clause-ins g c = λ n other.
    let r = g.F.Fabric.kept c.args.held.now.fabric in
    let d = c.index.result.now in
    look_else (name_of kind.Line r.place d.victim) n (g.F.Fabric.looks c.args.held.now.fabric)
    (g.F.Fabric.looks c.look-found.new.self) c.look-found.ensures.looks
    (λ (e : n ≡ name_of kind.Line r.place d.victim). other (ap (λ (m : EdgeName). m.thief) e))
