use Rattle.std.proofs.Common.{◌∙◌, ap}
use Rattle.glb_rules.specs.declared.edges.InEdge.{InEdge}
use Rattle.glb_rules.specs.declared.kinds.Side.TheVariants as side
use Rattle.glb_place.specs.Calls.{look_row}
use Rattle.glb_place.proofs.AgreesFacts.{agrees_marked, looked_marks}
use Rattle.glb_place.proofs.actions.look.Goals as goal

pub returns-clause-agrees : goal.returns-clause-agrees
returns-clause-agrees g c =
    let d = c.index-edge.result.now in
    let e = c.index-edge.ensures in
    let r = g.F.Fabric.kept c.args.held.now.fabric in
    let x = c.look-found.result in
    let k =
    c.look-found.ensures.kept
    ∙ ap (λ (y : InEdge). look_row y.thief y.kind side.Inward x r) e
    ∙ looked_marks r _ _ x (c.requires.may d)
    in
    rw (k, c.note_at.ensures d, c.mark_of.ensures)
    (agrees_marked _ _ _ _ _ _ _ _ _ c.requires.agrees d x c.requires.within (c.requires.may d)
    c.requires.not_minted)
