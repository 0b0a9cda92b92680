use Rattle.std.proofs.Common.{◌∙◌, subst}
use Rattle.glb_place.specs.declared.record.Record.{Record}
use Rattle.glb_place.specs.Turns.{TurnLooks}
use Rattle.glb_place.proofs.LookFacts.{turn_looks}
use Rattle.glb_place.proofs.play.take_turn.Goals as goal

pub returns-clause-looks : goal.returns-clause-looks
returns-clause-looks g c =
    let r = g.F.Fabric.kept c.args.held.now.fabric in
    let k = c.is_over.ensures.going c.if-is_over.false
    ∙ rw c.if-code-ne0.false at c.halted-code.ensures.kept in
    let old = g.F.Fabric.looks c.args.held.now.fabric in
    let mid = g.F.Fabric.looks c.is_over.new.fabric in
    let new = g.F.Fabric.looks c.go.new.held.fabric in
    turn_looks c.go.result r old mid new
    (λ n. c.is_over.ensures.edges n ∙ c.halted-code.ensures.looks.edge n)
    (subst (λ (x : Record _). TurnLooks c.go.result x mid new) k c.go.ensures.looks)
