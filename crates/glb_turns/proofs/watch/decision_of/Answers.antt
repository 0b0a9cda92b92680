use Rattle.std.proofs.Common.{◌≡◌, ◌∙◌, sym, subst, ap}
use Rattle.glb_core.specs.Seen.{sight}
use Rattle.glb_rules.specs.Sight.{state_at}
use Rattle.glb_rules.specs.Decision.{decide}
use Rattle.glb_rules.specs.declared.kinds.Phase.TheVariants as phase
use Rattle.glb_rules.specs.declared.edges.InEdge.{InEdge}
use Rattle.glb_rules.specs.declared.event.Event.TheVariants.{Look}
use Rattle.glb_rules.specs.declared.event.Action.TheVariants.{Do}
use Rattle.glb_turns.specs.inner.Watches.{Knows}
use Rattle.glb_turns.specs.declared.watch.Knowledge.TheVariants as knowledge
use Rattle.glb_turns.proofs.LookFacts.{looks_decide}
use Rattle.glb_turns.proofs.watch.decision_of.Goals as goal

pub returns-in-Looks-clause-decides : goal.returns-in-Looks-clause-decides
returns-in-Looks-clause-decides g c = λ s w stands.
    let seed = c.args.world.now.params.seed in
    let p = c.args.place in
    let z = sight c.args.watch.now.seen in
    let at = c.in-Looks.at in
    let edge = c.index-edge.result.now in
    let knew : Knows seed s w p z (knowledge.Looks at) =
    subst (Knows seed s w p z) c.in-Looks.is (c.requires.watch.known s w stands)
    in (
      λ gone. let e : phase.Working ≡ phase.Gone = sym knew.1.works ∙ gone in cc,
      ap (decide (state_at seed s w p)) (sym knew.0)
          ∙ looks_decide (state_at seed s w p) z at edge knew.1
          ∙ ap (λ (x : InEdge). Do (Look p x.thief x.kind)) (sym c.index-edge.ensures),
    )
