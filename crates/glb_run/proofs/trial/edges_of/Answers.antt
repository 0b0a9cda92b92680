use Rattle.std.proofs.Common.{◌∙◌, ap}
use Rattle.rand_pcg.specs.Pcg.{multiplier_64}
use Rattle.rand_pcg.specs.Lcg.{started, increment_of}
use Rattle.glb_run.proofs.TrialFacts.{has_none, has_more}
use Rattle.glb_run.proofs.trial.edges_of.Goals as goal

pub loop-init : goal.loop-init
loop-init c = has_none c.args.k c.new-words.result c.in_ok-pairs.pairs.items
    (c.new-words.ensures ∙ ap (λ s. started 64 multiplier_64 s (increment_of 64 1000))
    c.from.ensures)
    c.in_ok-pairs.ensures.items

pub loop-preserved : goal.loop-preserved
loop-preserved c = has_more c.args.k c.loop.counter c.loop.words c.draw_edge.new.words
    c.loop.pairs.items c.push.new.self.items c.draw_edge.result c.loop.invariant
    c.draw_edge.ensures.edge c.draw_edge.ensures.ends.0 c.draw_edge.ensures.ends.1
    c.in_ok-push.ensures.items
