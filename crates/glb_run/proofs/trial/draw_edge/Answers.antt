use Rattle.std.proofs.Common.{ℕ, ap, ◌∙◌}
use Rattle.rand_pcg.specs.Lcg.{Lcg}
use Rattle.glb_run.specs.Trials.{vertex_of}
use Rattle.glb_run.proofs.TrialFacts.{drawn_edge}
use Rattle.glb_run.proofs.trial.draw_edge.Goals as goal

pub returns-clause-edge : goal.returns-clause-edge
returns-clause-edge c = λ k number drawn.
    drawn_edge k number c.args.words.now c.next_word.new.self c.next_word-2.new.self
    c.vertex_of-from.result c.vertex_of-to.result
    (ap (λ (p : ℕ × Lcg). p.1) c.next_word.ensures)
    (ap (λ (p : ℕ × Lcg). p.1) c.next_word-2.ensures)
    (c.vertex_of-from.ensures.vertex ∙ ap (λ (p : ℕ × Lcg). vertex_of p.0) c.next_word.ensures)
    (c.vertex_of-to.ensures.vertex ∙ ap (λ (p : ℕ × Lcg). vertex_of p.0) c.next_word-2.ensures)
    drawn
