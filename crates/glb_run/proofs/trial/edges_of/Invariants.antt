use Rattle.glb_run.proofs.TrialFacts.{HasEdges}
use Rattle.glb_run.proofs.trial.edges_of.Given as goal

abbrev pub invariant-loop : goal.invariant-loop
invariant-loop l = HasEdges l.fn.k l.counter l.words l.pairs.items
