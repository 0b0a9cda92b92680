use Rattle.glb_stats.proofs.BalanceFacts.{FirstStart}
use Rattle.glb_stats.proofs.balances.starts_by_roots.Given as goal

abbrev pub invariant-loop-place : goal.invariant-loop-place
invariant-loop-place l = FirstStart l.place l.job.awake.items l.job.roots.items
