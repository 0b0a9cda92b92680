use Rattle.glb_stats.proofs.BalanceFacts.{FirstBalance}
use Rattle.glb_stats.proofs.balances.each_place_balances.Given as goal

abbrev pub invariant-loop-place : goal.invariant-loop-place
invariant-loop-place l = FirstBalance l.place l.all l.job.degree.items l.job.awake.items
