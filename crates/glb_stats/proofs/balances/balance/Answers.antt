use Rattle.std.proofs.Common.{refl}
use Rattle.glb_stats.proofs.BalanceFacts.{starts_decided}
use Rattle.glb_stats.proofs.balances.balance.Goals as goal

pub returns-then-counters_balance : goal.returns-then-counters_balance
returns-then-counters_balance c = starts_decided _ _ _ _ _ _ (c.if-counters_balance.ensures.0 refl)
    c.starts_by_roots.ensures
