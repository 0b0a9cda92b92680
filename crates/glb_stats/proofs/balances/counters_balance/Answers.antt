use Rattle.std.proofs.Common.{refl}
use Rattle.glb_stats.proofs.BalanceFacts.{places_decided}
use Rattle.glb_stats.proofs.balances.counters_balance.Goals as goal

pub returns-then-sums_balance : goal.returns-then-sums_balance
returns-then-sums_balance c = places_decided _ _ _ _ _ (c.if-sums_balance.ensures.0 refl)
    c.each_place_balances.ensures
