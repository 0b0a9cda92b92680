use Rattle.std.proofs.Common.{◌∙◌}
use Rattle.glb_stats.proofs.BalanceFacts.{sums_decided}
use Rattle.glb_stats.proofs.balances.sums_balance.Goals as goal

pub returns-then-sent_units-got_units : goal.returns-then-sent_units-got_units
returns-then-sent_units-got_units c =
    let same = c.if-sent_units-got_units.true in
    sums_decided c.args.all.now c.args.nodes c.total-items.result c.total-asks.result
    c.total-denied.result c.total-given.result c.total-got.result c.total-line_given.result
    c.total-line_got.result c.total-sent_units.result c.total-got_units.result
    c.total-items.ensures.sum c.total-asks.ensures.sum c.total-denied.ensures.sum
    c.total-given.ensures.sum c.total-got.ensures.sum c.total-line_given.ensures.sum
    c.total-line_got.ensures.sum c.total-sent_units.ensures.sum c.total-got_units.ensures.sum
    (same.0 ∙ c.from.ensures) same.1 same.2 same.3
