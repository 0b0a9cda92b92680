use Rattle.std.proofs.Common.{arith, sum_by}
use Rattle.glb_stats.specs.Counter.{number_of}
use Rattle.glb_stats.proofs.TextFacts.{written_pair, written_all}
use Rattle.glb_stats.proofs.text.write_sums.Goals as goal

pub loop-counter-preserved : goal.loop-counter-preserved
loop-counter-preserved c =
    written_pair (λ k. sum_by (number_of k) c.args.all.now) c.all-counter-items.result
    c.loop-counter.counter-index _ _ _ _ _ _ (omega arith) c.name.ensures c.total.ensures.sum
    c.in_ok-write_pair.ensures c.loop-counter.invariant

pub returns : goal.returns
returns c =
    written_all (λ k. sum_by (number_of k) c.args.all.now) c.all-counter-items.result
    c.loop-counter.counter-index _ _ (omega arith) c.loop-counter.invariant
