use Rattle.std.proofs.Common.{◌≡◌, ◌++◌, drop, string_bytes, sum_by}
use Rattle.glb_stats.specs.Counter.{every_counter, number_of}
use Rattle.glb_stats.specs.Text.{numbers_text}
use Rattle.glb_stats.proofs.text.write_sums.Given as goal

abbrev pub invariant-loop-counter : goal.invariant-loop-counter
invariant-loop-counter l =
    string_bytes l.out
    ++ numbers_text (λ k. sum_by (number_of k) l.all) (drop l.counter-index l.counter-items)
    ≡ string_bytes l.fn.out ++ numbers_text (λ k. sum_by (number_of k) l.all) every_counter
