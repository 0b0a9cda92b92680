use Rattle.std.proofs.Common.{ℕ, List, ◌+◌, ◌*◌, ◌<◌}
use Rattle.glb_lanes.specs.inner.Lanes.{lane, IsBlock, IsScheduled, HasRun}
use Rattle.glb_lanes.proofs.eight.compress.Given as goal

abbrev pub invariant-words : goal.invariant-words
invariant-words l = (j : ℕ) → j < 8 → (b : List ℕ) → IsBlock b (lane j l.fn.start)
    → IsScheduled b (lane j l.words) (l.t + 16)

abbrev pub invariant-choose : goal.invariant-choose
invariant-choose l = (j : ℕ) → j < 8 → (b : List ℕ) → IsBlock b (lane j l.fn.start)
    → HasRun b (lane j l.v) (5 * l.group)

abbrev pub invariant-parity : goal.invariant-parity
invariant-parity l = (j : ℕ) → j < 8 → (b : List ℕ) → IsBlock b (lane j l.fn.start)
    → HasRun b (lane j l.v) (5 * l.group)

abbrev pub invariant-majority : goal.invariant-majority
invariant-majority l = (j : ℕ) → j < 8 → (b : List ℕ) → IsBlock b (lane j l.fn.start)
    → HasRun b (lane j l.v) (5 * l.group)

abbrev pub invariant-last : goal.invariant-last
invariant-last l = (j : ℕ) → j < 8 → (b : List ℕ) → IsBlock b (lane j l.fn.start)
    → HasRun b (lane j l.v) (5 * l.group)
