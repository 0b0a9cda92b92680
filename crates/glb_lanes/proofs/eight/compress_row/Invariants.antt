use Rattle.std.proofs.Common.{ℕ, List, ◌+◌, ◌*◌, ◌<◌}
use Rattle.glb_lanes.specs.inner.Lanes.{lane, HasRun}
use Rattle.glb_lanes.specs.inner.Rows.{IsShared}
use Rattle.glb_lanes.proofs.eight.compress_row.Given as goal

abbrev pub invariant-choose : goal.invariant-choose
invariant-choose l = (j : ℕ) → j < 8 → (b : List ℕ) → IsShared b j l.fn.start 16
    → IsShared b j l.words (5 * l.group + 16) × HasRun b (lane j l.v) (5 * l.group)

abbrev pub invariant-parity : goal.invariant-parity
invariant-parity l = (j : ℕ) → j < 8 → (b : List ℕ) → IsShared b j l.fn.start 16
    → IsShared b j l.words (5 * l.group + 16) × HasRun b (lane j l.v) (5 * l.group)

abbrev pub invariant-majority : goal.invariant-majority
invariant-majority l = (j : ℕ) → j < 8 → (b : List ℕ) → IsShared b j l.fn.start 16
    → IsShared b j l.words (5 * l.group + 16) × HasRun b (lane j l.v) (5 * l.group)

abbrev pub invariant-last : goal.invariant-last
invariant-last l = (j : ℕ) → j < 8 → (b : List ℕ) → IsShared b j l.fn.start 16
    → HasRun b (lane j l.v) (5 * l.group)
