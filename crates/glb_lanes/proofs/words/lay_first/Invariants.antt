use Rattle.std.proofs.Common.{◌≡◌, ◌<◌, ℕ, List, length}
use Rattle.glb_lanes.specs.inner.Lanes.{lane, IsBlock, IsScheduled}
use Rattle.glb_lanes.proofs.words.lay_first.Given as goal

abbrev pub invariant-first : goal.invariant-first
invariant-first g l = record {
  long : length l.words ≡ 80;
  laid : (j : ℕ) → j < g.row.N → (b : List ℕ) → IsBlock b (lane j l.start)
      → IsScheduled b (lane j l.words) l.t;
}
