use Rattle.std.proofs.Common.{◌≡◌, ◌<◌, ◌≤◌, ℕ, get_or}
use Rattle.glb_turns.specs.inner.Watches.{forgotten}
use Rattle.glb_turns.proofs.watch.forget_all.Given as goal

abbrev pub invariant-loop-place : goal.invariant-loop-place
invariant-loop-place l = record {
  stale : (p : ℕ) (d e : _) → p < l.place → get_or l.watches p d
      ≡ forgotten (get_or l.fn.watches p e);
  left : (p : ℕ) (d : _) → l.place ≤ p → get_or l.watches p d ≡ get_or l.fn.watches p d;
}
