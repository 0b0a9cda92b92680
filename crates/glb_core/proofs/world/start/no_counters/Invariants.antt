use Rattle.std.proofs.Common.{◌≡◌, vec_len}
use Rattle.glb_core.proofs.world.start.no_counters.Given as goal

abbrev pub invariant-loop-place : goal.invariant-loop-place
invariant-loop-place l = record { made : vec_len l.counters ≡ l._place }
