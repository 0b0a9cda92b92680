use Rattle.std.proofs.Common.{◌≡◌, vec_len}
use Rattle.glb_tests.proofs.tests.threads.roots_at_first.Given as goal

abbrev pub invariant-loop-place : goal.invariant-loop-place
invariant-loop-place l = vec_len l.roots ≡ l.place
