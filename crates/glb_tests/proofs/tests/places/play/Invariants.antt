use Rattle.std.proofs.Common.{◌≡◌, ◌+◌, vec_len}
use Rattle.glb_tests.proofs.tests.places.play.Given as goal

abbrev pub invariant-loop : goal.invariant-loop
invariant-loop l = vec_len l.roots + 1 ≡ l.counter
