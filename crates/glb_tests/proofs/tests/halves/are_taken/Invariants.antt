use Rattle.std.proofs.Common.{◌≡◌}
use Rattle.glb_tests.proofs.tests.halves.are_taken.Given as goal

abbrev pub invariant-loop-wanted : goal.invariant-loop-wanted
invariant-loop-wanted g l = record { fits : l.bag.0 ≡ l.tree }
