use Rattle.glb_core.specs.Standing.{AllFit}
use Rattle.glb_tests.proofs.tests.script.play.Given as goal

abbrev pub invariant-loop-event : goal.invariant-loop-event
invariant-loop-event g l = record { fits : AllFit g.B.Bag.fits l.world l.program }
