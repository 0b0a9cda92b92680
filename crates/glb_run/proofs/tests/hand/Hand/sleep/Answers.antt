use Rattle.std.proofs.Common.{refl}
use Rattle.glb_run.proofs.HandFacts.{may_sleep}
use Rattle.glb_run.proofs.tests.hand.Hand.sleep.Goals as goal

pub sleep-last-requires : goal.sleep-last-requires
sleep-last-requires g c = record {
  may = may_sleep _ _ _ _ _ _ _ _ _ c.self.invariant.0 _ refl c.in-Idle-Refused.is-0 c.in-Idle-Refused.is-1;
}
