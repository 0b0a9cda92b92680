use Rattle.std.proofs.Common.{refl}
use Rattle.glb_run.proofs.HandFacts.{may_ask}
use Rattle.glb_run.proofs.tests.hand.Hand.ask.Goals as goal

pub ask-requires : goal.ask-requires
ask-requires g c = record {
  may = may_ask _ _ _ _ _ _ _ _ _ c.self.invariant.0 _ refl c.in-Idle-Idle.is-0 c.in-Idle-Idle.is-1;
}
