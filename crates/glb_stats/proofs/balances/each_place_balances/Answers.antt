use Rattle.std.proofs.Common.{refl}
use Rattle.glb_stats.proofs.BalanceFacts.{first_more, first_all}
use Rattle.glb_stats.proofs.balances.each_place_balances.Goals as goal

pub loop-place-preserved : goal.loop-place-preserved
loop-place-preserved c =
    first_more c.loop-place.place _ _ _ _ _ _ c.index.ensures c.index-in-loop-place.ensures
    (c.if-not-place_balances.ensures.0 refl) c.loop-place.invariant

pub returns : goal.returns
returns c = (
  λ yes. first_all c.loop-place.place _ _ _ c.loop-place-test.false c.loop-place.invariant,
  λ each. refl,
)
