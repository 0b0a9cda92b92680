use Rattle.std.proofs.Common.{◌+◌, arith, refl, ap, ◌∙◌, map, get_or, []}
use Rattle.glb_rules.specs.Setups.{has_items, bit}
use Rattle.glb_core.proofs.Start.Made.{sum_more}
use Rattle.glb_core.proofs.world.start.count_awake.Goals as goal

pub loop-place-preserved : goal.loop-place-preserved
loop-place-preserved g c = record {
  sum = let i = c.loop-place.invariant.sum in
      omega (
        arith,
        sum_more c.loop-place.place (c.loop-place.place + 1)
            (λ p. bit (has_items (get_or (map g.B.Bag.items c.args.bags.now) p []))) refl,
        c.one_if-awake.ensures.bit ∙ ap bit c.is_awake.ensures,
      );
  few = let i = c.loop-place.invariant.few in let s = c.one_if-awake.ensures.small in omega arith;
}
