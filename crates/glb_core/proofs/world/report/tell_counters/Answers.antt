use Rattle.std.proofs.Common.{◌+◌, arith, refl, ap, ◌∙◌}
use Rattle.glb_core.proofs.Tables.EdgeRows.{get_or-any}
use Rattle.glb_core.proofs.Start.Filled.{map_pointwise, pointwise_more}
use Rattle.glb_core.proofs.world.report.tell_counters.Goals as goal

pub loop-place-preserved : goal.loop-place-preserved
loop-place-preserved g c = record {
  told = pointwise_more (λ y. y.counters) c.args.place_rows.now c.loop-place.counters _ c.loop-place.place
      (c.loop-place.place + 1) _ refl
      (let a = c.loop-place.auto.counters in let l = c.loop-place-test.true in let r = c.requires
      in omega arith) refl
      (λ e. ap (λ y. y.counters)
      (get_or-any c.args.place_rows.now c.loop-place.place c.index-place_rows-place.result e
      c.loop-place-test.true)) c.loop-place.invariant.told;
}

pub returns : goal.returns
returns g c = map_pointwise (λ y. y.counters) c.args.place_rows.now c.loop-place.counters
    (c.loop-place.auto.counters ∙ c.requires)
    (λ i d e l. c.loop-place.invariant.told i d e (let m = c.loop-place-test.false in omega arith))
