use Rattle.std.proofs.Common.{[], ◌+◌, refl, ap, arith, length}
use Rattle.glb_core.proofs.Start.Made.{place_rows_more}
use Rattle.glb_core.proofs.world.start.first_place_rows.Goals as goal

pub loop-place-init : goal.loop-place-init
loop-place-init g c =
    record {
      made = record
          { number_is = ap length c.new-place_rows.ensures.items; place_row = λ p d l. absurd (omega arith) };
    }

pub loop-place-preserved : goal.loop-place-preserved
loop-place-preserved g c = record {
  made = place_rows_more g.B.Bag.items c.args.params.now (λ _. []) c.loop-place.place (c.loop-place.place + 1)
      c.loop-place.place_rows.items _ c.in_ok-first_place_row.field-0 c.loop-place.invariant.made refl
      c.in_ok-first_place_row.ensures c.in_ok-push.ensures.items;
}
