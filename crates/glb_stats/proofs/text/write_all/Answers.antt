use Rattle.std.proofs.Common.{arith, length}
use Rattle.std.specs.Prelude.{codes, decimal}
use Rattle.glb_stats.specs.Text.{places_text, total_text}
use Rattle.glb_stats.proofs.TextFacts.{written_place, written_places, whole_text}
use Rattle.glb_stats.proofs.text.write_all.Goals as goal

pub loop-counters-preserved : goal.loop-counters-preserved
loop-counters-preserved c = record {
  number = omega (arith, c.loop-counters.invariant.number);
  told = written_place c.loop-counters.place c.args.all.now c.loop-counters.counters-index _ _ _ _
      (omega arith) c.in_ok-write_place.ensures c.loop-counters.invariant.told;
}

pub returns : goal.returns
returns c =
    let done =
    written_places c.loop-counters.place c.args.all.now c.loop-counters.counters-index _ _
    (omega arith) c.loop-counters.invariant.told
    in
    whole_text _ (codes "places ") (decimal (length c.args.all.now)) (places_text 0 c.args.all.now)
    _
    (total_text c.args.all.now) _ done c.in_ok-write_total.ensures
