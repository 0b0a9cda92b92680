use Rattle.std.proofs.Common.{arith, length}
use Rattle.std.specs.Prelude.{codes, decimal}
use Rattle.glb_stats.specs.Text.{rooted_places_text, rooted_total_text}
use Rattle.glb_stats.proofs.TextFacts.{written_rooted_place, written_rooted_places, whole_text}
use Rattle.glb_stats.proofs.text.write_all_rooted.Goals as goal

pub loop-place-preserved : goal.loop-place-preserved
loop-place-preserved c =
    written_rooted_place c.loop-place.place c.args.all.now c.args.roots.now c.loop-place.place _ _ _ _ _
    c.loop-place-test.true (omega (arith, c.loop-place-test.true, c.requires.many))
    c.in_ok-write_rooted_place.ensures c.loop-place.invariant

pub returns : goal.returns
returns c =
    let done =
    written_rooted_places c.loop-place.place c.args.all.now c.args.roots.now c.loop-place.place _ _
    c.loop-place-test.false c.loop-place.invariant
    in
    whole_text _ (codes "places ") (decimal (length c.args.all.now))
    (rooted_places_text 0 c.args.all.now c.args.roots.now) _
    (rooted_total_text c.args.all.now c.args.roots.now) _ done c.in_ok-write_rooted_total.ensures
