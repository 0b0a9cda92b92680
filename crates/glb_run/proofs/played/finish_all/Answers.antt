use Rattle.std.proofs.Common.{◌≡◌, ◌∷◌, [], ◌++◌, ◌∙◌, All, ap, append_assoc, arith, length, map}
use Rattle.std.proofs.Common.{sym, subst}
use Rattle.std.specs.Prelude.{fold}
use Rattle.std.proofs.lemmas.List.Elements.{All-map, All-push}
use Rattle.std.proofs.lemmas.List.Sums.{fold_push}
use Rattle.glb_place.specs.Close.{HasLeft, counters_in}
use Rattle.glb_turns.proofs.BagFacts.{ended_list}
use Rattle.glb_run.proofs.PlayedFacts.{mapped_more, mapped_twice, total_left, value_left}
use Rattle.glb_run.proofs.played.finish_all.Goals as goal

pub loop-place-preserved : goal.loop-place-preserved
loop-place-preserved g c =
    let i = c.loop-place.invariant in
    let one = c.finish_one-fabric in
    let more = c.in_ok-push-2.ensures.items in
    let step = λ (a : g.row.P-Value.Denot) (f : g.row.F.Denot). g.P.Value.Monoid.combine a
    (value_left g.F.Fabric.kept g.F.Fabric.program g.P.Program.value g.P.Value.Monoid.combine
    g.P.Value.Monoid.unit f)
    in
    record {
      whole = i.whole ∙ ap (λ l. c.loop-place.yielded ++ l) c.in-Some.ensures.steps.0
          ∙ sym (append_assoc c.loop-place.yielded (c.in-Some.place ∷ [])
          c.next.new.self.rest.items);
      fabrics = mapped_more (λ p. p.fabric) c.loop-place.yielded c.in-Some.place
          c.loop-place.fabrics.items c.push-in-loop-place.new.self.items one.result.0 i.fabrics
          one.ensures.fabric more;
      counters = mapped_more (λ f. counters_in (g.F.Fabric.kept f)) c.loop-place.fabrics.items
          one.result.0 c.loop-place.counters.items c.push.new.self.items one.result.2 i.counters
          one.ensures.counters c.in_ok-push.ensures.items
          ∙ ap (map (λ f. counters_in (g.F.Fabric.kept f))) (sym more);
      left = subst (All (λ f. HasLeft (g.F.Fabric.kept f))) (sym more)
          (All-push (λ f. HasLeft (g.F.Fabric.kept f)) c.loop-place.fabrics.items one.result.0
          i.left one.ensures.left);
      value = c.combine-value.ensures ∙ ap (λ v. g.P.Value.Monoid.combine v one.result.1) i.value
          ∙ ap
          (g.P.Value.Monoid.combine (fold step g.P.Value.Monoid.unit c.loop-place.fabrics.items))
          one.ensures.value
          ∙ sym (fold_push step g.P.Value.Monoid.unit c.loop-place.fabrics.items one.result.0)
          ∙ ap (fold step g.P.Value.Monoid.unit) (sym more);
    }

pub returns-clause-fabrics : goal.returns-clause-fabrics
returns-clause-fabrics g c =
    let none : length c.loop-place.place-iterator.rest.items ≡ 0 =
    omega (arith, c.loop-place.place-iterator.rest.ok.0, c.in-None.ensures.steps.0)
    in
    c.loop-place.invariant.fabrics
    ∙ ap (map (λ p. p.fabric)) (sym (ended_list c.args.places.items c.loop-place.yielded _
    c.loop-place.invariant.whole none))

pub returns-clause-left : goal.returns-clause-left
returns-clause-left g c = λ program h. record {
  left = All-map HasLeft g.F.Fabric.kept c.loop-place.fabrics.items c.loop-place.invariant.left;
  total_is = c.loop-place.invariant.value
      ∙ total_left g.F.Fabric.kept g.F.Fabric.program g.P.Program.value g.P.Value.Monoid.combine
      g.P.Value.Monoid.unit program c.loop-place.fabrics.items h
      (λ rs own all. c.values_of_places_combine.ensures program rs own all);
  counters_are = c.loop-place.invariant.counters
      ∙ sym (mapped_twice g.F.Fabric.kept counters_in c.loop-place.fabrics.items);
}
