use Rattle.std.proofs.Common.{◌≡◌, ◌++◌, map, All}
use Rattle.std.specs.Prelude.{fold}
use Rattle.glb_place.specs.Close.{HasLeft, counters_in}
use Rattle.glb_run.proofs.PlayedFacts.{value_left}
use Rattle.glb_run.proofs.played.finish_all.Given as goal

abbrev pub invariant-loop-place : goal.invariant-loop-place
invariant-loop-place g l = record {
  whole : l.fn.places.items ≡ l.yielded ++ l.place-iterator.rest.items;
  fabrics : l.fabrics.items ≡ map (λ p. p.fabric) l.yielded;
  counters : l.counters.items ≡ map (λ f. counters_in (g.F.Fabric.kept f)) l.fabrics.items;
  left : All (λ f. HasLeft (g.F.Fabric.kept f)) l.fabrics.items;
  value : l.value ≡ fold
      (λ a f. g.P.Value.Monoid.combine a
      (value_left g.F.Fabric.kept g.F.Fabric.program g.P.Program.value g.P.Value.Monoid.combine
      g.P.Value.Monoid.unit f))
      g.P.Value.Monoid.unit l.fabrics.items;
}
