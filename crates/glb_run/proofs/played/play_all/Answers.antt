use Rattle.std.proofs.Common.{◌≡◌, ◌++◌, ◌∙◌, All, ap, arith, drop, length, map, sym, subst, take}
use Rattle.std.proofs.lemmas.List.{take_at}
use Rattle.std.proofs.lemmas.Result.{IfOk-weaker}
use Rattle.std.specs.Prelude.{None}
use Rattle.glb_run.proofs.PlayedFacts.{ok_both, same_held, same_programs, unmapped}
use Rattle.glb_run.specs.inner.Plays.{AreLeft, AreSameObjects}
use Rattle.glb_run.proofs.played.play_all.Goals as goal

pub work_all-requires-clause-programs : goal.work_all-requires-clause-programs
work_all-requires-clause-programs g c κs within =
    subst (All (λ p. c.args.program.now ≡ g.F.Fabric.program p.fabric))
    (sym c.deref_mut.ensures.value)
    (unmapped (λ f. c.args.program.now ≡ g.F.Fabric.program f) (λ p. p.fabric)
    c.in_ok-places.places.items
    (subst (All (λ f. c.args.program.now ≡ g.F.Fabric.program f)) (sym c.in_ok-places.ensures)
    c.requires.programs))

pub finish_all-requires : goal.finish_all-requires
finish_all-requires g c =
    let same : length c.work_all.new.places ≡ c.in_ok-places.places.len =
    omega (arith, c.work_all.auto.places, c.deref_mut.ensures.len)
    in
    record {
      ended = subst (All (λ p. p.ended ≡ None → ⊥))
          (sym (take_at c.work_all.new.places _ c.in_ok-places.places.len same))
          c.work_all.ensures.ended;
    }

pub returns-clause-same : goal.returns-clause-same
returns-clause-same g c =
    let new = c.work_all.new.places in
    let old = c.in_ok-places.places.items in
    let same : length new ≡ c.in_ok-places.places.len =
    omega (arith, c.work_all.auto.places, c.deref_mut.ensures.len)
    in
    let written : take c.in_ok-places.places.len (new ++ drop (length new) old) ≡ new =
    take_at new (drop (length new) old) c.in_ok-places.places.len same
    in
    IfOk-weaker c.finish_all.result
    (λ played. played.fabrics.items
    ≡ map (λ p. p.fabric) (take c.in_ok-places.places.len (new ++ drop (length new) old)))
    (λ played. AreSameObjects g.F.Fabric.program g.F.Fabric.home g.F.Fabric.refuses
    c.args.fabrics.items played.fabrics.items)
    (λ played e. same_held g.F.Fabric.program g.F.Fabric.home g.F.Fabric.refuses (λ p. p.fabric) old
    new c.args.fabrics.items played.fabrics.items (sym c.in_ok-places.ensures)
    (e ∙ ap (map (λ p. p.fabric)) written)
    (omega (arith, same, c.in_ok-places.places.ok.0))
    (rw c.deref_mut.ensures.value at c.work_all.ensures.same))
    c.finish_all.ensures.fabrics

pub returns-clause-left : goal.returns-clause-left
returns-clause-left g c = ok_both c.finish_all.result
    (λ played. AreSameObjects g.F.Fabric.program g.F.Fabric.home g.F.Fabric.refuses
    c.args.fabrics.items played.fabrics.items)
    (λ played. (program : g.row.P.Denot)
    → All (λ f. g.F.Fabric.program f ≡ program) played.fabrics.items
    → AreLeft (g.P.Program.value program) g.P.Value.Monoid.combine g.P.Value.Monoid.unit
    (map g.F.Fabric.kept played.fabrics.items) played.value played.counters.items)
    (λ played. AreLeft (g.P.Program.value c.args.program.now) g.P.Value.Monoid.combine
    g.P.Value.Monoid.unit (map g.F.Fabric.kept played.fabrics.items) played.value
    played.counters.items)
    (returns-clause-same g c)
    c.finish_all.ensures.left
    (λ played same left. left c.args.program.now
    (same_programs g.F.Fabric.program g.F.Fabric.home g.F.Fabric.refuses c.args.fabrics.items
    played.fabrics.items c.args.program.now same c.requires.programs))
