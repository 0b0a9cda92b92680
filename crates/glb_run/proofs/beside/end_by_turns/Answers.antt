use Rattle.std.proofs.Common.{◌∙◌}
use Rattle.glb_run.proofs.BesideFacts.{hold_then}
use Rattle.glb_run.proofs.beside.end_by_turns.Goals as goal

pub returns-then-take_turns-clause-same : goal.returns-then-take_turns-clause-same
returns-then-take_turns-clause-same g c = hold_then g.F.Fabric.program g.F.Fabric.home
    g.F.Fabric.refuses (λ p. p.fabric) c.args.places.now c.loop.places c.take_turns.new.places
    c.loop.invariant.many c.loop.invariant.same c.take_turns.ensures.same

pub loop-preserved : goal.loop-preserved
loop-preserved g c = record {
  many = c.take_turns.auto.places ∙ c.loop.invariant.many;
  same = hold_then g.F.Fabric.program g.F.Fabric.home g.F.Fabric.refuses (λ p. p.fabric)
      c.args.places.now c.loop.places c.take_turns.new.places c.loop.invariant.many
      c.loop.invariant.same c.take_turns.ensures.same;
}
