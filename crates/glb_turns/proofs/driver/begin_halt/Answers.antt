use Rattle.std.proofs.Common.{ap, arith}
use Rattle.glb_cube.specs.Lines.{Cube}
use Rattle.glb_rules.specs.World.{Setup}
use Rattle.glb_turns.proofs.StepFacts.{leads_few, halted_played}
use Rattle.glb_turns.proofs.HaltFacts.{halt_over}
use Rattle.glb_turns.proofs.driver.begin_halt.Goals as goal

pub returns-in-Ok-clause-in_play : goal.returns-in-Ok-clause-in_play
returns-in-Ok-clause-in_play g c =
    let p = c.requires.in_play.played in
    record {
      many = omega (arith, c.step.auto.watches, c.requires.in_play.many, ap (λ (x : Cube). x.places) c.in-Ok.ensures.same.cube);
      watched = c.in-Ok.ensures.watches;
      played = halted_played _ _ _ _ _ p.0 p.1 _ _ p.2 p.3 c.args.place c.args.code _
          (c.in-Ok.ensures.step p.0 p.1 p.2).0;
      fit = c.in-Ok.ensures.fits;
    }

pub returns-in-Ok-clause-over : goal.returns-in-Ok-clause-over
returns-in-Ok-clause-over g c =
    let p = c.requires.in_play.played in
    halt_over _ c.args.code c.requires.code _ _ _ _ _ _ c.args.place _ p.0 p.1
    (c.in-Ok.ensures.step p.0 p.1 p.2).0

pub returns-in-Ok-clause-most : goal.returns-in-Ok-clause-most
returns-in-Ok-clause-most g c =
    let p = c.requires.in_play.played in
    let few = leads_few _ _ _ _ _ p.0 p.1 _ _ p.2 _ _ (c.in-Ok.ensures.step p.0 p.1 p.2).0 in
    let batch = ap (λ (t : Setup). t.batch) p.2.shows.setup in
    let most = p.2.shows.limits.batch.1 in
    omega (arith, few, batch, most)
