use Rattle.std.proofs.Common.{subst, sym, ⊎_elim}
use Rattle.glb_rules.specs.Steps.{IsEnabled}
use Rattle.glb_core.specs.Tables.{view_of}
use Rattle.glb_core.specs.Standing.{SimulatesWholly}
use Rattle.glb_core.proofs.world.steps.step.Goals as goal

pub batch-requires-clause-enabled : goal.batch-requires-clause-enabled
batch-requires-clause-enabled g c = λ s w S.
    subst (λ e. IsEnabled s w e) c.in-Batch.is (c.is_enabled.ensures.all c.if-not-is_enabled.false s w S)

pub returns-in-Ok-clause-step : goal.returns-in-Ok-clause-step
returns-in-Ok-clause-step g c =
    subst (λ e. SimulatesWholly g.B.Bag.items (g.P.Program.children c.args.program.now)
    (g.P.Program.value c.args.program.now) g.P.Value.Monoid.combine g.P.Value.Monoid.unit
    (view_of c.args.tables.now) e c.in-Ok.count (view_of c.batch.new.tables))
    (sym c.in-Batch.is) c.in-Ok.ensures.worked

pub returns-in-Ok-clause-sound : goal.returns-in-Ok-clause-sound
returns-in-Ok-clause-sound g c = let k = c.requires.sound in
    let l = (c.in-Ok.ensures.worked k.0 k.1 k.2).0 in (k.0, l.next, l.stands)

pub returns-in-Err-clause-sound : goal.returns-in-Err-clause-sound
returns-in-Err-clause-sound g c =
    let k = c.requires.sound in
    ⊎_elim (λ a. let l = (a.1 k.0 k.1 k.2).0 in (k.0, l.next, l.stands)) (λ b. (k.0, k.1, b.1 k.0 k.1 k.2))
    c.in-Err.ensures.cut

pub returns-in-Ok-give-clause-step : goal.returns-in-Ok-give-clause-step
returns-in-Ok-give-clause-step g c =
    subst (λ e. SimulatesWholly g.B.Bag.items (g.P.Program.children c.args.program.now)
    (g.P.Program.value c.args.program.now) g.P.Value.Monoid.combine g.P.Value.Monoid.unit
    (view_of c.args.tables.now) e 0 (view_of c.give.new.tables))
    (sym c.in-Give.is) c.in-Ok-give.ensures.given

pub returns-in-Ok-give-clause-sound : goal.returns-in-Ok-give-clause-sound
returns-in-Ok-give-clause-sound g c = let k = c.requires.sound in
    let l = (c.in-Ok-give.ensures.given k.0 k.1 k.2).0 in (k.0, l.next, l.stands)

pub returns-in-Ok-take-clause-step : goal.returns-in-Ok-take-clause-step
returns-in-Ok-take-clause-step g c =
    subst (λ e. SimulatesWholly g.B.Bag.items (g.P.Program.children c.args.program.now)
    (g.P.Program.value c.args.program.now) g.P.Value.Monoid.combine g.P.Value.Monoid.unit
    (view_of c.args.tables.now) e 0 (view_of c.take.new.tables))
    (sym c.in-Take.is) c.in-Ok-take.ensures.taken

pub returns-in-Ok-take-clause-sound : goal.returns-in-Ok-take-clause-sound
returns-in-Ok-take-clause-sound g c = let k = c.requires.sound in
    let l = (c.in-Ok-take.ensures.taken k.0 k.1 k.2).0 in (k.0, l.next, l.stands)

pub returns-in_default : goal.returns-in_default
returns-in_default g c =
    let k = c.requires.sound in
    let l = (c.apply.ensures.done k.0 k.1 k.2).0 in
    record {
      step = c.apply.ensures.done;
      fault = tt;
      exact = λ no. absurd
          (no k.0 k.1 k.2 (c.is_enabled.ensures.all c.if-not-is_enabled.false k.0 k.1 k.2));
      sound = (k.0, l.next, l.stands);
      fits = c.apply.ensures.fits;
      graph = c.apply.ensures.graph;
      params = c.apply.ensures.params;
    }
