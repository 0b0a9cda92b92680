use Rattle.std.proofs.Common.{ap, ◌∙◌, sym, map}
use Rattle.glb_core.proofs.Sights.Told.{counters_told}
use Rattle.glb_core.proofs.world.World.into_report.Goals as goal

pub returns-clause-counters : goal.returns-clause-counters
returns-clause-counters g c = c.report.ensures.counters
    ∙ ap (λ x. map (λ y. y.counters) x.place_rows) c.self.view_is

pub returns-clause-world : goal.returns-clause-world
returns-clause-world g c = λ s w S. returns-clause-counters g c
    ∙ counters_told g.B.Bag.items s c.args.self w S

pub report-requires : goal.report-requires
report-requires g c = c.self.invariant.1 ∙ sym c.self.invariant.0.2.shows.place_rows
