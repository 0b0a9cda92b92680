use Rattle.std.proofs.Common.{◌∙◌, ap, map, refl, subst, sym}
use Rattle.glb_cells.specs.Berths.{AreBerthsOf}
use Rattle.glb_run.specs.inner.Plays.{AreLeft}
use Rattle.glb_run.proofs.CellFacts.{berths_again, stands_first}
use Rattle.glb_run.proofs.PlayedFacts.{mapped_twice}
use Rattle.glb_run.proofs.over_cells.play_over.Goals as goal

pub play_all-requires-clause-first : goal.play_all-requires-clause-first
play_all-requires-clause-first g c κs within =
    stands_first c.args.cells.now c.args.program.now c.args.params.now c.args.lines.now
    (map g.B.Bag.items c.args.bags.items) c.args.berths.items c.requires.first (λ s. s.cells.now)
    (λ s. s.berth) c.in_ok-stands.stands.items c.in_ok-stands.ensures.cells
    c.in_ok-stands.ensures.berths

pub returns-clause-berths : goal.returns-clause-berths
returns-clause-berths g c =
    subst (AreBerthsOf c.args.cells.now) (sym c.in_ok-fabrics-2.ensures.berths)
    (berths_again c.args.cells.now c.args.program.now c.args.params.now c.args.lines.now
    (map g.B.Bag.items c.args.bags.items) c.args.berths.items c.requires.first (λ s. s.cells.now)
    (λ s. s.berth) c.in_ok-stands.stands.items c.in_ok-stands.ensures.cells
    c.in_ok-stands.ensures.berths _ _ _ (λ h. h.0) (λ h. h.1) (λ s. refl) (λ s. refl)
    c.in_ok-fabrics.field-0.fabrics.items c.in_ok-fabrics.ensures.same
    c.in_ok-fabrics-2.ensures.here)

pub returns-clause-left : goal.returns-clause-left
returns-clause-left g c =
    let played = c.in_ok-fabrics.field-0 in
    subst
    (λ rs. AreLeft (g.P.Program.value c.args.program.now) g.P.Value.Monoid.combine
    g.P.Value.Monoid.unit rs played.value played.counters.items)
    (sym (ap (map (λ b. b.kept)) c.in_ok-fabrics-2.ensures.berths
    ∙ mapped_twice (λ s. s.berth) (λ b. b.kept) played.fabrics.items))
    c.in_ok-fabrics.ensures.left
