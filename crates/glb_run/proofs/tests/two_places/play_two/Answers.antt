use Rattle.std.proofs.Common.{◌≡◌, ◌∙◌, ap, subst, sym}
use Rattle.glb_run.specs.inner.Hands.{two_params, two_places}
use Rattle.glb_run.proofs.PairFacts.{both_first, both_have}
use Rattle.glb_run.proofs.tests.two_places.play_two.Goals as goal

pub new-requires-clause-first : goal.new-requires-clause-first
new-requires-clause-first g c =
    (both_first g.B.Bag.items g.F.Fabric.kept two_places two_params c.args.bags.items
    c.args.fabrics.items _ _ _ _ c.requires.first c.both_of-bag_0.ensures c.both_of-fabric_0.ensures).0

pub new-requires-clause-fits : goal.new-requires-clause-fits
new-requires-clause-fits g c =
    subst (g.B.Bag.fits c.both_of-bag_0.result.0) (both_have (λ f. c.args.program.now ≡ g.F.Fabric.program f) c.args.fabrics.items _ _
    c.requires.programs c.both_of-fabric_0.ensures).0 (both_have (λ b. g.B.Bag.fits b c.args.program.now) c.args.bags.items _ _ c.requires.fits
    c.both_of-bag_0.ensures).0

pub new-requires-2-clause-first : goal.new-requires-2-clause-first
new-requires-2-clause-first g c =
    (both_first g.B.Bag.items g.F.Fabric.kept two_places two_params c.args.bags.items
    c.args.fabrics.items _ _ _ _ c.requires.first c.both_of-bag_0.ensures c.both_of-fabric_0.ensures).1

pub new-requires-2-clause-fits : goal.new-requires-2-clause-fits
new-requires-2-clause-fits g c =
    subst (g.B.Bag.fits c.both_of-bag_0.result.1) (both_have (λ f. c.args.program.now ≡ g.F.Fabric.program f) c.args.fabrics.items _ _
    c.requires.programs c.both_of-fabric_0.ensures).1 (both_have (λ b. g.B.Bag.fits b c.args.program.now) c.args.bags.items _ _ c.requires.fits
    c.both_of-bag_0.ensures).1

pub play-requires-clause-first : goal.play-requires-clause-first
play-requires-clause-first g c =
    (both_have (λ f. c.args.program.now ≡ g.F.Fabric.program f) c.args.fabrics.items _ _
    c.requires.programs c.both_of-fabric_0.ensures).0 ∙ ap g.F.Fabric.program (sym c.in_ok-first.ensures)

pub play-requires-clause-second : goal.play-requires-clause-second
play-requires-clause-second g c =
    (both_have (λ f. c.args.program.now ≡ g.F.Fabric.program f) c.args.fabrics.items _ _
    c.requires.programs c.both_of-fabric_0.ensures).1 ∙ ap g.F.Fabric.program (sym c.in_ok-second.ensures)
