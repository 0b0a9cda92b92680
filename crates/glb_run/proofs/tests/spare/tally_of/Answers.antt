use Rattle.std.proofs.Common.{◌≡◌}
use Rattle.glb_run.proofs.PairFacts.{both_have}
use Rattle.glb_run.proofs.PlayedFacts.{unmapped}
use Rattle.glb_run.proofs.tests.spare.tally_of.Goals as goal

pub play-requires-clause-first : goal.play-requires-clause-first
play-requires-clause-first g c =
    (both_have (λ p. c.args.program.now ≡ g.F.Fabric.program p.fabric) c.args.places.items _ _
    (unmapped (λ f. c.args.program.now ≡ g.F.Fabric.program f) (λ p. p.fabric)
    c.args.places.items c.requires.programs)
    c.both_of-first.ensures).0

pub play-requires-clause-second : goal.play-requires-clause-second
play-requires-clause-second g c =
    (both_have (λ p. c.args.program.now ≡ g.F.Fabric.program p.fabric) c.args.places.items _ _
    (unmapped (λ f. c.args.program.now ≡ g.F.Fabric.program f) (λ p. p.fabric)
    c.args.places.items c.requires.programs)
    c.both_of-first.ensures).1
