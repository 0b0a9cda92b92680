use Rattle.std.proofs.Common.{◌≡◌}
use Rattle.glb_run.proofs.tests.spare.play.Given as goal

abbrev pub invariant-loop : goal.invariant-loop
invariant-loop g l = record {
  first : l.program ≡ g.F.Fabric.program l.first.fabric;
  second : l.program ≡ g.F.Fabric.program l.second.fabric;
}
