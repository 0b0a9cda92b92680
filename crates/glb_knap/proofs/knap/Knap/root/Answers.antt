use Rattle.std.proofs.Common.{subst}
use Rattle.glb_knap.specs.Packs.{IsProblem}
use Rattle.glb_knap.proofs.Optima.{best_iff_optimum}
use Rattle.glb_knap.proofs.knap.Knap.root.Goals as goal

pub returns-clause-best : goal.returns-clause-best
returns-clause-best c =
    best_iff_optimum c.args.self.now (subst IsProblem c.self.view_is c.self.invariant.0)
