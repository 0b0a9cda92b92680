use Rattle.std.proofs.Common.{◌≡◌, drop}
use Rattle.glb_rules.specs.Decision.{first, is_unseen}
use Rattle.glb_core.proofs.decision.first_unseen.Given as goal

abbrev pub invariant-loop-edge : goal.invariant-loop-edge
invariant-loop-edge l = record { rest : first is_unseen (drop l.edge-index l.ins) ≡ first is_unseen l.ins }
