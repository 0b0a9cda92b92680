use Rattle.std.proofs.Common.{◌≡◌, drop}
use Rattle.std.specs.Option.{option_or}
use Rattle.glb_rules.specs.Decision.{first, is_pending, is_wanted}
use Rattle.glb_core.proofs.decision.requests_of.Given as goal

abbrev pub invariant-loop-edge : goal.invariant-loop-edge
invariant-loop-edge l = record {
  wanting : option_or l.wanting (first is_wanted (drop l.edge-index l.ins)) ≡ first is_wanted l.ins;
  pending : option_or l.pending (first is_pending (drop l.edge-index l.ins)) ≡ first is_pending l.ins;
}
