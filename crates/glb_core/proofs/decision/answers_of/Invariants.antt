use Rattle.std.proofs.Common.{◌≡◌, drop}
use Rattle.std.specs.Option.{option_or}
use Rattle.glb_rules.specs.Decision.{first, has_loot, is_idle}
use Rattle.glb_core.proofs.decision.answers_of.Given as goal

abbrev pub invariant-loop-line : goal.invariant-loop-line
invariant-loop-line l = record {
  loot : first has_loot (drop l.line-index l.outs) ≡ first has_loot l.outs;
  idle : option_or l.idle (first is_idle (drop l.line-index l.outs)) ≡ first is_idle l.outs;
}
