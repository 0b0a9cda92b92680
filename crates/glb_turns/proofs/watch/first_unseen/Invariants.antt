use Rattle.std.proofs.Common.{◌≡◌, ◌<◌, ℕ, false, get_or}
use Rattle.glb_rules.specs.Decision.{is_unseen}
use Rattle.glb_turns.proofs.watch.first_unseen.Given as goal

abbrev pub invariant-loop-at : goal.invariant-loop-at
invariant-loop-at l = record {
  before : (i : ℕ) (d : _) → i < l.at → is_unseen (get_or l.ins i d) ≡ false;
}
