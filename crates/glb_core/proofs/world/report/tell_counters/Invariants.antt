use Rattle.std.proofs.Common.{◌≡◌, ◌<◌, ℕ, get_or}
use Rattle.glb_core.proofs.world.report.tell_counters.Given as goal

abbrev pub invariant-loop-place : goal.invariant-loop-place
invariant-loop-place g l =
    record {
      told : (i : ℕ) (d e : _) → i < l.place
          → get_or l.counters i d ≡ (get_or l.place_rows i e).counters;
    }
