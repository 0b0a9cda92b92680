use Rattle.std.proofs.Common.{◌≡◌, ◌++◌, ◌==◌, not}
use Rattle.glb_rules.specs.Sight.{each_below}
use Rattle.glb_core.specs.Seen.{first_steal_in}
use Rattle.glb_core.proofs.seen.push_steals.Given as goal

abbrev pub invariant-loop-thief : goal.invariant-loop-thief
invariant-loop-thief l =
    record {
      made : l.ins.items ≡ l.fn.ins.items
          ++ each_below l.thief (λ t. not (t == l.place)) first_steal_in;
    }
