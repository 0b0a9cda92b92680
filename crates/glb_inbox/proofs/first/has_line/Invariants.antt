use Rattle.std.proofs.Common.{◌≡◌, drop}
use Rattle.glb_laws.specs.Numbers.{has_number}
use Rattle.glb_inbox.proofs.first.has_line.Given as goal

abbrev pub invariant-loop-target : goal.invariant-loop-target
invariant-loop-target l = has_number l.victim l.targets ≡ has_number l.victim
    (drop l.target-index l.targets)
