use Rattle.std.proofs.Common.{◌≡◌, ◌++◌, length, map, drop}
use Rattle.glb_run.proofs.roots.numbers_of.Given as goal

abbrev pub invariant-loop-list : goal.invariant-loop-list
invariant-loop-list g l =
    l.numbers.items ++ map (λ v. length v.items) (drop l.list-index l.lists)
    ≡ map (λ v. length v.items) l.lists
