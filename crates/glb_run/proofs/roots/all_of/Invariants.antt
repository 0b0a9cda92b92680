use Rattle.std.proofs.Common.{◌≡◌, ◌++◌, [], length, map, get_or}
use Rattle.glb_rules.specs.Joins.{join_to}
use Rattle.glb_run.proofs.roots.all_of.Given as goal

abbrev pub invariant-loop-list : goal.invariant-loop-list
invariant-loop-list g l = record {
  whole : l.fn.lists.items ≡ l.yielded ++ l.list-iterator.rest.items;
  all : l.all.items
      ≡ join_to (length l.yielded) (λ p. get_or (map (λ v. v.items) l.fn.lists.items) p []);
}
