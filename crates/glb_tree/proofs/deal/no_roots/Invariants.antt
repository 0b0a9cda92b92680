use Rattle.std.proofs.Common.{◌≡◌, ℕ, [], get_or, map, vec_len}
use Rattle.glb_tree.proofs.deal.no_roots.Given as goal

abbrev pub invariant-loop : goal.invariant-loop
invariant-loop g l = record {
  many : vec_len l.lists ≡ l.counter;
  none : (p : ℕ) → get_or (map (λ v. v.items) l.lists.items) p [] ≡ [];
}
