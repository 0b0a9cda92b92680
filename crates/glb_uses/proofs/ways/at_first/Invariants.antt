use Rattle.std.proofs.Common.{◌≡◌, ℕ, [], length, map, get_or}
use Rattle.glb_uses.specs.inner.Starts.{at_first}
use Rattle.glb_uses.proofs.ways.at_first.Given as goal

abbrev pub invariant-loop : goal.invariant-loop
invariant-loop g l = record {
  many : length l.lists.items ≡ l.counter;
  lists : (p : ℕ) → get_or (map (λ v. v.items) l.lists.items) p [] ≡ at_first l.fn.root p;
}
