use Rattle.std.proofs.Common.{◌≡◌, ◌<◌, ℕ, [], ◌++◌, length, get_or, map, vec_len}
use Rattle.glb_tree.specs.Spread.{dealt, dealt_from}
use Rattle.glb_tree.proofs.deal.spread.Given as goal

abbrev pub invariant-loop-child : goal.invariant-loop-child
invariant-loop-child g l = record {
  many : vec_len l.lists ≡ l.places;
  number : length l.yielded ≡ l.number;
  whole : g.P.Program.children l.program l.root ≡ l.yielded ++ l.child-iterator.rest.items;
  dealt : (p : ℕ) → p < l.places
      → get_or (map (λ v. v.items) l.lists.items) p []
      ++ dealt_from l.places p l.number l.child-iterator.rest.items
      ≡ dealt l.places (g.P.Program.children l.program l.root) p;
}
