use Rattle.std.proofs.Common.{◌≡◌, ◌++◌, length, map}
use Rattle.glb_run.proofs.played.places_of.Given as goal

abbrev pub invariant-loop-bag : goal.invariant-loop-bag
invariant-loop-bag g l = record {
  bags : l.fn.bags.items ≡ l.yielded ++ l.bag-iterator.rest.items;
  fabrics : l.fn.fabrics.items ≡ map (λ p. p.fabric) l.places.items ++ l.left.rest.items;
  number : length l.places.items ≡ length l.yielded;
}
