use Rattle.std.proofs.Common.{◌≡◌, ℕ, ◌<◌, [], length, get_or}
use Rattle.glb_uts.specs.declared.node.Node.{Node}
use Rattle.glb_uts.proofs.ranged.make_eight.Given as goal

abbrev pub invariant-asked : goal.invariant-asked
invariant-asked l = record {
  parents : length l.parents ≡ 8;
  numbers : length l.numbers ≡ 8;
  filled : (k : ℕ) (a : Node × ℕ) → k < l.i → a ≡ get_or l.asked k a
      → (get_or l.parents k [] ≡ a.0.descriptor) × (get_or l.numbers k 0 ≡ a.1);
}
