use Rattle.std.proofs.Common.{◌≡◌, ◌+◌, ◌<◌, ℕ, get_or}
use Rattle.glb_uts.specs.declared.node.Node.{Node}
use Rattle.glb_uts.proofs.ranged.is_row.Given as goal

abbrev pub invariant-row : goal.invariant-row
invariant-row l = (k : ℕ) (a b : Node × ℕ) → k < l.i → a ≡ get_or l.asked k a
    → b ≡ get_or l.asked 0 b → (a.0.descriptor ≡ b.0.descriptor) × (a.1 ≡ b.1 + k)
