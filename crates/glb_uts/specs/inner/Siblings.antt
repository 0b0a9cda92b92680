-- Nodes by their descriptors, and children by their numbers.
use Rattle.std.specs.Prelude.{◌≡◌, ℕ, ◌+◌, ◌^◌, ◌<◌, List, [], false, length, slice_index_or}
use Rattle.glb_uts.specs.declared.node.Node.{Node}
use Rattle.glb_uts.specs.Descriptors.{child_descriptor}
use Rattle.glb_uts.specs.Binomial.{child}

-- a node below the root, with this depth and this descriptor
abbrev pub node_at : ℕ → List ℕ → Node
node_at depth descriptor = record { descriptor = descriptor; depth = depth; root = false }

-- the child of a parent by its number
abbrev pub child_of : Node × ℕ → Node
child_of asked = child asked.0 asked.1

-- the number is one of 32 bits, and the depth below the parent one of 64
pub record IsWithin (asked : Node × ℕ) : Type 0 where
  pub depth : asked.0.depth < 2 ^ 41
  pub number : asked.1 < 2 ^ 32

-- children of one parent, by numbers in a row
abbrev pub IsRow : List (Node × ℕ) → Type 0
IsRow asked = (k : ℕ) (a b : Node × ℕ) → k < length asked → a ≡ slice_index_or asked k a
    → b ≡ slice_index_or asked 0 b → (a.0.descriptor ≡ b.0.descriptor) × (a.1 ≡ b.1 + k)

-- the first descriptors are those of the children that are asked for
abbrev pub HaveDescriptors : List (Node × ℕ) → List (List ℕ) → Type 0
HaveDescriptors asked descriptors = (k : ℕ) (a : Node × ℕ) → k < length asked
    → a ≡ slice_index_or asked k a
    → slice_index_or descriptors k [] ≡ child_descriptor a.0.descriptor a.1
