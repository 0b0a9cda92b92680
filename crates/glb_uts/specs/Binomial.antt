-- Binomial trees: the root has B0 children, and every other node has M children or none.
use Rattle.std.specs.Prelude.{ℕ, ◌+◌, ◌-◌, ◌^◌, ◌<◌, ◌==◌, min, false, cond, nat_le, nat_lt, List, map}
use Rattle.std.specs.List.{range_with_len}
use Rattle.std.proofs.Common.{lit<, arith}
use Rattle.std.proofs.lemmas.Bool.{cond_both}
use Rattle.glb_laws.specs.declared.both.Both.{Both}
use Rattle.glb_laws.specs.declared.sat_sum.SatSum.{SatSum}
use Rattle.glb_laws.specs.declared.greatest.Greatest.{Greatest}
use Rattle.glb_laws.specs.Bounded.{sat_sum, greatest}
use Rattle.glb_laws.specs.Pair.{both}
use Rattle.glb_uts.specs.declared.node.Node.{Node}
use Rattle.glb_uts.specs.declared.uts.Uts.{Uts}
use Rattle.glb_uts.specs.Descriptors.{child_descriptor, draw}

-- how many children a node has: none at depth 2^41 or more, B0 at the root, and M where the draw is
-- below Q
abbrev pub fan : Uts → Node → ℕ
fan uts node =
    cond (nat_le (2 ^ 41) node.depth) 0
    (cond node.root uts.b0 (cond (nat_lt (draw node.descriptor) uts.q) uts.m 0))

-- the child of this number, counted from 0
abbrev pub child : Node → ℕ → Node
child node number = record {
  descriptor = child_descriptor node.descriptor number;
  depth = node.depth + 1;
  root = false;
}

-- all children, by rising number
unfoldable pub children : Uts → Node → List Node
children uts node = map (child node) (range_with_len 0 (fan uts node))

-- one node, one leaf where it has no children, and its depth
abbrev pub value_of : Uts → Node → Both SatSum (Both SatSum Greatest)
value_of uts node =
    both (sat_sum 1) (both (sat_sum (cond (fan uts node == 0) 1 0))
    (greatest (min node.depth (2 ^ 64 - 1))))

-- the numbers of a value are numbers of 64 bits
pub value_is_proper : (uts : Uts) (node : Node) → ((value_of uts node).0.0 < 2 ^ 64)
    × (((value_of uts node).1.0.0 < 2 ^ 64) × ((value_of uts node).1.1.0 < 2 ^ 64))
value_is_proper uts node = (
  lit< tt,
  (
    cond_both (fan uts node == 0) 1 0 (λ v. v < 2 ^ 64) (λ _. lit< tt) (λ _. lit< tt),
    omega arith,
  ),
)
