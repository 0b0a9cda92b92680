-- What the nodes of a tree add up to: their number, how many have no children, and the greatest
-- depth.
use Rattle.std.specs.Prelude.{ℕ, ◌==◌, max, Bool, List, [], ◌∷◌, length, count_by}
use Rattle.glb_laws.specs.declared.both.Both.{Both}
use Rattle.glb_laws.specs.declared.sat_sum.SatSum.{SatSum}
use Rattle.glb_laws.specs.declared.greatest.Greatest.{Greatest}
use Rattle.glb_laws.specs.Bounded.{sat_sum, greatest}
use Rattle.glb_laws.specs.Pair.{both}
use Rattle.glb_uts.specs.declared.node.Node.{Node}
use Rattle.glb_uts.specs.declared.uts.Uts.{Uts}
use Rattle.glb_uts.specs.Binomial.{children}

-- whether a node has no children
abbrev pub is_leaf : Uts → Node → Bool
is_leaf uts node = length (children uts node) == 0

-- how many of the nodes have no children
abbrev pub leaf_count : Uts → List Node → ℕ
leaf_count uts nodes = count_by (is_leaf uts) nodes

-- the greatest of the nodes' depths, and 0 where there is no node
unfoldable pub greatest_depth : List Node → ℕ
greatest_depth [] = 0
greatest_depth (node ∷ nodes) = max node.depth (greatest_depth nodes)

-- a number of nodes, a number of leaves and a depth, side by side
abbrev pub totals : ℕ → ℕ → ℕ → Both SatSum (Both SatSum Greatest)
totals count leaves depth = both (sat_sum count) (both (sat_sum leaves) (greatest depth))

-- what these nodes add up to
abbrev pub totals_of : Uts → List Node → Both SatSum (Both SatSum Greatest)
totals_of uts nodes = totals (length nodes) (leaf_count uts nodes) (greatest_depth nodes)
