-- The items of the job: a root, below it all vertices.
use Rattle.std.specs.Prelude.{ℕ, zero, suc, Bool, true, false, cond, List, [], ◌∷◌, ◌++◌, length}
use Rattle.std.specs.Prelude.{nat_lt}
use Rattle.std.proofs.Common.{arith}
use Rattle.glb_laws.specs.Tallies.{Tallies, no_tallies, AreProperTallies}
use Rattle.glb_graph.specs.declared.dist.Spot.{Spot}
use Rattle.glb_graph.specs.declared.dist.Spot.TheVariants.{Root, Vertex}
use Rattle.glb_graph.specs.Distances.{value_of, distance}

-- the vertices below n, by rising number
unfoldable pub spots : ℕ → List Spot
spots zero = []
spots (suc n) = spots n ++ Vertex n ∷ []

-- below the root stand all vertices, below a vertex nothing
abbrev pub spot_children : List (List ℕ) → Spot → List Spot
spot_children rows Root = spots (length rows)
spot_children rows (Vertex v) = []

-- the root counts for nothing, and a vertex for what it reaches
abbrev pub spot_value : List (List ℕ) → Spot → Tallies
spot_value rows Root = no_tallies
spot_value rows (Vertex s) =
    cond (nat_lt s (length rows)) (value_of (distance rows s) s (length rows)) no_tallies

-- the numbers of each value are of 64 bits
pub spot_value_proper : (rows : List (List ℕ)) (x : Spot) → AreProperTallies (spot_value rows x)
spot_value_proper rows Root = (omega arith, (omega arith, omega arith))
spot_value_proper rows (Vertex s) =
    either (nat_lt s (length rows)) (value_of (distance rows s) s (length rows))
    (omega arith, (omega arith, omega arith))
  where
    either : (b : Bool) (v : Tallies) → AreProperTallies v → AreProperTallies (cond b v no_tallies)
    either true v f = f
    either false v f = (omega arith, (omega arith, omega arith))
