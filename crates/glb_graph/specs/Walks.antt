-- Walks along the edges, and distances.
use Rattle.std.specs.Prelude.{◌≡◌, ℕ, zero, suc, ◌≤◌, List, Contains}
use Rattle.glb_graph.specs.Rows.{targets_of}

-- an edge leads from the one vertex to the other
abbrev pub HasEdge : List (List ℕ) → ℕ → ℕ → Type 0
HasEdge rows a b = Contains (targets_of rows a) b

-- a walk of so many edges leads from the one vertex to the other
abbrev pub Walk : List (List ℕ) → ℕ → ℕ → ℕ → Type 0
Walk rows s t zero = s ≡ t
Walk rows s t (suc n) = (m : ℕ) × HasEdge rows s m × Walk rows m t n

-- the least number of edges of a walk
abbrev pub IsDistance : List (List ℕ) → ℕ → ℕ → ℕ → Type 0
IsDistance rows s t d = Walk rows s t d × ((n : ℕ) → Walk rows s t n → d ≤ n)
