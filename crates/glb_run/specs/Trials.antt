-- The graph of a trial, made from one number.
use Rattle.std.specs.Prelude.{ℕ, zero, suc, ◌+◌, ◌*◌, ◌/◌, ◌^◌, List, [], ◌∷◌, ◌++◌}
use Rattle.glb_rules.specs.Draws.{word}
use Rattle.glb_graph.specs.Rows.{graph_of}

-- the vertex, of 1,000, that a word of 32 bits gives
abbrev pub vertex_of : ℕ → ℕ
vertex_of w = w * 1000 / 2 ^ 32

-- the edge of a number: one word gives its start and the next one its end; the words are those of
-- the generator Pcg32 with the trial's number as its state and 1,000 as its stream
abbrev pub edge_of : ℕ → ℕ → ℕ × ℕ
edge_of k number = (vertex_of (word k 1000 (number * 2)), vertex_of (word k 1000 (number * 2 + 1)))

-- so many edges, in order
unfoldable pub first_edges : ℕ → ℕ → List (ℕ × ℕ)
first_edges k zero = []
first_edges k (suc n) = first_edges k n ++ edge_of k n ∷ []

-- the graph has 1,000 vertices and 5,000 edges
abbrev pub trial_graph : ℕ → List (List ℕ)
trial_graph k = graph_of 1000 (first_edges k 5000)
