-- What the job comes to, told over all pairs of vertices.
use Rattle.std.specs.Prelude.{ℕ, List, length}
use Rattle.glb_laws.specs.Sums.{sum_to, greatest_to}
use Rattle.glb_graph.specs.Distances.{distance, one_for, steps_for}

-- the sum of a number for each pair of vertices
abbrev pub sum_of_pairs : List (List ℕ) → (ℕ → ℕ → ℕ) → ℕ
sum_of_pairs rows f = sum_to (length rows) (λ s. sum_to (length rows) (f s))

-- the number of pairs of two different vertices of which a walk leads from the first to the second
abbrev pub joined_pairs : List (List ℕ) → ℕ
joined_pairs rows = sum_of_pairs rows (λ s t. one_for s t (distance rows s t))

-- the sum of the distances of all pairs that a walk joins
abbrev pub sum_of_distances : List (List ℕ) → ℕ
sum_of_distances rows = sum_of_pairs rows (λ s t. steps_for (distance rows s t))

-- the greatest of these distances, and 0 where no walk joins a pair
abbrev pub greatest_distance : List (List ℕ) → ℕ
greatest_distance rows =
    greatest_to (length rows) (λ s. greatest_to (length rows) (λ t. steps_for (distance rows s t)))
