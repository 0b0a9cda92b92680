-- The trees of items, as whole lists.
use Rattle.std.specs.Prelude.{ℕ, zero, suc, ◌≤◌, List, [], ◌∷◌, length}
use Rattle.std.specs.List.{flat_map}
use Rattle.glb_laws.specs.Expansion.{combined}

-- the item and what is below it, down to fewer than `depth` steps
unfoldable pub tree : {X : Type 0} → (X → List X) → X → ℕ → List X
tree children x zero = []
tree children x (suc depth) = x ∷ flat_map (λ c. tree children c depth) (children x)

-- the trees of all roots together, so far down
unfoldable pub forest : {X : Type 0} → (X → List X) → List X → ℕ → List X
forest children roots depth = flat_map (λ r. tree children r depth) roots

-- the trees end, and together they have at most `most` members
abbrev pub IsSmall : {X : Type 0} → (X → List X) → List X → ℕ → Type 0
IsSmall children roots most = length (forest children roots (suc most)) ≤ most

-- all nodes of trees that together have at most `most`: it is the same list for each such number
abbrev pub nodes : {X : Type 0} → (X → List X) → List X → ℕ → List X
nodes children roots most = forest children roots (suc most)

-- the values of all nodes of such trees, combined
abbrev pub answer : {X V : Type 0} → (X → List X) → (X → V) → V → (V → V → V) → List X → ℕ → V
answer children value unit combine roots most =
    combined value combine unit (nodes children roots most)
