-- Graph text, as a relation between bytes and what they say.
use Rattle.std.specs.Prelude.{◌≡◌, ℕ, zero, suc, ◌+◌, ◌-◌, ◌*◌, ◌<◌, ◌≤◌, ◌==◌, ◌⊎◌, cond, List, []}
use Rattle.std.specs.Prelude.{◌∷◌, ◌++◌, length, codes}
use Rattle.glb_graph.specs.declared.limits.TheConstants.{MOST_VERTICES, MOST_EDGES}

-- what is wrong with bytes that are no graph text
pub data FaultKind : Type 0 where
  BadLine : FaultKind
  TooLarge : FaultKind
  BadEnd : FaultKind

-- a number of vertices with the list of the edges, or a fault with its line
pub data Reading : Type 0 where
  Edges : ℕ → List (ℕ × ℕ) → Reading
  Fault : FaultKind → ℕ → Reading

-- one more byte at the front of the first line
abbrev pub add_to_first : ℕ → List (List ℕ) → List (List ℕ)
add_to_first b [] = (b ∷ []) ∷ []
add_to_first b (line ∷ lines) = (b ∷ line) ∷ lines

-- a line feed ends a line; bytes after the last one are a last line
unfoldable pub lines_of : List ℕ → List (List ℕ)
lines_of [] = []
lines_of (b ∷ bytes) = cond (b == 10) ([] ∷ lines_of bytes) (add_to_first b (lines_of bytes))

-- decimal digits
abbrev pub AreDigits : List ℕ → Type 0
AreDigits [] = Unit {0}
AreDigits (d ∷ ds) = (48 ≤ d) × (d < 58) × AreDigits ds

-- the number that digits write, after those that wrote n
abbrev pub number_from : ℕ → List ℕ → ℕ
number_from n [] = n
number_from n (d ∷ ds) = number_from (n * 10 + (d - 48)) ds

-- one to ten digits
pub record IsNumeral (ds : List ℕ) : Type 0 where
  pub some : 1 ≤ length ds
  pub few : length ds ≤ 10
  pub digits : AreDigits ds

-- two numerals with a space between
pub record IsPair (line : List ℕ) (a b : ℕ) : Type 0 where
  pub first : List ℕ
  pub second : List ℕ
  pub line_is : line ≡ first ++ (codes " " ++ second)
  pub first_numeral : IsNumeral first
  pub second_numeral : IsNumeral second
  pub first_is : a ≡ number_from 0 first
  pub second_is : b ≡ number_from 0 second

-- a pair of vertices
abbrev pub IsEdge : ℕ → List ℕ → ℕ → ℕ → Type 0
IsEdge vertices line a b = IsPair line a b × (a < vertices) × (b < vertices)

-- an edge before the others, if these have no fault
abbrev pub with_edge : ℕ × ℕ → Reading → Reading
with_edge p (Edges v ps) = Edges v (p ∷ ps)
with_edge p (Fault kind line) = Fault kind line

-- what the lines say from the one with number `at` on, of which so many are edges
abbrev pub EdgeLinesSay : ℕ → ℕ → ℕ → List (List ℕ) → Reading → Type 0
EdgeLinesSay vertices zero at [] r = r ≡ Edges vertices []
EdgeLinesSay vertices zero at (line ∷ lines) r = r ≡ Fault BadEnd at
EdgeLinesSay vertices (suc left) at [] r = r ≡ Fault BadEnd at
EdgeLinesSay vertices (suc left) at (line ∷ lines) r =
    (((a b : ℕ) → IsEdge vertices line a b → ⊥) × (r ≡ Fault BadLine at))
    ⊎ ((a : ℕ) × (b : ℕ) × (rest : Reading) × IsEdge vertices line a b
    × EdgeLinesSay vertices left (suc at) lines rest × (r ≡ with_edge (a, b) rest))

-- what the lines say, all together
abbrev pub LinesSay : List (List ℕ) → Reading → Type 0
LinesSay [] r = r ≡ Fault BadEnd 1
LinesSay (line ∷ lines) r =
    (((a b : ℕ) → IsPair line a b → ⊥) × (r ≡ Fault BadLine 1))
    ⊎ ((vertices : ℕ) × (edges : ℕ) × IsPair line vertices edges ×
    ((((MOST_VERTICES < vertices) ⊎ (MOST_EDGES < edges)) × (r ≡ Fault TooLarge 1))
    ⊎ ((vertices ≤ MOST_VERTICES) × (edges ≤ MOST_EDGES)
    × EdgeLinesSay vertices edges 2 lines r)))

-- what the bytes say
abbrev pub BytesSay : List ℕ → Reading → Type 0
BytesSay bytes r = LinesSay (lines_of bytes) r
