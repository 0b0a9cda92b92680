-- Knapsack text, as a relation between bytes and what they say.
use Rattle.std.specs.Prelude.{◌≡◌, ℕ, zero, suc, ◌<◌, ◌≤◌, ◌⊎◌, List, [], ◌∷◌}
use Rattle.glb_graph.specs.GraphText.{FaultKind, BadLine, TooLarge, BadEnd, lines_of, IsPair}
use Rattle.glb_graph.specs.declared.text.GraphFault.{GraphFault}
use Rattle.glb_graph.specs.declared.text.GraphFault.TheVariants as fault
use Rattle.glb_knap.specs.declared.limits.TheConstants.{MOST_LINES, MOST_NUMBER}

-- a capacity with the list of the lines, each a weight and a value, or a fault with its line
pub data Reading : Type 0 where
  Carries : ℕ → List (ℕ × ℕ) → Reading
  Fault : FaultKind → ℕ → Reading

-- a weight of at least 1, and a value
abbrev pub IsLine : List ℕ → ℕ → ℕ → Type 0
IsLine text weight value =
    IsPair text weight value × (1 ≤ weight) × (weight ≤ MOST_NUMBER) × (value ≤ MOST_NUMBER)

-- a line before the others, if these have no fault
abbrev pub add_line : ℕ × ℕ → Reading → Reading
add_line p (Carries capacity ps) = Carries capacity (p ∷ ps)
add_line p (Fault kind line) = Fault kind line

-- what the text says from the line with number `at` on, of which so many can be taken
abbrev pub LinesSay : ℕ → ℕ → ℕ → List (List ℕ) → Reading → Type 0
LinesSay capacity zero at [] r = r ≡ Carries capacity []
LinesSay capacity zero at (text ∷ texts) r = r ≡ Fault BadEnd at
LinesSay capacity (suc left) at [] r = r ≡ Fault BadEnd at
LinesSay capacity (suc left) at (text ∷ texts) r =
    (((a b : ℕ) → IsLine text a b → ⊥) × (r ≡ Fault BadLine at))
    ⊎ ((a : ℕ) × (b : ℕ) × (rest : Reading) × IsLine text a b
    × LinesSay capacity left (suc at) texts rest × (r ≡ add_line (a, b) rest))

-- what the lines of a text say, all together
abbrev pub TextSays : List (List ℕ) → Reading → Type 0
TextSays [] r = r ≡ Fault BadEnd 1
TextSays (text ∷ texts) r =
    (((a b : ℕ) → IsPair text a b → ⊥) × (r ≡ Fault BadLine 1))
    ⊎ ((lines : ℕ) × (capacity : ℕ) × IsPair text lines capacity ×
    ((((MOST_LINES < lines) ⊎ (MOST_NUMBER < capacity)) × (r ≡ Fault TooLarge 1))
    ⊎ ((lines ≤ MOST_LINES) × (capacity ≤ MOST_NUMBER)
    × LinesSay capacity lines 2 texts r)))

-- what the bytes say
abbrev pub BytesSay : List ℕ → Reading → Type 0
BytesSay bytes r = TextSays (lines_of bytes) r

-- the bytes have this fault; want of memory says nothing of them
abbrev pub HasTextFault : List ℕ → GraphFault → Type 0
HasTextFault bytes (fault.BadLine line) = BytesSay bytes (Fault BadLine line)
HasTextFault bytes (fault.TooLarge line) = BytesSay bytes (Fault TooLarge line)
HasTextFault bytes (fault.BadEnd line) = BytesSay bytes (Fault BadEnd line)
HasTextFault bytes fault.NoMemory = Unit {0}
