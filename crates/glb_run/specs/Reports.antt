-- The text of a report.
use Rattle.std.specs.Prelude.{ℕ, List, [], ◌∷◌, ◌++◌, Bool, true, false, codes, decimal, sum}
use Rattle.glb_laws.specs.declared.sat_sum.SatSum.{SatSum}
use Rattle.glb_laws.specs.Tallies.{Tallies}
use Rattle.glb_words.specs.Rules.{Text}
use Rattle.glb_stats.specs.Text.{stats_text, rooted_stats_text}
use Rattle.glb_stats.specs.declared.counters.Counters.{Counters}

-- numbers, each behind a space
abbrev pub numbers_text : List ℕ → Text
numbers_text [] = []
numbers_text (n ∷ ns) = codes " " ++ decimal n ++ numbers_text ns

-- a name, its numbers and a line feed
abbrev pub line_text : Text → List ℕ → Text
line_text name numbers = name ++ numbers_text numbers ++ 10 ∷ []

-- the line that names the job of n queens
abbrev pub queens_line : ℕ → Text
queens_line n = line_text (codes "queens") (n ∷ [])

-- the line that names the job over a binomial tree
abbrev pub uts_line : ℕ → ℕ → ℕ → ℕ → Text
uts_line b0 m q seed = line_text (codes "uts") (b0 ∷ m ∷ q ∷ seed ∷ [])

-- the line that names the job over a graph, by its numbers of vertices and edges
abbrev pub dist_line : ℕ → ℕ → Text
dist_line vertices edges = line_text (codes "dist") (vertices ∷ edges ∷ [])

-- the line that names a trial
abbrev pub trial_line : ℕ → Text
trial_line k = line_text (codes "trial") (k ∷ [])

-- the lines before the number of items: the one that names the job, and where the start is spread
-- also that of the second form of reports and that of the number of all roots; `roots` has how many
-- each place had
abbrev pub head_text : Bool → List ℕ → Text → Text
head_text false roots name = name
head_text true roots name =
    line_text (codes "report") (2 ∷ []) ++ name ++ line_text (codes "roots") (sum roots ∷ [])

-- the placements of n queens
abbrev pub queens_text : ℕ → Bool → List ℕ → ℕ → SatSum → Text
queens_text n spread roots items placements =
    head_text spread roots (queens_line n)
    ++ line_text (codes "items") (items ∷ [])
    ++ line_text (codes "placements") (placements.0 ∷ [])

-- the nodes, the leaves and the greatest depth of a binomial tree
abbrev pub uts_text : ℕ → ℕ → ℕ → ℕ → Bool → List ℕ → ℕ → Tallies → Text
uts_text b0 m q seed spread roots items tallies =
    head_text spread roots (uts_line b0 m q seed)
    ++ line_text (codes "items") (items ∷ [])
    ++ line_text (codes "nodes") (tallies.0.0 ∷ [])
    ++ line_text (codes "leaves") (tallies.1.0.0 ∷ [])
    ++ line_text (codes "depth") (tallies.1.1.0 ∷ [])

-- the pairs of vertices that a walk joins, the sum of their distances and the greatest of these
abbrev pub dist_text : ℕ → ℕ → Bool → List ℕ → ℕ → Tallies → Text
dist_text vertices edges spread roots items tallies =
    head_text spread roots (dist_line vertices edges)
    ++ line_text (codes "items") (items ∷ [])
    ++ line_text (codes "pairs") (tallies.0.0 ∷ [])
    ++ line_text (codes "sum") (tallies.1.0.0 ∷ [])
    ++ line_text (codes "greatest") (tallies.1.1.0 ∷ [])

-- the number of lines and the capacity of a knapsack, and the best worth
abbrev pub knap_text : ℕ → ℕ → ℕ → Text
knap_text lines capacity worth =
    line_text (codes "knap") (lines ∷ capacity ∷ [])
    ++ line_text (codes "best") (worth ∷ [])

-- the lines of the places, each with its roots where the start is spread
abbrev pub places_text : Bool → List ℕ → List Counters → Text
places_text false roots counters = stats_text counters
places_text true roots counters = rooted_stats_text counters roots

-- the lines of the places, where they are asked for
abbrev pub counters_text : Bool → Bool → List ℕ → List Counters → Text
counters_text false spread roots counters = []
counters_text true spread roots counters = places_text spread roots counters
