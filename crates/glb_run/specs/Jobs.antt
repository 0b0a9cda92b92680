-- The trees of each job, and its report.
use Rattle.std.specs.Prelude.{◌≡◌, ◌⊎◌, ℕ, true, List, [], ◌∷◌, ◌++◌, length}
use Rattle.glb_laws.specs.Bounded.{sat_sum, capped_sum}
use Rattle.glb_laws.specs.Tree.{IsSmall}
use Rattle.glb_laws.specs.declared.sat_sum.SatSum.{SatSum}
use Rattle.glb_words.specs.Rules.{Text}
use Rattle.glb_words.specs.declared.settings.Job.{Job}
use Rattle.glb_words.specs.declared.settings.Job.TheVariants as job
use Rattle.glb_queens.specs.Boards.{boards_below, value_of}
use Rattle.glb_uts.specs.Descriptors.{root_descriptor}
use Rattle.glb_uts.specs.Binomial as binomial
use Rattle.glb_uts.specs.declared.uts.Uts.{Uts}
use Rattle.glb_uts.specs.declared.node.Node.{Node}
use Rattle.glb_graph.specs.Rows.{edges_of}
use Rattle.glb_graph.specs.Spots.{spot_children, spot_value}
use Rattle.glb_graph.specs.Reading.{IsTextOf}
use Rattle.glb_graph.specs.declared.dist.Spot.TheVariants.{Root}
use Rattle.glb_tree.specs.Runs.{IsTooMany}
use Rattle.glb_knap.specs.KnapText.{BytesSay, Carries}
use Rattle.glb_knap.specs.Choices.{IsOptimum}
use Rattle.glb_knap.specs.Packs.{Problem, packs_below, empty_pack}
use Rattle.glb_run.specs.declared.order.Order.{Order}
use Rattle.glb_laws.specs.Tallies.{no_tallies, join_tallies}
use Rattle.glb_run.specs.Reports.{queens_text, uts_text, dist_text, trial_line, knap_text}
use Rattle.glb_run.specs.Runs.{IsTreeReport, IsTooLarge, IsWithin}
use Rattle.glb_run.specs.Trials.{trial_graph}

-- sums that stop at the last value of 64 bits
abbrev pub no_sum : SatSum
no_sum = sat_sum 0

abbrev pub add_sums : SatSum → SatSum → SatSum
add_sums a b = sat_sum (capped_sum a.0 b.0)

-- placements of n queens: the tree of the board without queens
abbrev pub IsQueensReport : ℕ → Order → Text → Type 0
IsQueensReport n order text =
    IsTreeReport (boards_below n) (value_of n) add_sums no_sum [] order
    (queens_text n order.spread) text

-- a binomial tree
abbrev pub tree_of : ℕ → ℕ → ℕ → ℕ → Uts
tree_of b0 m q seed = record { b0 = b0; m = m; q = q; seed = seed }

-- its root
abbrev pub root_of : ℕ → Node
root_of seed = record { descriptor = root_descriptor seed; depth = 0; root = true }

-- the nodes of a binomial tree
abbrev pub IsUtsReport : Uts → Order → Text → Type 0
IsUtsReport tree order text =
    IsTreeReport (binomial.children tree) (binomial.value_of tree) join_tallies no_tallies
    (root_of tree.seed) order (uts_text tree.b0 tree.m tree.q tree.seed order.spread) text

-- the distances of a graph
abbrev pub IsDistReport : List (List ℕ) → Order → Text → Type 0
IsDistReport rows order text =
    IsTreeReport (spot_children rows) (spot_value rows) join_tallies no_tallies Root
    order (dist_text (length rows) (edges_of rows) order.spread) text

-- the tree of a trial
abbrev pub trial_tree : ℕ → Uts
trial_tree k = tree_of 2000 4 483183820 k

-- a trial: its line, then the report of its tree and that of its graph
pub record IsTrialReport (k : ℕ) (order : Order) (text : Text) : Type 0 where
  pub tree_text : Text
  pub graph_text : Text
  pub tree : IsUtsReport (trial_tree k) order tree_text
  pub graph : IsDistReport (trial_graph k) order graph_text
  pub whole : text ≡ trial_line k ++ tree_text ++ graph_text

-- the bytes are the text of this knapsack
abbrev pub IsKnapText : List ℕ → Problem → Type 0
IsKnapText bytes problem = BytesSay bytes (Carries problem.capacity problem.lines)

-- a knapsack: the greatest value of lines that can be carried together
pub record IsKnapReport (problem : Problem) (text : Text) : Type 0 where
  pub most : ℕ
  pub optimum : IsOptimum problem.capacity problem.lines most
  pub whole : text ≡ knap_text (length problem.lines) problem.capacity most

-- the tree of its packs has more nodes than the order's limit, and so many were visited
abbrev pub IsSearchTooLarge : Problem → Order → ℕ → Type 0
IsSearchTooLarge problem order items =
    IsTooMany (packs_below problem) (empty_pack ∷ []) order.params.limit items

-- it has no more nodes than the order's limit
abbrev pub IsSearchWithin : Problem → Order → Type 0
IsSearchWithin problem order =
    IsSmall (packs_below problem) (empty_pack ∷ []) order.params.limit

-- the report of a job, where the source gave this input
abbrev pub IsReportOf : Job → Order → List ℕ → Text → Type 0
IsReportOf (job.Queens n) order input text = IsQueensReport n order text
IsReportOf (job.Uts b0 m q seed) order input text = IsUtsReport (tree_of b0 m q seed) order text
IsReportOf job.Dist order input text =
    (rows : List (List ℕ)) × IsTextOf input rows × IsDistReport rows order text
IsReportOf (job.Trial k) order input text = IsTrialReport k order text
IsReportOf job.Knap order input text =
    (problem : Problem) × IsKnapText input problem × IsKnapReport problem text

-- the report of the order's job
abbrev pub IsReport : Order → List ℕ → Text → Type 0
IsReport order = IsReportOf order.job order

-- the trees of a run of the job have more nodes than the order's limit, and so many were expanded
abbrev pub HasTooManyOf : Job → Order → List ℕ → ℕ → Type 0
HasTooManyOf (job.Queens n) order input items =
    IsTooLarge (boards_below n) [] order items
HasTooManyOf (job.Uts b0 m q seed) order input items =
    IsTooLarge (binomial.children (tree_of b0 m q seed)) (root_of seed) order items
HasTooManyOf job.Dist order input items =
    (rows : List (List ℕ)) × IsTextOf input rows
    × IsTooLarge (spot_children rows) Root order items
HasTooManyOf (job.Trial k) order input items =
    IsTooLarge (binomial.children (trial_tree k)) (root_of k) order items
    ⊎ IsTooLarge (spot_children (trial_graph k)) Root order items
HasTooManyOf job.Knap order input items =
    (problem : Problem) × IsKnapText input problem × IsSearchTooLarge problem order items

-- the same of the order's job
abbrev pub HasTooMany : Order → List ℕ → ℕ → Type 0
HasTooMany order = HasTooManyOf order.job order

-- the input is one that the job takes, and the trees of each run of the job have no more nodes than
-- the order's limit
abbrev pub IsWithinLimitOf : Job → Order → List ℕ → Type 0
IsWithinLimitOf (job.Queens n) order input =
    IsWithin (boards_below n) order []
IsWithinLimitOf (job.Uts b0 m q seed) order input =
    IsWithin (binomial.children (tree_of b0 m q seed)) order (root_of seed)
IsWithinLimitOf job.Dist order input =
    (rows : List (List ℕ)) × IsTextOf input rows
    × IsWithin (spot_children rows) order Root
IsWithinLimitOf (job.Trial k) order input =
    IsWithin (binomial.children (trial_tree k)) order (root_of k)
    × IsWithin (spot_children (trial_graph k)) order Root
IsWithinLimitOf job.Knap order input =
    (problem : Problem) × IsKnapText input problem × IsSearchWithin problem order

-- the same of the order's job
abbrev pub IsWithinLimit : Order → List ℕ → Type 0
IsWithinLimit order = IsWithinLimitOf order.job order
