-- What is left to run once the source was read.
use Rattle.std.specs.Prelude.{◌≡◌, ◌⊎◌, ℕ, List, []}
use Rattle.glb_words.specs.Rules.{Text}
use Rattle.glb_words.specs.Settings.{JobFits}
use Rattle.glb_words.specs.declared.settings.Job.{Job}
use Rattle.glb_words.specs.declared.settings.Job.TheVariants as job
use Rattle.glb_tree.specs.declared.run.RunFault.{RunFault}
use Rattle.glb_queens.specs.Boards.{boards_below}
use Rattle.glb_uts.specs.Binomial as binomial
use Rattle.glb_graph.specs.Reading.{IsTextOf}
use Rattle.glb_graph.specs.Spots.{spot_children}
use Rattle.glb_graph.specs.declared.dist.Spot.TheVariants.{Root}
use Rattle.glb_knap.specs.Packs.{Problem}
use Rattle.glb_run.specs.declared.job.Task.{Task}
use Rattle.glb_run.specs.declared.job.Task.TheVariants as task
use Rattle.glb_run.specs.declared.order.Order.{Order}
use Rattle.glb_run.specs.declared.status.Status.{Status}
use Rattle.glb_run.specs.Trials.{trial_graph}
use Rattle.glb_run.specs.Jobs.{IsQueensReport, IsUtsReport, IsDistReport, IsTrialReport}
use Rattle.glb_run.specs.Jobs.{tree_of, root_of, trial_tree, IsKnapText, IsKnapReport}
use Rattle.glb_run.specs.Streams.{Change}
use Rattle.glb_run.specs.Ends.{HasRead}
use Rattle.glb_run.specs.inner.Stops.{StopsRun, StopsSearch, GivesNoGraph, GivesNoKnap}

-- the task of a job, where the source gave this input
abbrev pub IsTaskOf : Job → List ℕ → Task → Type 0
IsTaskOf (job.Queens n) input t = t ≡ task.Queens n
IsTaskOf (job.Uts b0 m q seed) input t = t ≡ task.Uts b0 m q seed
IsTaskOf job.Dist input t = (rows : List (List ℕ)) × IsTextOf input rows × (t ≡ task.Dist rows)
IsTaskOf (job.Trial k) input t = t ≡ task.Trial k
IsTaskOf job.Knap input t =
    (problem : Problem) × IsKnapText input problem × (t ≡ task.Knap problem)

-- the source was read as the order's job reads it, and this is its task
pub record IsPrepared {S : Type 0} (order : Order) (source : Change S) (t : Task) : Type 0 where
  pub input : List ℕ
  pub read : HasRead order.job input source
  pub task_is : IsTaskOf order.job input t

-- the job reads the source, which gave nothing for it
abbrev pub GivesNone : {S : Type 0} → Job → Change S → Status → Type 0
GivesNone (job.Queens n) source s = ⊥
GivesNone (job.Uts b0 m q seed) source s = ⊥
GivesNone job.Dist source s = GivesNoGraph source s
GivesNone (job.Trial k) source s = ⊥
GivesNone job.Knap source s = GivesNoKnap source s

-- the same of the order's job
abbrev pub IsUnprepared : {S : Type 0} → Order → Change S → Status → Type 0
IsUnprepared order source s = GivesNone order.job source s

-- the numbers of a task are within the limits of its job
abbrev pub TaskFits : Task → Type 0
TaskFits (task.Queens n) = JobFits (job.Queens n)
TaskFits (task.Uts b0 m q seed) = JobFits (job.Uts b0 m q seed)
TaskFits (task.Dist rows) = Unit {0}
TaskFits (task.Trial k) = JobFits (job.Trial k)
TaskFits (task.Knap problem) = Unit {0}

-- the text is the report of the task
abbrev pub IsTaskReport : Task → Order → Text → Type 0
IsTaskReport (task.Queens n) order text = IsQueensReport n order text
IsTaskReport (task.Uts b0 m q seed) order text = IsUtsReport (tree_of b0 m q seed) order text
IsTaskReport (task.Dist rows) order text = IsDistReport rows order text
IsTaskReport (task.Trial k) order text = IsTrialReport k order text
IsTaskReport (task.Knap problem) order text = IsKnapReport problem text

-- the run of a trial ended early, in its tree or in its graph
abbrev pub StopsTrial : ℕ → Order → RunFault → Type 0
StopsTrial k order fault =
    StopsRun (binomial.children (trial_tree k)) (root_of k) order fault
    ⊎ StopsRun (spot_children (trial_graph k)) Root order fault

-- the run of the task ended early
abbrev pub StopsTask : Task → Order → RunFault → Type 0
StopsTask (task.Queens n) order fault = StopsRun (boards_below n) [] order fault
StopsTask (task.Uts b0 m q seed) order fault =
    StopsRun (binomial.children (tree_of b0 m q seed)) (root_of seed) order fault
StopsTask (task.Dist rows) order fault = StopsRun (spot_children rows) Root order fault
StopsTask (task.Trial k) order fault = StopsTrial k order fault
StopsTask (task.Knap problem) order fault = StopsSearch problem order fault
