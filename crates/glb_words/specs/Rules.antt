-- What each job takes, as data: one row for each number, option and flag.
use Rattle.std.specs.Prelude.{ℕ, ◌-◌, ◌^◌, List, [], ◌∷◌, ◌++◌, codes}
use Rattle.glb_words.specs.declared.forms.JobName.{JobName}
use Rattle.glb_words.specs.declared.forms.JobName.TheVariants as job_name

-- a word as its bytes
abbrev pub Text : Type 0
Text = List ℕ

-- what a value may be: a number from the first to the second, and the number that stands for one
-- that was not given; one of some names; or, for a flag, nothing
pub data FormRule : Type 0 where
  Number : ℕ → ℕ → ℕ → FormRule
  Choice : List Text → FormRule
  Flag : FormRule

-- a number of a job, an option or a flag
pub record FieldRule : Type 0 where
  pub name : Text
  pub form : FormRule

-- a job: its name, its numbers in order, and its options
pub record JobRule : Type 0 where
  pub job : JobName
  pub name : Text
  pub numbers : List FieldRule
  pub options : List FieldRule

-- a row of the table
abbrev pub field_rule : Text → FormRule → FieldRule
field_rule name form = record { name = name; form = form }

-- how many places there are
abbrev pub places_rule : FieldRule
places_rule = field_rule (codes "places") (Number 1 64 4)

-- how many items a place takes at once
abbrev pub batch_rule : FieldRule
batch_rule = field_rule (codes "batch") (Number 1 (2 ^ 16) 64)

-- how many random victims a thief asks
abbrev pub tries_rule : FieldRule
tries_rule = field_rule (codes "tries") (Number 0 64 1)

-- the base of the numbers of places in the lifeline graph
abbrev pub base_rule : FieldRule
base_rule = field_rule (codes "base") (Number 2 64 2)

-- the seed of the random victims
abbrev pub seed_rule : FieldRule
seed_rule = field_rule (codes "seed") (Number 0 (2 ^ 64 - 1) 0)

-- how many items a run may take
abbrev pub limit_rule : FieldRule
limit_rule = field_rule (codes "limit") (Number 1 (2 ^ 40) (2 ^ 40))

-- what runs the job
abbrev pub driver_rule : FieldRule
driver_rule = field_rule (codes "driver")
    (Choice (codes "one" ∷ codes "turns" ∷ codes "threads" ∷ []))

-- what the places of a run in threads share
abbrev pub fabric_rule : FieldRule
fabric_rule = field_rule (codes "fabric") (Choice (codes "inbox" ∷ codes "cells" ∷ []))

-- whether the counters of the places are told
abbrev pub stats_rule : FieldRule
stats_rule = field_rule (codes "stats") Flag

-- whether a run starts from the children of the root, at all places
abbrev pub spread_rule : FieldRule
spread_rule = field_rule (codes "spread") Flag

-- the numbers among the options of a job that has a tree
abbrev pub run_numbers : List FieldRule
run_numbers = places_rule ∷ batch_rule ∷ tries_rule ∷ base_rule ∷ seed_rule ∷ limit_rule ∷ []

-- the choices among them
abbrev pub run_choices : List FieldRule
run_choices = driver_rule ∷ fabric_rule ∷ []

-- the flags among them
abbrev pub run_flags : List FieldRule
run_flags = stats_rule ∷ spread_rule ∷ []

-- the options of a job that has a tree
abbrev pub run_options : List FieldRule
run_options = run_numbers ++ run_choices ++ run_flags

-- the options of a job that is a search
abbrev pub search_options : List FieldRule
search_options = places_rule ∷ limit_rule ∷ driver_rule ∷ []

-- how many queens
abbrev pub queens_n_rule : FieldRule
queens_n_rule = field_rule (codes "n") (Number 1 16 1)

-- how many children the root of a binomial tree has
abbrev pub uts_b0_rule : FieldRule
uts_b0_rule = field_rule (codes "b0") (Number 0 100000 0)

-- how many children another node of a binomial tree has, if it has any
abbrev pub uts_m_rule : FieldRule
uts_m_rule = field_rule (codes "m") (Number 0 16 0)

-- how many draws out of 2^31 give a node children
abbrev pub uts_q_rule : FieldRule
uts_q_rule = field_rule (codes "q") (Number 0 (2 ^ 31) 0)

-- the seed of the root, with a name apart from that of the option
abbrev pub uts_seed_rule : FieldRule
uts_seed_rule = field_rule (codes "root_seed") (Number 0 (2 ^ 32 - 1) 0)

-- the number that makes the tree and the graph of a trial
abbrev pub trial_k_rule : FieldRule
trial_k_rule = field_rule (codes "k") (Number 0 (2 ^ 32 - 1) 0)

-- the numbers of a job, in order
abbrev pub numbers_of : JobName → List FieldRule
numbers_of job_name.Queens = queens_n_rule ∷ []
numbers_of job_name.Uts = uts_b0_rule ∷ uts_m_rule ∷ uts_q_rule ∷ uts_seed_rule ∷ []
numbers_of job_name.Dist = []
numbers_of job_name.Trial = trial_k_rule ∷ []
numbers_of job_name.Knap = []

-- placements of n queens
abbrev pub queens_rule : JobRule
queens_rule = record {
  job = job_name.Queens;
  name = codes "queens";
  numbers = numbers_of job_name.Queens;
  options = run_options;
}

-- a binomial tree
abbrev pub uts_rule : JobRule
uts_rule = record {
  job = job_name.Uts;
  name = codes "uts";
  numbers = numbers_of job_name.Uts;
  options = run_options;
}

-- distances in a graph, which the source gives
abbrev pub dist_rule : JobRule
dist_rule = record {
  job = job_name.Dist;
  name = codes "dist";
  numbers = numbers_of job_name.Dist;
  options = run_options;
}

-- a binomial tree and the distances in a graph, both made from one number
abbrev pub trial_rule : JobRule
trial_rule = record {
  job = job_name.Trial;
  name = codes "trial";
  numbers = numbers_of job_name.Trial;
  options = run_options;
}

-- the best choice for a knapsack, which the source gives
abbrev pub knap_rule : JobRule
knap_rule = record {
  job = job_name.Knap;
  name = codes "knap";
  numbers = numbers_of job_name.Knap;
  options = search_options;
}

-- the jobs that are built
abbrev pub job_rules : List JobRule
job_rules = queens_rule ∷ uts_rule ∷ dist_rule ∷ trial_rule ∷ knap_rule ∷ []
