-- What the words ask for: a job with its numbers, and how it is run.
use Rattle.std.specs.Prelude.{◌≡◌, ◌≢◌, ◌≤◌, ℕ, Bool, true, false, List, if◌then◌else◌, codes}
use Rattle.std.specs.Prelude.{Option, Some, None, Result, Ok, Err}
use Rattle.std.specs.Str.{bytes_eq}
use Rattle.glb_words.specs.Rules.{Text, FormRule, Number, FieldRule, JobRule}
use Rattle.glb_words.specs.Rules.{places_rule, batch_rule, tries_rule, base_rule, seed_rule}
use Rattle.glb_words.specs.Rules.{limit_rule, driver_rule, fabric_rule, stats_rule, spread_rule}
use Rattle.glb_words.specs.Rules.{queens_n_rule, uts_b0_rule, uts_m_rule, uts_q_rule, uts_seed_rule}
use Rattle.glb_words.specs.Rules.{trial_k_rule}
use Rattle.glb_words.specs.Words.{Given, given_value, number_of, read_words}
use Rattle.glb_words.specs.declared.fault.WordFault.{WordFault}
use Rattle.glb_words.specs.declared.forms.JobName.{JobName}
use Rattle.glb_words.specs.declared.forms.JobName.TheVariants as job_name
use Rattle.glb_words.specs.declared.settings.Job.{Job}
use Rattle.glb_words.specs.declared.settings.Job.TheVariants as job
use Rattle.glb_words.specs.declared.settings.Driver.{Driver}
use Rattle.glb_words.specs.declared.settings.Driver.TheVariants as driver
use Rattle.glb_words.specs.declared.settings.FabricKind.{FabricKind}
use Rattle.glb_words.specs.declared.settings.FabricKind.TheVariants as fabric_kind
use Rattle.glb_words.specs.declared.settings.Settings.{Settings}

-- the least number of a form
abbrev pub least_of : FormRule → ℕ
least_of (Number least most default) = least
least_of _ = 0

-- the greatest number of a form
abbrev pub most_of : FormRule → ℕ
most_of (Number least most default) = most
most_of _ = 0

-- the number of a form that stands for one that was not given
abbrev pub default_of : FormRule → ℕ
default_of (Number least most default) = default
default_of _ = 0

-- the number of a value, or the default
abbrev pub number_or : ℕ → Option Text → ℕ
number_or default None = default
number_or default (Some text) = number_of text

-- the number of a row, out of the value of each name
abbrev pub number_by : FieldRule → (Text → Option Text) → ℕ
number_by f value = number_or (default_of f.form) (value f.name)

-- the driver that a value names; without a value it is that of one bag
abbrev pub driver_or_one : Option Text → Driver
driver_or_one None = driver.One
driver_or_one (Some text) =
    if bytes_eq text (codes "turns") then driver.Turns
    else (if bytes_eq text (codes "threads") then driver.Threads else driver.One)

-- the fabric that a value names; without a value it is that of cells
abbrev pub fabric_or_cells : Option Text → FabricKind
fabric_or_cells None = fabric_kind.Cells
fabric_or_cells (Some text) =
    if bytes_eq text (codes "inbox") then fabric_kind.Inbox else fabric_kind.Cells

-- whether a flag was given
abbrev pub is_on : Option Text → Bool
is_on None = false
is_on (Some text) = bytes_eq text (codes "true")

-- the job with its numbers; these are always given
abbrev pub job_by : JobName → (Text → Option Text) → Job
job_by job_name.Queens value = job.Queens (number_by queens_n_rule value)
job_by job_name.Uts value =
    job.Uts (number_by uts_b0_rule value) (number_by uts_m_rule value)
    (number_by uts_q_rule value) (number_by uts_seed_rule value)
job_by job_name.Dist value = job.Dist
job_by job_name.Trial value = job.Trial (number_by trial_k_rule value)
job_by job_name.Knap value = job.Knap

-- the settings, out of the value of each name
abbrev pub settings_by : JobName → (Text → Option Text) → Settings
settings_by name value = record {
  job = job_by name value;
  places = number_by places_rule value;
  batch = number_by batch_rule value;
  tries = number_by tries_rule value;
  base = number_by base_rule value;
  seed = number_by seed_rule value;
  limit = number_by limit_rule value;
  driver = driver_or_one (value driver_rule.name);
  fabric = fabric_or_cells (value fabric_rule.name);
  stats = is_on (value stats_rule.name);
  spread = is_on (value spread_rule.name);
}

-- the settings of words that were read, or the fault of others
abbrev pub settings_or_fault : Result (JobRule × Given) WordFault → Result Settings WordFault
settings_or_fault (Ok read) = Ok (settings_by read.0.job (λ name. given_value name read.1))
settings_or_fault (Err fault) = Err fault

-- the settings that the words give, or their first fault
abbrev pub read_settings : Bool → List Text → Result Settings WordFault
read_settings calm words = settings_or_fault (read_words calm words)

-- a calm reading takes no threads
abbrev pub IsCalmIf : Bool → Driver → Type 0
IsCalmIf calm d = calm ≡ true → d ≢ driver.Threads

-- the number is in the range of the row
abbrev pub IsIn : FieldRule → ℕ → Type 0
IsIn f n = (least_of f.form ≤ n) × (n ≤ most_of f.form)

-- the numbers of a job are those of the table
abbrev pub JobFits : Job → Type 0
JobFits (job.Queens n) = IsIn queens_n_rule n
JobFits (job.Uts b0 m q seed) =
    IsIn uts_b0_rule b0 × IsIn uts_m_rule m × IsIn uts_q_rule q × IsIn uts_seed_rule seed
JobFits job.Dist = Unit {0}
JobFits (job.Trial k) = IsIn trial_k_rule k
JobFits job.Knap = Unit {0}

-- all numbers of the settings are in the ranges of the table
pub record SettingsFit (s : Settings) : Type 0 where
  pub job : JobFits s.job
  pub places : IsIn places_rule s.places
  pub batch : IsIn batch_rule s.batch
  pub tries : IsIn tries_rule s.tries
  pub base : IsIn base_rule s.base
  pub seed : IsIn seed_rule s.seed
  pub limit : IsIn limit_rule s.limit
