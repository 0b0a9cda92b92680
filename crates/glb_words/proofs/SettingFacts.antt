-- The settings that clap's matches give are those of the values that were read.
use Rattle.std.proofs.Common.{◌≡◌, Bool, false, true, Option, Some, None, refl, sym, ap, subst}
use Rattle.std.proofs.Common.{rules}
use Rattle.std.proofs.Common.{List, [], ◌∷◌, ◌∙◌, Ok}
use Rattle.std.specs.Str.{bytes_eq}
use Rattle.std.specs.List.{list_any}
use Rattle.glb_words.specs.Rules.{Text, FieldRule, JobRule, job_rules, numbers_of, run_numbers}
use Rattle.glb_words.specs.Rules.{run_choices, run_flags}
use Rattle.glb_words.specs.Words.{Given, given_value, read_words}
use Rattle.clap.specs.Words.{HasMatchesOf, first_of, first_value, found_of}
use Rattle.clap.specs.declared.parser.matches.ArgMatches.{ArgMatches}
use Rattle.clap.proofs.WalkLemmas.{first_value-rows}
use Rattle.glb_words.specs.Commands.{app_for, IsFromClap}
use Rattle.glb_words.specs.Settings.{number_or, default_of, number_by, is_on, job_by, settings_by}
use Rattle.glb_words.specs.Settings.{least_of, most_of}
use Rattle.glb_words.specs.inner.Flags.{flags_of, or_false}
use Rattle.glb_words.specs.inner.Ranges.{IsWithin, AllFit, ValuesFit}
use Rattle.glb_words.specs.declared.forms.JobName.{JobName}
use Rattle.glb_words.specs.declared.forms.JobName.TheVariants as job_name
use Rattle.glb_words.proofs.TextFacts.{Each, none, more}
use Rattle.glb_words.proofs.Ranges.{Checked, checked, given_within, of_job, IsNumber}
use Rattle.glb_words.proofs.Commands.{told}

-- whether a name is that of a flag
abbrev is_flag_name : JobRule → Text → Bool
is_flag_name rule name = list_any (λ f. bytes_eq f name) (flags_of rule.options)

-- each number that the settings take is one of the table, or is not in the table, and no choice is
-- a flag: it computes
pub record Tabled (rule : JobRule) : Type 0 where
  pub numbers : Each (IsNumber rule) (numbers_of rule.job)
  pub options : Each (IsNumber rule) run_numbers
  pub choices : Each (λ f. is_flag_name rule f.name ≡ false) run_choices

-- the table of each job that is built has it
all_tabled : Each Tabled job_rules
all_tabled = search (rules, none, more) depth 40 fits 5000

-- the table of a job that words name has what its settings take
tabled : (calm : Bool) (words : List Text) (rule : JobRule) (given : Given)
    → read_words calm words ≡ Ok (rule, given) → Tabled rule
tabled = of_job Tabled all_tabled

-- the values agree with those that were given, but for flags
abbrev pub Agrees : JobRule → Given → (Text → Option Text) → Type 0
Agrees rule given value = (name : Text) → is_flag_name rule name ≡ false
    → value name ≡ given_value name given

-- the values of flags agree too, where one that was not given is off
abbrev pub FlagsAgree : JobRule → Given → (Text → Option Text) → Type 0
FlagsAgree rule given value = (name : Text) → is_flag_name rule name ≡ true
    → value name ≡ or_false (given_value name given)

-- the rows have the same numbers by both
abbrev SameNumbers : List FieldRule → (Text → Option Text) → (Text → Option Text) → Type 0
SameNumbers [] v w = Unit {0}
SameNumbers (f ∷ left) v w = (number_by f v ≡ number_by f w) × SameNumbers left v w

-- the rows have the same values by both
abbrev SameValues : List FieldRule → (Text → Option Text) → (Text → Option Text) → Type 0
SameValues [] v w = Unit {0}
SameValues (f ∷ left) v w = (v f.name ≡ w f.name) × SameValues left v w

-- the rows are on by both, or by none
abbrev SameFlags : List FieldRule → (Text → Option Text) → (Text → Option Text) → Type 0
SameFlags [] v w = Unit {0}
SameFlags (f ∷ left) v w = (is_on (v f.name) ≡ is_on (w f.name)) × SameFlags left v w

-- a flag that is off is not on
on_or_off : (o : Option Text) → is_on (or_false o) ≡ is_on o
on_or_off None = refl
on_or_off (Some text) = refl

-- values with the same numbers give the same job
same_job : (name : JobName) (v w : Text → Option Text) → SameNumbers (numbers_of name) v w
    → job_by name v ≡ job_by name w
same_job job_name.Queens v w same = search (rules, same)
same_job job_name.Uts v w same = search (rules, same)
same_job job_name.Dist v w same = refl
same_job job_name.Trial v w same = search (rules, same)
same_job job_name.Knap v w same = refl

-- values with the same numbers, choices and flags give the same settings
same_settings : (name : JobName) (v w : Text → Option Text) → SameNumbers (numbers_of name) v w
    → SameNumbers run_numbers v w → SameValues run_choices v w → SameFlags run_flags v w
    → settings_by name v ≡ settings_by name w
same_settings name v w numbers options choices flags =
    let job = same_job name v w numbers in
    search (rules, job, options, choices, flags)

module _ (rule : JobRule) (calm : Bool) (given : Given) (value : Text → Option Text)
    (agrees : Agrees rule given value) (flags : FlagsAgree rule given value)
    (check : Checked rule calm given) where
  -- the values of numbers are in their ranges
  all_fit : (fs : List FieldRule) → Each (IsNumber rule) fs → AllFit fs value
  all_fit [] none = tt
  all_fit (f ∷ left) (more _ _ is rest) = (
    subst (IsWithin (least_of f.form) (most_of f.form)) (sym (agrees f.name is.no_flag))
        (given_within rule calm given f check is),
    all_fit left rest,
  )

  -- the numbers are those that were given
  same_numbers : (fs : List FieldRule) → Each (IsNumber rule) fs
      → SameNumbers fs value (λ name. given_value name given)
  same_numbers [] none = tt
  same_numbers (f ∷ left) (more _ _ is rest) = (
    ap (number_or (default_of f.form)) (agrees f.name is.no_flag),
    same_numbers left rest,
  )

  -- the choices are those that were given
  same_values : (fs : List FieldRule) → Each (λ f. is_flag_name rule f.name ≡ false) fs
      → SameValues fs value (λ name. given_value name given)
  same_values [] none = tt
  same_values (f ∷ left) (more _ _ no_flag rest) = (agrees f.name no_flag, same_values left rest)

  -- the flags are on where they were given
  same_flags : (fs : List FieldRule) → SameFlags fs value (λ name. given_value name given)
  same_flags [] = tt
  same_flags (f ∷ left) = (go (is_flag_name rule f.name) refl, same_flags left)
    where
      go : (b : Bool) → is_flag_name rule f.name ≡ b
          → is_on (value f.name) ≡ is_on (given_value f.name given)
      go true e = ap is_on (flags f.name e) ∙ on_or_off (given_value f.name given)
      go false e = ap is_on (agrees f.name e)

  -- all numbers of the job and of its options are in their ranges
  values_fit : Tabled rule → ValuesFit rule.job value
  values_fit t = record {
    numbers = all_fit (numbers_of rule.job) t.numbers;
    options = all_fit run_numbers t.options;
  }

  -- the settings are those of what was given
  settings_agree : Tabled rule
      → settings_by rule.job value ≡ settings_by rule.job (λ name. given_value name given)
  settings_agree t =
      same_settings rule.job value (λ name. given_value name given)
      (same_numbers (numbers_of rule.job) t.numbers) (same_numbers run_numbers t.options)
      (same_values run_choices t.choices) (same_flags run_flags)

-- what all matches of words that are read say
module _ (calm : Bool) (words : List Text) (rule : JobRule) (given : Given)
    (read : read_words calm words ≡ Ok (rule, given)) (m : ArgMatches)
    (has : HasMatchesOf (app_for rule) words m) where
  -- the values but for flags are those that were given
  agrees : Agrees rule given (first_value (found_of m))
  agrees name other =
      let t = told calm words rule given read in
      first_value-rows (found_of m) name ∙ ap (first_of name) (has t.simple).0 ∙ t.value name other

  -- the flags are those that were given, and others are off
  flags_agree : FlagsAgree rule given (first_value (found_of m))
  flags_agree name is =
      let t = told calm words rule given read in
      first_value-rows (found_of m) name ∙ ap (first_of name) (has t.simple).0 ∙ t.flag name is

  -- all numbers are in their ranges
  pub matches_fit : ValuesFit rule.job (first_value (found_of m))
  matches_fit =
      values_fit rule calm given (first_value (found_of m)) agrees flags_agree
      (checked calm words rule given read) (tabled calm words rule given read)

  -- the settings are those of what was given
  pub matches_agree : settings_by rule.job (first_value (found_of m))
      ≡ settings_by rule.job (λ name. given_value name given)
  matches_agree =
      settings_agree rule calm given (first_value (found_of m)) agrees flags_agree
      (checked calm words rule given read) (tabled calm words rule given read)

-- clap takes words that are read, and all its matches of them give their settings
pub from_clap : (calm : Bool) (words : List Text) (rule : JobRule) (given : Given)
    → read_words calm words ≡ Ok (rule, given)
    → IsFromClap calm words (settings_by rule.job (λ name. given_value name given))
from_clap calm words rule given read = record {
  rule = rule;
  given = given;
  read = read;
  taken = (told calm words rule given read).taken;
  values = λ m has. sym (matches_agree calm words rule given read m has);
}
