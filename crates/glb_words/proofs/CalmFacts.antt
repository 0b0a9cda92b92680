-- A calm reading takes no threads.
use Rattle.std.proofs.Common.{◌≡◌, ◌≢◌, ◌&&◌, Bool, true, false, if◌then◌else◌, refl, rules}
use Rattle.std.proofs.Common.{Option, Some, None, Ok, List, codes}
use Rattle.std.specs.Str.{bytes_eq}
use Rattle.std.specs.List.{list_any}
use Rattle.glb_words.specs.Rules.{Text, FormRule, Choice, FieldRule, JobRule, job_rules}
use Rattle.glb_words.specs.Rules.{driver_rule}
use Rattle.glb_words.specs.Words.{Given, given_value, value_fault, read_words}
use Rattle.glb_words.specs.Settings.{driver_or_one}
use Rattle.glb_words.specs.declared.fault.WordKind.TheVariants.{BadChoice, Calm}
use Rattle.glb_words.specs.declared.settings.Driver.TheVariants as driver
use Rattle.glb_words.proofs.TextFacts.{Each, none, more}
use Rattle.glb_words.proofs.Ranges.{row_named, IsTaken, checked, checked_value, of_job}

-- the form is that of a choice
abbrev pub IsChoice : FormRule → Type 0
IsChoice (Choice names) = Unit {0}
IsChoice _ = ⊥

-- the row is there, and is that of a choice
abbrev pub IsChoiceRow : Option FieldRule → Type 0
IsChoiceRow None = ⊥
IsChoiceRow (Some f) = IsChoice f.form

-- the driver has a row in the table of the job, that of a choice
abbrev pub HasDriver : JobRule → Type 0
HasDriver rule = IsChoiceRow (row_named rule driver_rule.name)

-- so it has in the table of each job that is built
all_have_drivers : Each HasDriver job_rules
all_have_drivers = search (rules, none, more) depth 40 fits 5000

-- a choice that calm words may name is not that of threads
no_threads : (known threads turns : Bool)
    → (if known then (if true && threads then Some Calm else None) else Some BadChoice) ≡ None
    → (if turns then driver.Turns else (if threads then driver.Threads else driver.One))
    ≢ driver.Threads
no_threads false threads turns h = absurd (cc h)
no_threads true true turns h = absurd (cc h)
no_threads true false true h = λ e. absurd (cc e)
no_threads true false false h = λ e. absurd (cc e)

-- the driver of a text that a row of a choice takes is not that of threads
of_form : (form : FormRule) (text : Text) → IsChoice form
    → value_fault true form text ≡ None → driver_or_one (Some text) ≢ driver.Threads
of_form (Choice names) text choice taken =
    no_threads (list_any (λ name. bytes_eq name text) names) (bytes_eq text (codes "threads"))
    (bytes_eq text (codes "turns")) taken
of_form _ text choice taken = absurd choice

-- the same of a row
of_row : (o : Option FieldRule) (text : Text) → IsChoiceRow o → IsTaken true o text
    → driver_or_one (Some text) ≢ driver.Threads
of_row None text choice taken = absurd choice
of_row (Some f) text choice taken = of_form f.form text choice taken

-- the driver of calm words is not that of threads
pub calm_driver : (words : List Text) (rule : JobRule) (given : Given)
    → read_words true words ≡ Ok (rule, given)
    → driver_or_one (given_value driver_rule.name given) ≢ driver.Threads
calm_driver words rule given read = go (given_value driver_rule.name given) refl
  where
    go : (o : Option Text) → given_value driver_rule.name given ≡ o
        → driver_or_one o ≢ driver.Threads
    go None e = λ h. absurd (cc h)
    go (Some text) e =
        of_row (row_named rule driver_rule.name) text
        (of_job HasDriver all_have_drivers true words rule given read)
        (checked_value rule true driver_rule.name text given
        (checked true words rule given read) e)

-- the same of words that were read calmly or not
pub calm_if : (calm : Bool) (words : List Text) (rule : JobRule) (given : Given)
    → read_words calm words ≡ Ok (rule, given) → calm ≡ true
    → driver_or_one (given_value driver_rule.name given) ≢ driver.Threads
calm_if true words rule given read is = calm_driver words rule given read
calm_if false words rule given read is = absurd (cc is)
