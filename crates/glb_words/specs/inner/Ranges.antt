-- Values that write numbers of the table's ranges.
use Rattle.std.specs.Prelude.{◌≡◌, ◌≤◌, ◌<◌, ℕ, true, List, [], ◌∷◌, length, Option, Some, None}
use Rattle.std.specs.Str.{all_ascii_digits}
use Rattle.glb_words.specs.Rules.{Text, FieldRule, numbers_of, run_numbers}
use Rattle.glb_words.specs.Words.{number_of}
use Rattle.glb_words.specs.Settings.{least_of, most_of}
use Rattle.glb_words.specs.declared.forms.JobName.{JobName}

-- a value, if there is one, writes a number of the range
abbrev pub IsWithin : ℕ → ℕ → Option Text → Type 0
IsWithin least most None = Unit {0}
IsWithin least most (Some text) =
    (all_ascii_digits text ≡ true) × (0 < length text)
    × (least ≤ number_of text) × (number_of text ≤ most)

-- the value of the row's name is in the row's range
abbrev pub ValueFits : FieldRule → (Text → Option Text) → Type 0
ValueFits f value = IsWithin (least_of f.form) (most_of f.form) (value f.name)

-- the same of all rows
abbrev pub AllFit : List FieldRule → (Text → Option Text) → Type 0
AllFit [] value = Unit {0}
AllFit (f ∷ left) value = ValueFits f value × AllFit left value

-- all numbers of the job and of its options are in their ranges
pub record ValuesFit (name : JobName) (value : Text → Option Text) : Type 0 where
  pub numbers : AllFit (numbers_of name) value
  pub options : AllFit run_numbers value
