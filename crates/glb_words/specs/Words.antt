-- How the words of a command are read: to the values that they give, or to one fault.
use Rattle.std.specs.Prelude.{ℕ, ◌+◌, ◌==◌, ◌&&◌, Bool, true, false, if◌then◌else◌}
use Rattle.std.specs.Prelude.{List, [], ◌∷◌, ◌++◌, length, map, find, codes, nat_le}
use Rattle.std.specs.Prelude.{Option, Some, None, option_map, Result, Ok, Err, string_bytes, String}
use Rattle.std.specs.List.{list_any, before_first, after_first}
use Rattle.std.specs.Str.{bytes_eq, all_ascii_digits}
use Rattle.std.specs.Str.Parse.{digits_value}
use Rattle.glb_words.specs.Rules.{Text, FormRule, Number, Choice, Flag}
use Rattle.glb_words.specs.Rules.{FieldRule, JobRule, job_rules}
use Rattle.glb_words.specs.declared.fault.WordKind.{WordKind}
use Rattle.glb_words.specs.declared.fault.WordKind.TheVariants.{Missing, UnknownJob, NotNumber}
use Rattle.glb_words.specs.declared.fault.WordKind.TheVariants.{OutOfRange, UnknownOption, Repeated}
use Rattle.glb_words.specs.declared.fault.WordKind.TheVariants.{BadChoice, Calm}
use Rattle.glb_words.specs.declared.fault.WordFault.{WordFault}

-- the words as lists of bytes
abbrev pub texts_of : {A : Type 0} → List (String A) → List Text
texts_of words = map (λ s. string_bytes s) words

-- the form of a number: 1 to 20 digits
abbrev pub is_number : Text → Bool
is_number text = all_ascii_digits text && (nat_le 1 (length text) && nat_le (length text) 20)

-- the number that digits write
abbrev pub number_of : Text → ℕ
number_of text = digits_value 10 text

-- the names and the values that were read, in order
abbrev pub Given : Type 0
Given = List (Text × Text)

-- whether a name was given
abbrev pub is_given : Text → Given → Bool
is_given name given = list_any (λ g. bytes_eq g.0 name) given

-- the value of a name
abbrev pub given_value : Text → Given → Option Text
given_value name given = option_map (λ g. g.1) (find (λ g. bytes_eq g.0 name) given)

-- what is wrong with a value
abbrev pub value_fault : Bool → FormRule → Text → Option WordKind
value_fault calm (Number least most default) text =
    if is_number text
    then (if nat_le least (number_of text) && nat_le (number_of text) most then None
    else Some OutOfRange)
    else Some NotNumber
value_fault calm (Choice names) text =
    if list_any (λ name. bytes_eq name text) names
    then (if calm && bytes_eq text (codes "threads") then Some Calm else None)
    else Some BadChoice
value_fault calm Flag text = None

-- what is read next: the numbers of a job that are still to come and then options, or the value of
-- an option
pub data NextRule : Type 0 where
  Words : List FieldRule → NextRule
  Value : FieldRule → NextRule

-- how far words are read: what is read next, and what was given
pub record ReadingState : Type 0 where
  pub next : NextRule
  pub given : Given

-- the state, unless something is wrong with a value
abbrev pub unless : Option WordKind → ReadingState → Result ReadingState WordKind
unless None state = Ok state
unless (Some kind) state = Err kind

-- a value is kept, unless something is wrong with it
abbrev pub keep : Bool → FieldRule → Text → Given → List FieldRule → Result ReadingState WordKind
keep calm f text given left = unless (value_fault calm f.form text)
    (record { next = Words left; given = given ++ (f.name, text) ∷ [] })

-- what stands before the first `=` (61)
abbrev pub before_equals : Text → Text
before_equals text = before_first (λ b. b == 61) text

-- whether there is a `=`
abbrev pub has_equals : Text → Bool
has_equals text = list_any (λ b. b == 61) text

-- what stands behind the first `=`
abbrev pub after_equals : Text → Text
after_equals text = after_first (λ b. b == 61) text

-- the option or flag whose name is shown, behind two dashes (45)
abbrev pub option_shown : List FieldRule → Text → Option FieldRule
option_shown options shown = find (λ f. bytes_eq (45 ∷ 45 ∷ f.name) shown) options

-- the option or flag that a word names
abbrev pub option_named : List FieldRule → Text → Option FieldRule
option_named options word = option_shown options (before_equals word)

-- whether a form is that of a flag
abbrev pub is_flag : FormRule → Bool
is_flag Flag = true
is_flag _ = false

-- a word at the place of an option
abbrev pub after_option : Bool → Text → Given → Option FieldRule → Result ReadingState WordKind
after_option calm word given None = Err UnknownOption
after_option calm word given (Some f) =
    if is_flag f.form && has_equals word then Err UnknownOption
    else (if is_given f.name given then Err Repeated
    else (if is_flag f.form then keep calm f (codes "true") given []
    else (if has_equals word then keep calm f (after_equals word) given []
    else Ok (record { next = Value f; given = given }))))

-- one more word
abbrev pub after_word : JobRule → Bool → NextRule → Given → Text → Result ReadingState WordKind
after_word rule calm (Words (f ∷ left)) given word = keep calm f word given left
after_word rule calm (Words []) given word =
    after_option calm word given (option_named rule.options word)
after_word rule calm (Value f) given word = keep calm f word given []

-- the words end, where so many were read
abbrev pub at_end : ℕ → NextRule → Given → Result Given WordFault
at_end count (Words []) given = Ok given
at_end count _ given = Err (record { kind = Missing; word = count })

-- the rest is read, unless a word was wrong
abbrev pub and_then : ℕ → Result ReadingState WordKind → (ReadingState → Result Given WordFault)
    → Result Given WordFault
and_then at (Err kind) rest = Err (record { kind = kind; word = at })
and_then at (Ok s) rest = rest s

-- the words from number `at` on
unfoldable pub read_from : JobRule → Bool → ℕ → ReadingState → List Text → Result Given WordFault
read_from rule calm at s [] = at_end at s.next s.given
read_from rule calm at s (word ∷ rest) =
    and_then at (after_word rule calm s.next s.given word)
    (λ t. read_from rule calm (at + 1) t rest)

-- the job that a word names
abbrev pub rule_named : Text → Option JobRule
rule_named word = find (λ r. bytes_eq r.name word) job_rules

-- the state before the words of a job
abbrev pub start_of : JobRule → ReadingState
start_of rule = record { next = Words rule.numbers; given = [] }

-- what was given, with its job
abbrev pub with_rule : JobRule → Result Given WordFault → Result (JobRule × Given) WordFault
with_rule rule (Ok given) = Ok (rule, given)
with_rule rule (Err fault) = Err fault

-- what the words of a job give, if there is the job
abbrev pub read_job : Bool → Option JobRule → List Text → Result (JobRule × Given) WordFault
read_job calm None rest = Err (record { kind = UnknownJob; word = 0 })
read_job calm (Some rule) rest = with_rule rule (read_from rule calm 1 (start_of rule) rest)

-- the job and the values that the words give, or their first fault
abbrev pub read_words : Bool → List Text → Result (JobRule × Given) WordFault
read_words calm [] = Err (record { kind = Missing; word = 0 })
read_words calm (word ∷ rest) = read_job calm (rule_named word) rest
