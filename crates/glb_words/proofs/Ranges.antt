-- Every value that is given has no fault, and every number of a job is given.
use Rattle.std.proofs.Common.{◌≡◌, ℕ, ◌+◌, ◌&&◌, Bool, true, false, if◌then◌else◌, refl}
use Rattle.std.proofs.Common.{sym, subst}
use Rattle.std.proofs.Common.{List, [], ◌∷◌, ◌++◌, find, length, Option, Some, None, option_map}
use Rattle.std.proofs.Common.{Result, Ok, Err, codes, rules, leb→le}
use Rattle.std.specs.Prelude.{nat_le}
use Rattle.std.specs.Str.{bytes_eq, all_ascii_digits}
use Rattle.std.specs.List.{list_any}
use Rattle.glb_words.specs.Rules.{Text, FormRule, Number, FieldRule, JobRule, job_rules}
use Rattle.glb_words.specs.Words.{Given, NextRule, Words, Value, ReadingState, is_given}
use Rattle.glb_words.specs.Words.{given_value}
use Rattle.glb_words.specs.Words.{before_equals, has_equals, after_equals, value_fault, keep}
use Rattle.glb_words.specs.Words.{is_flag}
use Rattle.glb_words.specs.Words.{after_option, option_named, after_word, at_end, and_then}
use Rattle.glb_words.specs.Words.{read_from}
use Rattle.glb_words.specs.Words.{read_words, read_job, rule_named, is_number, number_of, start_of}
use Rattle.glb_words.specs.declared.fault.WordKind.{WordKind}
use Rattle.glb_words.specs.declared.fault.WordKind.TheVariants.{Repeated, UnknownOption}
use Rattle.glb_words.specs.declared.fault.WordKind.TheVariants.{OutOfRange, NotNumber}
use Rattle.glb_words.specs.inner.Flags.{flags_of}
use Rattle.glb_words.specs.inner.Ranges.{IsWithin, ValueFits}
use Rattle.glb_words.specs.Settings.{least_of, most_of}
use Rattle.glb_words.proofs.Commands.{read_inner}
use Rattle.glb_words.proofs.TextFacts.{and_left, and_right}
use Rattle.glb_words.proofs.TextFacts.{Each, none, more, each_found, bytes_eq-same}
use Rattle.glb_words.proofs.Standing.{kept}

-- the row of a name in a job's table
abbrev pub row_named : JobRule → Text → Option FieldRule
row_named rule name = find (λ f. bytes_eq f.name name) (rule.numbers ++ rule.options)

-- a row is found by its name
abbrev pub IsFound : JobRule → FieldRule → Type 0
IsFound rule f = row_named rule f.name ≡ Some f

-- each row is found by its name: it computes
pub record Named (rule : JobRule) : Type 0 where
  pub numbers : Each (IsFound rule) rule.numbers
  pub options : Each (IsFound rule) rule.options

-- there is such a row, and the text has no fault for it
abbrev pub IsTaken : Bool → Option FieldRule → Text → Type 0
IsTaken calm None text = ⊥
IsTaken calm (Some f) text = value_fault calm f.form text ≡ None

-- every value that was given is taken by the row of its name
abbrev pub Checked : JobRule → Bool → Given → Type 0
Checked rule calm given = Each (λ g. IsTaken calm (row_named rule g.0) g.1) given

-- one member more
pub each_more : {X : Type 0} (P : X → Type 0) (xs : List X) (y : X) → Each P xs → P y
    → Each P (xs ++ y ∷ [])
each_more P [] y h p = more y [] p none
each_more P (x ∷ xs) y (more _ _ q qs) p = more x (xs ++ y ∷ []) q (each_more P xs y qs p)

module _ (rule : JobRule) (calm : Bool) (named : Named rule) where
  -- what is to come is in the table
  abbrev Fair : NextRule → Type 0
  Fair (Words left) = Each (IsFound rule) left
  Fair (Value s) = IsFound rule s

  -- what was checked stays so where a value is kept
  keeps : (s : FieldRule) (text : Text) (given : Given) (left : List FieldRule) (t : ReadingState)
      → IsFound rule s → Checked rule calm given
      → Each (IsFound rule) left → keep calm s text given left ≡ Ok t
      → Fair t.next × Checked rule calm t.given
  keeps s text given left t kind checked fair h =
      let is = kept (value_fault calm s.form text) _ t h in
      let good : IsTaken calm (row_named rule s.name) text =
      subst (λ o. IsTaken calm o text) (sym kind) is.0 in
      rw (← is.1) (
        fair,
        each_more (λ g. IsTaken calm (row_named rule g.0) g.1) given
            (s.name, text) checked good,
      )

  -- what was checked stays so behind a word at the place of an option
  flag_text : (s : FieldRule) (given : Given) (word : Text) (t : ReadingState) → IsFound rule s
      → Checked rule calm given
      → after_option calm word given (Some s) ≡ Ok t → Fair t.next × Checked rule calm t.given
  flag_text s given word t kind checked h = go (is_flag s.form) (has_equals word)
      (is_given s.name given) h
    where
      go : (a b c : Bool)
          → (if a && b then Err UnknownOption else
          (if c then Err Repeated else
          (if a then keep calm s (codes "true") given [] else
          (if b then keep calm s (after_equals word) given [] else Ok
          (record { next = Value s; given = given }))))) ≡ Ok t
          → Fair t.next × Checked rule calm t.given
      go true true c h = absurd (cc h)
      go true false true h = absurd (cc h)
      go false b true h = absurd (cc h)
      go true false false h = keeps s (codes "true") given [] t kind checked none h
      go false true false h = keeps s (after_equals word) given [] t kind checked none h
      go false false false h =
          let is : record { next = Value s; given = given } ≡ t = cc h in
          rw (← is) (kind, checked)

  -- what was checked stays so behind each word
  steps : (stage : NextRule) (given : Given) (word : Text) (t : ReadingState) → Fair stage
      → Checked rule calm given
      → after_word rule calm stage given word ≡ Ok t → Fair t.next × Checked rule calm t.given
  steps (Words (s ∷ left)) given word t (more _ _ kind fair) checked h =
      keeps s word given left t kind checked fair h
  steps (Words []) given word t fair checked h = go (option_named rule.options word) refl h
    where
      go : (o : Option FieldRule) → option_named rule.options word ≡ o
          → after_option calm word given o ≡ Ok t
          → Fair t.next × Checked rule calm t.given
      go None e h = absurd (cc h)
      go (Some s) e h = flag_text s given word t
          (each_found (IsFound rule)
          (λ s. bytes_eq (45 ∷ 45 ∷ s.name) (before_equals word)) rule.options s named.options e).0
          checked h
  steps (Value s) given word t fair checked h = keeps s word given [] t fair checked none h

  -- what was checked stays so to the end of the words
  pub checked_from : (rest : List Text) (at : ℕ) (s : ReadingState) (given : Given) → Fair s.next
      → Checked rule calm s.given → read_from rule calm at s rest ≡ Ok given
      → Checked rule calm given
  unfolding read_from
  checked_from [] at s given fair checked h = ended s.next s.given checked h
    where
      ended : (stage : NextRule) (before : Given) → Checked rule calm before
          → at_end at stage before ≡ Ok given → Checked rule calm given
      ended (Words []) before checked h = let same : before ≡ given = cc h in rw (← same) checked
      ended (Words (s ∷ left)) before checked h = absurd (cc h)
      ended (Value s) before checked h = absurd (cc h)
  checked_from (word ∷ rest) at s given fair checked h =
      go (after_word rule calm s.next s.given word) refl h (λ t. checked_from rest (at + 1) t given)
    where
      go : (r : Result ReadingState WordKind) → after_word rule calm s.next s.given word ≡ r
          → and_then at r (λ t. read_from rule calm (at + 1) t rest) ≡ Ok given
          → ((t : ReadingState) → Fair t.next → Checked rule calm t.given
          → read_from rule calm (at + 1) t rest ≡ Ok given → Checked rule calm given)
          → Checked rule calm given
      go (Err kind) e h later = absurd (cc h)
      go (Ok t) e h later =
          let one = steps s.next s.given word t fair checked e in later t one.0 one.1 h

-- the rows of each job have names of their own
all_named : Each Named job_rules
all_named = search (rules, none, more) depth 40 fits 5000

-- a value that is found is taken by the row of its name
pub checked_value : (rule : JobRule) (calm : Bool) (name text : Text) (given : Given)
    → Checked rule calm given → given_value name given ≡ Some text
    → IsTaken calm (row_named rule name) text
checked_value rule calm name text given h e = go (find (λ g. bytes_eq g.0 name) given) refl e
  where
    go : (o : Option (Text × Text)) → find (λ g. bytes_eq g.0 name) given ≡ o
        → option_map (λ g. g.1) o ≡ Some text → IsTaken calm (row_named rule name) text
    go None f e = absurd (cc e)
    go (Some g) f e =
        let got = each_found (λ g. IsTaken calm (row_named rule g.0) g.1)
        (λ g. bytes_eq g.0 name) given g h f in
        let same : g.0 ≡ name = bytes_eq-same g.0 name got.1 in
        let is : g.1 ≡ text = cc e in
        rw (← same, ← is) got.0

-- the rows of a job that a word names have names of their own
job_named : (word : Text) (rule : JobRule) → rule_named word ≡ Some rule → Named rule
job_named word rule h =
    (each_found Named (λ (r : JobRule). bytes_eq r.name word) job_rules rule all_named h).0

-- all values of words that are read were checked
pub checked : (calm : Bool) (words : List Text) (rule : JobRule) (given : Given)
    → read_words calm words ≡ Ok (rule, given) → Checked rule calm given
checked calm [] rule given h = absurd (cc h)
checked calm (word ∷ rest) rule given h = go (rule_named word) refl h
  where
    go : (o : Option JobRule) → rule_named word ≡ o → read_job calm o rest ≡ Ok (rule, given)
        → Checked rule calm given
    go None e h = absurd (cc h)
    go (Some r) e h =
        let inner = read_inner r (read_from r calm 1 (start_of r) rest) rule given h in
        let named = job_named word r e in
        rw (← inner.0)
        (checked_from r calm named rest 1 (start_of r) given named.numbers none inner.1)

-- a number without a fault is in its range
within : (calm : Bool) (least most default : ℕ) (text : Text)
    → value_fault calm (Number least most default) text ≡ None → IsWithin least most (Some text)
within calm least most default text h = go (is_number text) refl h
  where
    below : (a b : Bool) → (if a && b then None else Some OutOfRange) ≡ None
        → (a ≡ true) × (b ≡ true)
    below true true h = (refl, refl)
    below true false h = absurd (cc h)
    below false b h = absurd (cc h)

    go : (b : Bool) → is_number text ≡ b
        → (if b then (if nat_le least (number_of text) && nat_le (number_of text) most then None
        else Some OutOfRange) else Some NotNumber) ≡ None → IsWithin least most (Some text)
    go false e h = absurd (cc h)
    go true e h =
        let both = below (nat_le least (number_of text)) (nat_le (number_of text) most) h in
        let digits = and_left (all_ascii_digits text) _ e in
        let lengths = and_right (all_ascii_digits text) _ e in
        let some : nat_le 1 (length text) ≡ true = and_left (nat_le 1 (length text)) _ lengths in (
          digits,
          leb→le 1 (length text) (rw some tt),
          leb→le least (number_of text) (rw both.0 tt),
          leb→le (number_of text) most (rw both.1 tt),
        )

-- whether a form is that of a number
abbrev pub is_number_form : FormRule → Bool
is_number_form (Number least most default) = true
is_number_form _ = false

-- the row that is found, if there is one, is this row
abbrev pub IsRow : FieldRule → Option FieldRule → Type 0
IsRow f None = Unit {0}
IsRow f (Some g) = g ≡ f

-- the row is a number of the table, or no row of the table has its name: it computes
pub record IsNumber (rule : JobRule) (f : FieldRule) : Type 0 where
  pub row : IsRow f (row_named rule f.name)
  pub form : is_number_form f.form ≡ true
  pub no_flag : list_any (λ name. bytes_eq name f.name) (flags_of rule.options) ≡ false

-- the value of a number's name is in its range
pub given_within : (rule : JobRule) (calm : Bool) (given : Given) (f : FieldRule)
    → Checked rule calm given → IsNumber rule f → ValueFits f (λ name. given_value name given)
given_within rule calm given f h is = of_value (given_value f.name given) refl
  where
    of_form : (form : FormRule) (text : Text) → is_number_form form ≡ true
        → value_fault calm form text ≡ None → IsWithin (least_of form) (most_of form) (Some text)
    of_form (Number least most default) text number e = within calm least most default text e
    of_form _ text number e = absurd (cc number)

    of_row : (o : Option FieldRule) (text : Text) → IsRow f o → IsTaken calm o text
        → IsWithin (least_of f.form) (most_of f.form) (Some text)
    of_row None text row taken = absurd taken
    of_row (Some g) text row taken =
        of_form f.form text is.form
        (subst (λ (r : FieldRule). value_fault calm r.form text ≡ None) row taken)

    of_value : (o : Option Text) → given_value f.name given ≡ o
        → IsWithin (least_of f.form) (most_of f.form) o
    of_value None e = tt
    of_value (Some text) e =
        of_row (row_named rule f.name) text is.row (checked_value rule calm f.name text given h e)

-- what holds of each built job holds of the job that the words name
pub of_job : (P : JobRule → Type 0) → Each P job_rules
    → (calm : Bool) (words : List Text) (rule : JobRule) (given : Given)
    → read_words calm words ≡ Ok (rule, given) → P rule
of_job P all calm [] rule given h = absurd (cc h)
of_job P all calm (word ∷ rest) rule given h = go (rule_named word) refl h
  where
    go : (o : Option JobRule) → rule_named word ≡ o → read_job calm o rest ≡ Ok (rule, given)
        → P rule
    go None e h = absurd (cc h)
    go (Some r) e h =
        let inner = read_inner r (read_from r calm 1 (start_of r) rest) rule given h in
        subst P inner.0 ((each_found P (λ (r : JobRule). bytes_eq r.name word) job_rules r all e).0)
