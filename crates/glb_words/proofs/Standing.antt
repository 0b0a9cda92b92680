-- Where the walk of clap stands while words are read.
use Rattle.std.proofs.Common.{◌≡◌, ℕ, ◌+◌, ◌||◌, Bool, true, false, not, List, []}
use Rattle.std.proofs.Common.{◌∷◌, ◌++◌, ◌∙◌, refl, sym, ap, Option, Some, None, Ok}
use Rattle.std.proofs.Common.{min}
use Rattle.std.specs.Str.{bytes_eq}
use Rattle.clap.specs.Lexer.{usize_max}
use Rattle.clap.specs.Walk.{Row, Walk, idle, option, settled_rows, arg_by_id}
use Rattle.clap.specs.Walk.{arg_by_index, arg_by_long}
use Rattle.clap.specs.Walk.{Rule as ClapRule}
use Rattle.clap.specs.Takes.{settle_passes}
use Rattle.glb_words.specs.Rules.{Text, FormRule, Number, Choice, Flag, FieldRule}
use Rattle.glb_words.specs.Words.{Given, NextRule, Words, Value, ReadingState, is_given}
use Rattle.glb_words.specs.Words.{has_equals, unless}
use Rattle.glb_words.specs.declared.fault.WordKind.{WordKind}
use Rattle.glb_words.proofs.TextFacts.{Each, none, more, NamesOption}
use Rattle.glb_words.proofs.TextFacts.{before_lacks, is_name, is_plain_kind}
use Rattle.glb_words.proofs.ClapFacts.{option_built, flag_built, number_rule, between, held}
use Rattle.glb_words.proofs.ClapFacts.{AreRows}

-- what a form is to clap
abbrev pub built_for : FormRule → Text → ClapRule
built_for (Number least most default) name = option_built name
built_for (Choice names) name = option_built name
built_for Flag name = flag_built name

-- the names of a choice are plain
abbrev pub is_fit : FormRule → Bool
is_fit Flag = true
is_fit (Number least most default) = true
is_fit (Choice names) = is_plain_kind (Choice names)

-- the built command has the option
pub record Served (c : List ClapRule) (s : FieldRule) : Type 0 where
  pub long : arg_by_long c s.name ≡ Some (built_for s.form s.name)
  pub id : arg_by_id c s.name ≡ Some (built_for s.form s.name)
  pub name : is_name s.name ≡ true
  pub fit : is_fit s.form ≡ true

-- the built command has the numbers that are still to come, from a position on
abbrev pub Numbered : List ClapRule → ℕ → List FieldRule → Type 0
Numbered c position [] = Unit {0}
Numbered c position (s ∷ left) = (arg_by_index c position ≡ Some (number_rule position s.name))
    × (arg_by_id c s.name ≡ Some (number_rule position s.name))
    × (is_plain_kind s.form ≡ true)
    × Each (λ t. bytes_eq s.name t.name ≡ false) left
    × Numbered c (min (position + 1) usize_max) left

-- none of the fields was given
abbrev pub Fresh : Given → List FieldRule → Type 0
Fresh given left = Each (λ t. is_given t.name given ≡ false) left

-- clap's walk stands where the reading does
pub data Stands (c : List ClapRule) : NextRule → Given → Walk → Type 0 where
  at_words : (left : List FieldRule) (given : Given) (position : ℕ) (rows : List Row)
      (pending : Option (Text × List Text))
      → settle_passes c false (held rows pending) ≡ true
      → AreRows given (settled_rows c pending rows)
      → Numbered c position left → Fresh given left
      → Stands c (Words left) given (between position rows pending idle)
  at_value : (s : FieldRule) (given : Given) (position : ℕ) (rows : List Row)
      → arg_by_id c s.name ≡ Some (option_built s.name) → is_plain_kind s.form ≡ true
      → is_given s.name given ≡ false → AreRows given rows
      → Stands c (Value s) given (between position rows (Some (s.name, [])) (option s.name))

-- the walk ended well, with the rows of what was given
pub record Ends (c : List ClapRule) (w : Walk) (given : Given) : Type 0 where
  pub passes : settle_passes c false w.held ≡ true
  pub rows : AreRows given (settled_rows c w.held.pending w.held.rows)
  pub stopped : w.stopped ≡ None

-- what is not true is false
pub not_true : (b : Bool) → not b ≡ true → b ≡ false
not_true true h = absurd (cc h)
not_true false h = refl

-- a name alone
pub alone : (name word : Text) → has_equals word ≡ false → NamesOption name word
    → word ≡ 45 ∷ 45 ∷ name
alone name word equals names =
    let no_equals : has_equals names.rest ≡ false = ap has_equals (sym names.is) ∙ equals in
    names.is ∙ ap (λ (r : Text). 45 ∷ 45 ∷ r)
    (sym (before_lacks names.rest no_equals) ∙ names.before)

-- a value was kept
pub kept : (f : Option WordKind) (s t : ReadingState) → unless f s ≡ Ok t → (f ≡ None) × (s ≡ t)
kept None s t h = (refl, cc h)
kept (Some kind) s t h = absurd (cc h)

-- a name that was not given is not given by the value of another
pub given_more : (name other text : Text) (given : Given) → is_given other given ≡ false
    → bytes_eq name other ≡ false → is_given other (given ++ (name, text) ∷ []) ≡ false
given_more name other text [] h e = simp e
given_more name other text (g ∷ given) h e =
    go (bytes_eq g.0 other) refl h (given_more name other text given)
  where
    go : (b : Bool) → bytes_eq g.0 other ≡ b → (b || is_given other given) ≡ false
        → (is_given other given ≡ false → bytes_eq name other ≡ false
        → is_given other (given ++ (name, text) ∷ []) ≡ false)
        → is_given other (g ∷ given ++ (name, text) ∷ []) ≡ false
    go true first h later = absurd (cc h)
    go false first h later = let rest = later h e in simp (first, rest)

-- fields that were not given are not given by the value of another
pub fresh_more : (name text : Text) (given : Given) (left : List FieldRule) → Fresh given left
    → Each (λ t. bytes_eq name t.name ≡ false) left → Fresh (given ++ (name, text) ∷ []) left
fresh_more name text given [] h e = none
fresh_more name text given (t ∷ left) (more _ _ p ps) (more _ _ q qs) =
    more t left (given_more name t.name text given p q) (fresh_more name text given left ps qs)
