-- clap takes the words that are read without a fault, and finds in them what was given.
use Rattle.std.proofs.Common.{◌≡◌, ℕ, ◌+◌, Bool, true, false, if◌then◌else◌, List, []}
use Rattle.std.proofs.Common.{◌∷◌, ◌++◌, ◌∙◌, refl, sym, ap, Option, Some, None, Result, Ok, Err}
use Rattle.std.proofs.Common.{fold, eqb, codes, min}
use Rattle.std.specs.Str.{bytes_eq}
use Rattle.clap.specs.Lexer.{usize_max}
use Rattle.clap.specs.Walk.{Row, Walk, idle, option, walked, settled_rows, has_row, arg_by_id}
use Rattle.clap.specs.Walk.{arg_by_long, used, walk_from, nothing_held}
use Rattle.clap.specs.Simple.{Shape}
use Rattle.clap.specs.Takes.{walk_passes, turn_passes, settle_passes}
use Rattle.glb_words.specs.Rules.{Text, FormRule, Number, Choice, Flag, FieldRule, JobRule}
use Rattle.glb_words.specs.Rules.{field_rule}
use Rattle.glb_words.specs.Words.{Given, NextRule, Words, Value, ReadingState, is_given}
use Rattle.glb_words.specs.Words.{before_equals, has_equals, after_equals, value_fault}
use Rattle.glb_words.specs.Words.{keep, after_option, option_named, after_word, at_end, and_then}
use Rattle.glb_words.specs.Words.{read_from, start_of}
use Rattle.glb_words.specs.declared.fault.WordKind.{WordKind}
use Rattle.glb_words.specs.declared.fault.WordKind.TheVariants.{Repeated, UnknownOption}
use Rattle.glb_words.proofs.TextFacts.{Each, none, more, each_found, NamesOption, names_option}
use Rattle.glb_words.proofs.TextFacts.{before_lacks, after_dashes, is_plain, is_name, is_plain_kind}
use Rattle.glb_words.proofs.TextFacts.{plain_value}
use Rattle.glb_words.proofs.ClapFacts.{option_built, flag_built, number_rule, between, held}
use Rattle.glb_words.proofs.ClapFacts.{AreRows, value_row}
use Rattle.glb_words.proofs.ClapFacts.{are_rows_has, are_rows_more, option_added, number_added}
use Rattle.glb_words.proofs.ClapFacts.{flag_added}
use Rattle.glb_words.proofs.ClapFacts.{option_walked, option_passes, value_walked, value_passes}
use Rattle.glb_words.proofs.ClapFacts.{joined_walked, joined_passes, flag_walked, flag_passes}
use Rattle.glb_words.proofs.ClapFacts.{number_walked, number_passes, option_settles, number_settles}
use Rattle.glb_words.proofs.Standing.{Served, Numbered, Fresh, Stands, Ends, at_words, at_value}
use Rattle.glb_words.proofs.Standing.{not_true, alone, kept, fresh_more}

module _ (top : Shape) (plain : top.args_override_self ≡ false) (rule : JobRule) (calm : Bool)
    (served : Each (Served top.rules) rule.options) where
  -- a word that is read is taken, and the walk stands where the reading does
  abbrev Steps : NextRule → Given → Walk → Text → Type 0
  Steps stage given w word = (t : ReadingState) → after_word rule calm stage given word ≡ Ok t
      → (turn_passes top [] w word ≡ true)
      × Stands top.rules t.next t.given (walked top.rules [] w word)

  -- the same of all words
  pub walks :
      ((stage : NextRule) (given : Given) (w : Walk) (word : Text) → Stands top.rules stage given w
      → Steps stage given w word)
      → (rest : List Text) (at : ℕ) (s : ReadingState) (w : Walk) (given : Given)
      → Stands top.rules s.next s.given w
      → read_from rule calm at s rest ≡ Ok given
      → (walk_passes top [] w rest ≡ true)
      × Ends top.rules (fold (walked top.rules []) w rest) given
  unfolding walk_passes read_from
  walks step [] at s w given stands h = (refl, ended s.next s.given w stands h)
    where
      ended : (stage : NextRule) (before : Given) (w : Walk) → Stands top.rules stage before w
          → at_end at stage before ≡ Ok given → Ends top.rules w given
      ended _ _ _ (at_words [] before position rows pending passes are numbered fresh) h =
          let same : before ≡ given = cc h
          in record { passes = passes; rows = rw (← same) are; stopped = refl }
      ended _ _ _ (at_words (s ∷ left) before position rows pending passes are numbered fresh) h =
          absurd (cc h)
      ended _ _ _ (at_value s before position rows known fit fresh are) h = absurd (cc h)
  walks step (word ∷ rest) at s w given stands h =
      go (after_word rule calm s.next s.given word) refl h
      (λ t. walks step rest (at + 1) t (walked top.rules [] w word) given)
    where
      go : (r : Result ReadingState WordKind) → after_word rule calm s.next s.given word ≡ r
          → and_then at r (λ t. read_from rule calm (at + 1) t rest) ≡ Ok given
          → ((t : ReadingState) → Stands top.rules t.next t.given (walked top.rules [] w word)
          → read_from rule calm (at + 1) t rest ≡ Ok given
          → (walk_passes top [] (walked top.rules [] w word) rest ≡ true)
          × Ends top.rules (fold (walked top.rules []) (walked top.rules [] w word) rest) given)
          → (walk_passes top [] w (word ∷ rest) ≡ true)
          × Ends top.rules (fold (walked top.rules []) w (word ∷ rest)) given
      go (Err kind) e h later = absurd (cc h)
      go (Ok t) e h later =
          let one = step s.next s.given w word stands t e in
          let others = later t one.1 h in
          let turn = one.0 in
          let tail = others.0 in
          (simp (turn, tail), others.1)

  -- a number
  number_step : (s : FieldRule) (left : List FieldRule) (given : Given) (position : ℕ)
      (rows : List Row)
      (pending : Option (Text × List Text)) (word : Text)
      → settle_passes top.rules false (held rows pending) ≡ true
      → AreRows given (settled_rows top.rules pending rows)
      → Numbered top.rules position (s ∷ left) → Fresh given (s ∷ left) → is_plain word ≡ true
      → (turn_passes top [] (between position rows pending idle) word ≡ true)
      × Stands top.rules (Words left) (given ++ (s.name, word) ∷ [])
      (walked top.rules [] (between position rows pending idle) word)
  number_step s left given position rows pending [] passes are numbered fresh no_dash =
      absurd (cc no_dash)
  number_step s left given position rows pending (d ∷ ds) passes are numbered
      (more _ _ new fresh) no_dash =
      let dash : eqb d 45 ≡ false = not_true (eqb d 45) no_dash in
      let settled = settled_rows top.rules pending rows in
      let no_row : has_row s.name settled ≡ false = are_rows_has s.name given settled are ∙ new in
      let by_id = numbered.1 in
      let then_rows : settled_rows top.rules (Some (s.name, (d ∷ ds) ∷ [])) settled ≡ settled
      ++ value_row (number_rule position s.name) (d ∷ ds) ∷ [] =
      simp by_id (number_added s.name (d ∷ ds) position settled no_row) in
      let now : AreRows (given ++ (s.name, d ∷ ds) ∷ [])
      (settled_rows top.rules (Some (s.name, (d ∷ ds) ∷ [])) settled) =
      rw then_rows (are_rows_more given settled s.name (d ∷ ds)
      (value_row (number_rule position s.name) (d ∷ ds)) are refl refl) in (
        number_passes top plain d ds s.name position rows pending dash numbered.0 passes,
        rw (number_walked top plain d ds s.name position rows pending dash numbered.0)
            (at_words left (given ++ (s.name, d ∷ ds) ∷ []) (min (position + 1) usize_max) settled
            (Some (s.name, (d ∷ ds) ∷ []))
            (number_settles top plain s.name (d ∷ ds) position settled by_id no_row) now
            numbered.4 (fresh_more s.name (d ∷ ds) given left fresh numbered.3)),
      )

  -- the value of an option, as a word of its own
  value_step : (s : FieldRule) (given : Given) (position : ℕ) (rows : List Row) (word : Text)
      → arg_by_id top.rules s.name ≡ Some (option_built s.name) → is_given s.name given ≡ false
      → AreRows given rows → is_plain word ≡ true
      → (turn_passes top [] (between position rows (Some (s.name, [])) (option s.name)) word ≡ true)
      × Stands top.rules (Words []) (given ++ (s.name, word) ∷ [])
      (walked top.rules [] (between position rows (Some (s.name, [])) (option s.name)) word)
  value_step s given position rows [] known new are no_dash = absurd (cc no_dash)
  value_step s given position rows (d ∷ ds) known new are no_dash =
      let dash : eqb d 45 ≡ false = not_true (eqb d 45) no_dash in
      let no_row : has_row s.name rows ≡ false = are_rows_has s.name given rows are ∙ new in
      let then_rows : settled_rows top.rules (Some (s.name, (d ∷ ds) ∷ [])) rows ≡ rows
      ++ value_row (option_built s.name) (d ∷ ds) ∷ [] =
      simp known (option_added s.name (d ∷ ds) rows no_row) in
      let now : AreRows (given ++ (s.name, d ∷ ds) ∷ [])
      (settled_rows top.rules (Some (s.name, (d ∷ ds) ∷ [])) rows) =
      rw then_rows
      (are_rows_more given rows s.name (d ∷ ds) (value_row (option_built s.name) (d ∷ ds))
      are refl refl) in (
        value_passes top plain s.name position rows d ds dash known,
        rw (value_walked top plain s.name position rows d ds dash known)
            (at_words [] (given ++ (s.name, d ∷ ds) ∷ []) position rows
            (Some (s.name, (d ∷ ds) ∷ []))
            (option_settles top plain s.name (d ∷ ds) rows known no_row) now tt none),
      )

  -- the three forms of an option: its name alone, with its value, and a flag
  alone_step : (s : FieldRule) (given : Given) (position : ℕ) (rows : List Row)
      (pending : Option (Text × List Text)) (word : Text)
      → settle_passes top.rules false (held rows pending) ≡ true
      → AreRows given (settled_rows top.rules pending rows)
      → is_plain_kind s.form ≡ true → is_given s.name given ≡ false → has_equals word ≡ false
      → arg_by_long top.rules s.name ≡ Some (option_built s.name)
      → arg_by_id top.rules s.name ≡ Some (option_built s.name)
      → is_name s.name ≡ true → NamesOption s.name word
      → (turn_passes top [] (between position rows pending idle) word ≡ true)
      × Stands top.rules (Value s) given
      (walked top.rules [] (between position rows pending idle) word)
  alone_step s given position rows pending word passes are fit new equals long id name names =
      let is_word : word ≡ 45 ∷ 45 ∷ s.name = alone s.name word equals names in
      let step = on_name s.name name long in
      rw is_word (
        step.0,
        rw step.1 (at_value s given position (settled_rows top.rules pending rows) id fit new are),
      )
    where
      on_name : (n : Text) → is_name n ≡ true → arg_by_long top.rules n ≡ Some (option_built n)
          → (turn_passes top [] (between position rows pending idle) (45 ∷ 45 ∷ n) ≡ true)
          × (walked top.rules [] (between position rows pending idle) (45 ∷ 45 ∷ n)
          ≡ between position
          (settled_rows top.rules pending rows) (Some (n, [])) (option n))
      on_name [] h long = absurd (cc h)
      on_name (n ∷ ns) h long =
          let no_equals : has_equals (n ∷ ns) ≡ false = not_true (has_equals (n ∷ ns)) h in
          let before = before_lacks (n ∷ ns) no_equals in (
            option_passes top plain n ns position rows pending before no_equals long passes,
            option_walked top plain n ns position rows pending before no_equals long,
          )

  -- a flag
  flag_step : (s : FieldRule) (given : Given) (position : ℕ) (rows : List Row)
      (pending : Option (Text × List Text)) (word : Text)
      → settle_passes top.rules false (held rows pending) ≡ true
      → AreRows given (settled_rows top.rules pending rows)
      → is_given s.name given ≡ false → has_equals word ≡ false
      → arg_by_long top.rules s.name ≡ Some (flag_built s.name)
      → is_name s.name ≡ true → NamesOption s.name word
      → (turn_passes top [] (between position rows pending idle) word ≡ true)
      × Stands top.rules (Words []) (given ++ (s.name, codes "true") ∷ [])
      (walked top.rules [] (between position rows pending idle) word)
  flag_step s given position rows pending word passes are new equals long name names =
      let settled = settled_rows top.rules pending rows in
      let no_row : has_row s.name settled ≡ false = are_rows_has s.name given settled are ∙ new in
      let is_word : word ≡ 45 ∷ 45 ∷ s.name = alone s.name word equals names in
      let step = on_name s.name name long no_row in
      let now : AreRows (given ++ (s.name, codes "true") ∷ [])
      (settled_rows top.rules None (used (flag_built s.name) [] settled)) =
      rw (flag_added s.name settled no_row)
      (are_rows_more given settled s.name (codes "true")
      (value_row (flag_built s.name) (codes "true")) are refl refl) in
      rw is_word (
        step.0,
        rw step.1 (at_words [] (given ++ (s.name, codes "true") ∷ []) position
            (used (flag_built s.name) [] settled) None refl now tt none),
      )
    where
      on_name : (n : Text) → is_name n ≡ true → arg_by_long top.rules n ≡ Some (flag_built n)
          → has_row n (settled_rows top.rules pending rows) ≡ false
          → (turn_passes top [] (between position rows pending idle) (45 ∷ 45 ∷ n) ≡ true)
          × (walked top.rules [] (between position rows pending idle) (45 ∷ 45 ∷ n)
          ≡ between position
          (used (flag_built n) [] (settled_rows top.rules pending rows)) None idle)
      on_name [] h long fresh = absurd (cc h)
      on_name (n ∷ ns) h long fresh =
          let no_equals : has_equals (n ∷ ns) ≡ false = not_true (has_equals (n ∷ ns)) h in
          let before = before_lacks (n ∷ ns) no_equals in (
            flag_passes top plain n ns position rows pending before no_equals long passes fresh,
            flag_walked top plain n ns position rows pending before no_equals long,
          )

  -- the name of an option with its value
  joined_step : (s : FieldRule) (given : Given) (position : ℕ) (rows : List Row)
      (pending : Option (Text × List Text)) (word : Text)
      → settle_passes top.rules false (held rows pending) ≡ true
      → AreRows given (settled_rows top.rules pending rows)
      → is_given s.name given ≡ false → has_equals word ≡ true
      → arg_by_long top.rules s.name ≡ Some (option_built s.name)
      → is_name s.name ≡ true → NamesOption s.name word
      → (turn_passes top [] (between position rows pending idle) word ≡ true)
      × Stands top.rules (Words []) (given ++ (s.name, after_equals word) ∷ [])
      (walked top.rules [] (between position rows pending idle) word)
  joined_step s given position rows pending word passes are new equals long name names =
      let settled = settled_rows top.rules pending rows in
      let no_row : has_row s.name settled ≡ false = are_rows_has s.name given settled are ∙ new in
      let text = after_equals word in
      let step = on_rest s.name name names.rest names.before
      (ap has_equals (sym names.is) ∙ equals) long
      no_row in
      let same : after_equals names.rest ≡ text = sym (after_dashes names.rest)
      ∙ ap after_equals (sym names.is) in
      let now : AreRows (given ++ (s.name, text) ∷ [])
      (settled_rows top.rules None (used (option_built s.name) (text ∷ []) settled)) =
      rw (option_added s.name text settled no_row)
      (are_rows_more given settled s.name text (value_row (option_built s.name) text) are refl refl)
      in (
        ap (λ w. turn_passes top [] (between position rows pending idle) w) names.is ∙ step.0,
        rw (
          ap (λ w. walked top.rules [] (between position rows pending idle) w) names.is
              ∙ step.1,
          same,
        )
            (at_words [] (given ++ (s.name, text) ∷ []) position
            (used (option_built s.name) (text ∷ []) settled) None refl now tt none),
      )
    where
      on_rest : (n : Text) → is_name n ≡ true → (rest : Text) → before_equals rest ≡ n
          → has_equals rest ≡ true → arg_by_long top.rules n ≡ Some (option_built n)
          → has_row n (settled_rows top.rules pending rows) ≡ false
          → (turn_passes top [] (between position rows pending idle) (45 ∷ 45 ∷ rest) ≡ true)
          × (walked top.rules [] (between position rows pending idle) (45 ∷ 45 ∷ rest)
          ≡ between position
          (used (option_built n) (after_equals rest ∷ [])
          (settled_rows top.rules pending rows)) None idle)
      on_rest n h [] before equals long fresh = absurd (cc equals)
      on_rest n h (r ∷ rest) before equals long fresh = (
        joined_passes top plain r rest n position rows pending before equals long passes fresh,
        joined_walked top plain r rest n position rows pending before equals long,
      )

  -- an option that takes a value
  valued : (s : FieldRule) (given : Given) (position : ℕ) (rows : List Row)
      (pending : Option (Text × List Text)) (word : Text) (t : ReadingState)
      → settle_passes top.rules false (held rows pending) ≡ true
      → AreRows given (settled_rows top.rules pending rows)
      → is_plain_kind s.form ≡ true
      → arg_by_long top.rules s.name ≡ Some (option_built s.name)
      → arg_by_id top.rules s.name ≡ Some (option_built s.name)
      → is_name s.name ≡ true → NamesOption s.name word
      → (if is_given s.name given then Err Repeated else
      (if has_equals word then keep calm s (after_equals word) given [] else Ok
      (record { next = Value s; given = given }))) ≡ Ok t
      → (turn_passes top [] (between position rows pending idle) word ≡ true)
      × Stands top.rules t.next t.given
      (walked top.rules [] (between position rows pending idle) word)
  valued s given position rows pending word t passes are fit long id name names h =
      go (is_given s.name given) (has_equals word) refl refl h
    where
      go : (a b : Bool) → is_given s.name given ≡ a → has_equals word ≡ b
          → (if a then Err Repeated else
          (if b then keep calm s (after_equals word) given [] else Ok
          (record { next = Value s; given = given }))) ≡ Ok t
          → (turn_passes top [] (between position rows pending idle) word ≡ true)
          × Stands top.rules t.next t.given
          (walked top.rules [] (between position rows pending idle) word)
      go true b e f h = absurd (cc h)
      go false true e f h =
          let is = kept (value_fault calm s.form (after_equals word)) _ t h in
          rw (← is.1)
          (joined_step s given position rows pending word passes are e f long name names)
      go false false e f h =
          let is : record { next = Value s; given = given } ≡ t = cc h in
          rw (← is)
          (alone_step s given position rows pending word passes are fit e f long id name names)

  -- a flag, or the fault of its word
  flagged : (s : FieldRule) (given : Given) (position : ℕ) (rows : List Row)
      (pending : Option (Text × List Text)) (word : Text) (t : ReadingState)
      → settle_passes top.rules false (held rows pending) ≡ true
      → AreRows given (settled_rows top.rules pending rows)
      → arg_by_long top.rules s.name ≡ Some (flag_built s.name)
      → is_name s.name ≡ true → NamesOption s.name word
      → (if has_equals word then Err UnknownOption else
      (if is_given s.name given then Err Repeated else keep calm s (codes "true") given [])) ≡ Ok t
      → (turn_passes top [] (between position rows pending idle) word ≡ true)
      × Stands top.rules t.next t.given
      (walked top.rules [] (between position rows pending idle) word)
  flagged s given position rows pending word t passes are long name names h =
      go (has_equals word) (is_given s.name given) refl refl h
    where
      go : (a b : Bool) → has_equals word ≡ a → is_given s.name given ≡ b
          → (if a then Err UnknownOption else
          (if b then Err Repeated else keep calm s (codes "true") given [])) ≡ Ok t
          → (turn_passes top [] (between position rows pending idle) word ≡ true)
          × Stands top.rules t.next t.given
          (walked top.rules [] (between position rows pending idle) word)
      go true b e f h = absurd (cc h)
      go false true e f h = absurd (cc h)
      go false false e f h =
          let is = kept (value_fault calm s.form (codes "true")) _ t h in
          rw (← is.1) (flag_step s given position rows pending word passes are f e long name names)

  -- an option by its form
  by_kind : (name : Text) (kind : FormRule) (given : Given) (position : ℕ) (rows : List Row)
      (pending : Option (Text × List Text)) (word : Text) (t : ReadingState)
      → settle_passes top.rules false (held rows pending) ≡ true
      → AreRows given (settled_rows top.rules pending rows)
      → Served top.rules (field_rule name kind) → NamesOption name word
      → after_option calm word given (Some (field_rule name kind)) ≡ Ok t
      → (turn_passes top [] (between position rows pending idle) word ≡ true)
      × Stands top.rules t.next t.given
      (walked top.rules [] (between position rows pending idle) word)
  by_kind name (Number least most default) given position rows pending word t passes are has
      names h =
      valued (field_rule name (Number least most default)) given position rows pending word t passes
      are refl has.long has.id has.name names h
  by_kind name (Choice choices) given position rows pending word t passes are has names h =
      valued (field_rule name (Choice choices)) given position rows pending word t passes are
      has.fit has.long has.id has.name names h
  by_kind name Flag given position rows pending word t passes are has names h =
      flagged (field_rule name Flag) given position rows pending word t passes are has.long has.name
      names h

  -- one word more
  step : (stage : NextRule) (given : Given) (w : Walk) (word : Text)
      → Stands top.rules stage given w
      → Steps stage given w word
  step _ _ _ word (at_words (s ∷ left) given position rows pending passes are numbered fresh) t h =
      let is = kept (value_fault calm s.form word) _ t h in
      rw (← is.1) (number_step s left given position rows pending word passes are numbered fresh
      (plain_value calm s.form word numbered.2 is.0))
  step _ _ _ word (at_words [] given position rows pending passes are numbered fresh) t h =
      go (option_named rule.options word) refl h
    where
      go : (o : Option FieldRule) → option_named rule.options word ≡ o
          → after_option calm word given o ≡ Ok t
          → (turn_passes top [] (between position rows pending idle) word ≡ true)
          × Stands top.rules t.next t.given
          (walked top.rules [] (between position rows pending idle) word)
      go None e h = absurd (cc h)
      go (Some s) e h =
          let found = each_found (Served top.rules)
          (λ s. bytes_eq (45 ∷ 45 ∷ s.name) (before_equals word)) rule.options s served e in
          by_kind s.name s.form given position rows pending word t passes are found.0
          (names_option s.name word found.1) h
  step _ _ _ word (at_value s given position rows known fit new are) t h =
      let is = kept (value_fault calm s.form word) _ t h in
      rw (← is.1) (value_step s given position rows word known new are
      (plain_value calm s.form word fit is.0))

  -- the words of a job that are read without a fault are taken, and the walk ends with what was
  -- given
  pub accepted : (rest : List Text) (given : Given) → Numbered top.rules 1 rule.numbers
      → read_from rule calm 1 (start_of rule) rest ≡ Ok given
      → (walk_passes top [] (walk_from nothing_held) rest ≡ true)
      × Ends top.rules (fold (walked top.rules []) (walk_from nothing_held) rest) given
  accepted rest given numbered h =
      walks step rest 1 (start_of rule) (walk_from nothing_held) given
      (at_words rule.numbers [] 1 [] None refl tt numbered (all_fresh rule.numbers)) h
    where
      all_fresh : (left : List FieldRule) → Fresh [] left
      all_fresh [] = none
      all_fresh (s ∷ left) = more s left refl (all_fresh left)
