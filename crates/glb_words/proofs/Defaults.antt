-- What the defaults of flags add to the rows of what was given.
use Rattle.std.proofs.Common.{◌≡◌, ◌||◌, Bool, true, false, if◌then◌else◌, List, [], ◌∷◌}
use Rattle.std.proofs.Common.{◌++◌, ◌∙◌, refl, sym, ap, Some, None, fold}
use Rattle.std.proofs.Common.{filter, codes, slice_get}
use Rattle.std.proofs.Common.{map, subst}
use Rattle.std.specs.Str.{bytes_eq}
use Rattle.std.specs.List.{list_any}
use Rattle.clap.specs.Walk.{Row, has_row, first_of}
use Rattle.clap.specs.Walk.{with_default, default_rows}
use Rattle.clap.specs.Walk.{reading_by, more_values}
use Rattle.clap.specs.Walk.{Rule as ClapRule}
use Rattle.clap.specs.declared.parser.matches.ValueSource.TheVariants.{DefaultValue}
use Rattle.glb_words.specs.Rules.{Text}
use Rattle.glb_words.specs.Words.{Given}
use Rattle.glb_words.specs.inner.Flags.{or_false}
use Rattle.glb_words.proofs.TextFacts.{bytes_eq-refl, bytes_eq-same}
use Rattle.glb_words.proofs.ClapFacts.{flag_built, AreRows, no_row, or_false_left}
use Rattle.glb_words.proofs.ClapFacts.{or_false_right}

-- arguments without a default give no row
abbrev pub has_some : List Text → Bool
has_some [] = false
has_some (d ∷ ds) = true

-- whether an argument has a default
abbrev pub has_default : ClapRule → Bool
has_default a = has_some a.defaults

-- a choice between the same rows is these rows
same_both : (b : Bool) (rows : List Row) → (if b then rows else rows) ≡ rows
same_both true rows = refl
same_both false rows = refl

-- an argument without a default adds no row
pub default_none : (rows : List Row) (a : ClapRule) → has_default a ≡ false
    → with_default rows a ≡ rows
default_none rows a h = of_list a.defaults h
  where
    of_list : (ds : List Text) → has_some ds ≡ false
        → (if has_row a.id rows then rows else default_rows a.id (reading_by a) ds rows) ≡ rows
    of_list [] h = same_both (has_row a.id rows) rows
    of_list (d ∷ ds) h = absurd (cc h)

-- only arguments with a default add rows
pub defaults_only : (rows : List Row) (c : List ClapRule)
    → fold with_default rows c ≡ fold with_default rows (filter has_default c)
defaults_only rows [] = refl
defaults_only rows (a ∷ c) = go (has_default a) refl (λ r. defaults_only r c)
  where
    go : (b : Bool) → has_default a ≡ b
        → ((r : List Row) → fold with_default r c ≡ fold with_default r (filter has_default c))
        → fold with_default rows (a ∷ c) ≡ fold with_default rows (filter has_default (a ∷ c))
    go true e later = simp e (later (with_default rows a))
    go false e later = let same = default_none rows a e in simp (e, same) (later rows)

-- a row of another name does not change the first value of a name
pub first_more : (name : Text) (rows : List Row) (r : Row) → bytes_eq r.id name ≡ false
    → first_of name (rows ++ r ∷ []) ≡ first_of name rows
first_more name [] r h = simp h
first_more name (x ∷ rows) r h = go (bytes_eq x.id name) refl (first_more name rows r h)
  where
    go : (b : Bool) → bytes_eq x.id name ≡ b → first_of name (rows ++ r ∷ []) ≡ first_of name rows
        → first_of name (x ∷ rows ++ r ∷ []) ≡ first_of name (x ∷ rows)
    go true e later = simp e
    go false e later = simp e later

-- the first value of a name that is new is that of its row
pub first_new : (rows : List Row) (r : Row) → has_row r.id rows ≡ false
    → first_of r.id (rows ++ r ∷ []) ≡ slice_get r.values 0
first_new [] r h = simp (bytes_eq-refl r.id)
first_new (x ∷ rows) r h =
    let here : bytes_eq x.id r.id ≡ false =
    or_false_left (bytes_eq x.id r.id) (has_row r.id rows) h in
    simp here (first_new rows r (or_false_right (bytes_eq x.id r.id) (has_row r.id rows) h))

-- a flag that was not given has the row of its default
abbrev pub default_row : Text → Row
default_row name = record {
  id = name;
  values = codes "false" ∷ [];
  count = None;
  source = Some DefaultValue;
  reading = reading_by (flag_built name);
}

-- the default of a flag is one row, where the flag has none
pub flag_default : (name : Text) (rows : List Row)
    → with_default rows (flag_built name) ≡
    (if has_row name rows then rows else rows ++ default_row name ∷ [])
flag_default name rows = go (has_row name rows) refl
  where
    go : (b : Bool) → has_row name rows ≡ b
        → (if b then rows else default_rows name (reading_by (flag_built name))
        (codes "false" ∷ []) rows)
        ≡ (if b then rows else rows ++ default_row name ∷ [])
    go true e = refl
    go false e = no_row name (more_values DefaultValue (codes "false" ∷ []))
        (default_row name ∷ []) rows e

-- another name's value is not changed by it
pub flag_keeps : (flag_name name : Text) (rows : List Row) → bytes_eq flag_name name ≡ false
    → first_of name (with_default rows (flag_built flag_name)) ≡ first_of name rows
flag_keeps flag_name name rows h = ap (first_of name) (flag_default flag_name rows)
    ∙ go (has_row flag_name rows)
  where
    go : (b : Bool)
        → first_of name (if b then rows else rows ++ default_row flag_name ∷ [])
        ≡ first_of name rows
    go true = refl
    go false = first_more name rows (default_row flag_name) h

-- a name that has a row has it with one row more
has_more : (name : Text) (rows : List Row) (r : Row) → has_row name rows ≡ true
    → has_row name (rows ++ r ∷ []) ≡ true
has_more name [] r h = absurd (cc h)
has_more name (x ∷ rows) r h = go (bytes_eq x.id name) refl h (has_more name rows r)
  where
    go : (b : Bool) → bytes_eq x.id name ≡ b → (b || has_row name rows) ≡ true
        → (has_row name rows ≡ true → has_row name (rows ++ r ∷ []) ≡ true)
        → has_row name (x ∷ rows ++ r ∷ []) ≡ true
    go true e h later = simp e
    go false e h later = let tail = later h in simp (e, tail)

-- a name has the row that is added for it
has_new : (rows : List Row) (r : Row) → has_row r.id (rows ++ r ∷ []) ≡ true
has_new [] r = simp (bytes_eq-refl r.id)
has_new (x ∷ rows) r = go (bytes_eq x.id r.id) refl (has_new rows r)
  where
    go : (b : Bool) → bytes_eq x.id r.id ≡ b → has_row r.id (rows ++ r ∷ []) ≡ true
        → has_row r.id (x ∷ rows ++ r ∷ []) ≡ true
    go true e later = simp e
    go false e later = simp (e, later)

-- the rows with the defaults of the flags
abbrev pub with_flags : List Row → List Text → List Row
with_flags rows fs = fold with_default rows (map flag_built fs)

-- a name that has a row keeps its value
pub row_kept : (name : Text) (fs : List Text) (rows : List Row) → has_row name rows ≡ true
    → first_of name (with_flags rows fs) ≡ first_of name rows
row_kept name [] rows h = refl
row_kept name (f ∷ fs) rows h =
    ap (λ r. first_of name (with_flags r fs)) (flag_default f rows)
    ∙ go (has_row f rows) refl (bytes_eq f name) refl (λ r. row_kept name fs r)
  where
    go : (b : Bool) → has_row f rows ≡ b → (d : Bool) → bytes_eq f name ≡ d
        → ((r : List Row) → has_row name r ≡ true
        → first_of name (with_flags r fs) ≡ first_of name r)
        → first_of name (with_flags (if b then rows else rows ++ default_row f ∷ []) fs)
        ≡ first_of name
        rows
    go true e d k later = later rows h
    go false e true k later =
        let same : f ≡ name = bytes_eq-same f name k in
        let bad : has_row f rows ≡ true = ap (λ n. has_row n rows) same ∙ h in
        absurd (let clash : true ≡ false = sym bad ∙ e in cc clash)
    go false e false k later = later (rows ++ default_row f ∷ [])
        (has_more name rows (default_row f) h)
        ∙ first_more name rows (default_row f) k

-- a name that is no flag keeps its value
pub others_kept : (name : Text) (fs : List Text) (rows : List Row)
    → list_any (λ f. bytes_eq f name) fs ≡ false
    → first_of name (with_flags rows fs) ≡ first_of name rows
others_kept name [] rows h = refl
others_kept name (f ∷ fs) rows h =
    others_kept name fs (with_default rows (flag_built f)) (or_false_right (bytes_eq f name) _ h)
    ∙ flag_keeps f name rows (or_false_left (bytes_eq f name) _ h)

-- a name that has a row has a value
pub has_first : (given : Given) (rows : List Row) (name : Text) → AreRows given rows
    → has_row name rows ≡ true → first_of name rows ≡ or_false (first_of name rows)
has_first [] [] name are h = absurd (cc h)
has_first [] (r ∷ rows) name are h = absurd are
has_first (g ∷ given) [] name are h = absurd are
has_first (g ∷ given) (r ∷ rows) name are h =
    go (bytes_eq r.id name) refl h (has_first given rows name are.2)
  where
    go : (b : Bool) → bytes_eq r.id name ≡ b → (b || has_row name rows) ≡ true
        → (has_row name rows ≡ true → first_of name rows ≡ or_false (first_of name rows))
        → first_of name (r ∷ rows) ≡ or_false (first_of name (r ∷ rows))
    go true e h later = let values = are.1 in simp (e, values)
    go false e h later = let tail = later h in simp e tail

-- a name without a row has no value
no_first : (rows : List Row) (name : Text) → has_row name rows ≡ false → first_of name rows ≡ None
no_first [] name h = refl
no_first (r ∷ rows) name h =
    let here = or_false_left (bytes_eq r.id name) (has_row name rows) h in
    simp here (no_first rows name (or_false_right (bytes_eq r.id name) (has_row name rows) h))

-- a row of another name does not matter
has_other : (name : Text) (rows : List Row) (r : Row) → bytes_eq r.id name ≡ false
    → has_row name (rows ++ r ∷ []) ≡ has_row name rows
has_other name [] r h = simp h
has_other name (x ∷ rows) r h = ap (λ b. bytes_eq x.id name || b) (has_other name rows r h)

-- a name that has a row has a value
abbrev pub IsFilled : Text → List Row → Type 0
IsFilled name rows = has_row name rows ≡ true → first_of name rows ≡ or_false (first_of name rows)

-- the default of another flag leaves it so
filled_more : (f name : Text) (rows : List Row) → bytes_eq f name ≡ false → IsFilled name rows
    → IsFilled name (with_default rows (flag_built f))
filled_more f name rows k filled = rw (flag_default f rows) (go (has_row f rows))
  where
    go : (b : Bool) → IsFilled name (if b then rows else rows ++ default_row f ∷ [])
    go true = filled
    go false = λ h.
        let value = first_more name rows (default_row f) k in
        value ∙ filled (sym (has_other name rows (default_row f) k) ∙ h) ∙ ap or_false (sym value)

-- the default of a flag gives it a value where it has none
flag_here : (f : Text) (fs : List Text) (rows : List Row) → IsFilled f rows
    → first_of f (with_flags rows (f ∷ fs)) ≡ or_false (first_of f rows)
flag_here f fs rows filled = ap (λ r. first_of f (with_flags r fs)) (flag_default f rows)
    ∙ go (has_row f rows) refl
  where
    go : (b : Bool) → has_row f rows ≡ b
        → first_of f (with_flags (if b then rows else rows ++ default_row f ∷ []) fs) ≡ or_false
        (first_of f rows)
    go true e = row_kept f fs rows e ∙ filled e
    go false e = row_kept f fs (rows ++ default_row f ∷ []) (has_new rows (default_row f))
        ∙ first_new rows (default_row f) e ∙ ap or_false (sym (no_first rows f e))

-- a flag has its value, or that of its default
pub flag_value : (name : Text) (fs : List Text) (rows : List Row) → IsFilled name rows
    → list_any (λ f. bytes_eq f name) fs ≡ true
    → first_of name (with_flags rows fs) ≡ or_false (first_of name rows)
flag_value name [] rows filled h = absurd (cc h)
flag_value name (f ∷ fs) rows filled h =
    go (bytes_eq f name) refl h (flag_value name fs (with_default rows (flag_built f)))
  where
    go : (d : Bool) → bytes_eq f name ≡ d → (d || list_any (λ g. bytes_eq g name) fs) ≡ true
        → (IsFilled name (with_default rows (flag_built f))
        → list_any (λ g. bytes_eq g name) fs ≡ true
        → first_of name (with_flags (with_default rows (flag_built f)) fs) ≡ or_false
        (first_of name (with_default rows (flag_built f))))
        → first_of name (with_flags rows (f ∷ fs)) ≡ or_false (first_of name rows)
    go true k h later =
        let same : f ≡ name = bytes_eq-same f name k in
        subst (λ n. IsFilled n rows
        → first_of n (with_flags rows (f ∷ fs)) ≡ or_false (first_of n rows))
        same (flag_here f fs rows) filled
    go false k h later = later (filled_more f name rows k filled) h
        ∙ ap or_false (flag_keeps f name rows k)
