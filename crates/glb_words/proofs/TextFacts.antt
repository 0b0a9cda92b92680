-- Words that name an option.
use Rattle.std.proofs.Common.{◌≡◌, ℕ, suc, ◌+◌, ◌==◌, ◌&&◌, ◌||◌, Bool, true, false, not}
use Rattle.std.proofs.Common.{if◌then◌else◌, List, [], ◌∷◌, ◌∙◌, refl, sym, ap, Some, None, find}
use Rattle.std.proofs.Common.{eqb, eqb→eq, subst, arith, drop, codes, length}
use Rattle.std.specs.List.{prefix_len, position_or_len, list_any}
use Rattle.std.specs.Str.{bytes_eq}
use Rattle.std.proofs.lemmas.Slice.Eq.{bytes_eq-Decides}
use Rattle.std.specs.List.{list_all}
use Rattle.std.specs.Prelude.{nat_le}
use Rattle.glb_words.specs.Rules.{Text, FormRule, Number, Choice, Flag}
use Rattle.glb_words.specs.Words.{before_equals, has_equals, after_equals, value_fault, is_number}
use Rattle.glb_words.specs.Words.{number_of}
use Rattle.glb_words.specs.declared.fault.WordKind.TheVariants.{NotNumber, OutOfRange, BadChoice}
use Rattle.glb_words.specs.declared.fault.WordKind.TheVariants.{Calm}

-- a text has the same bytes as itself
pub bytes_eq-refl : (a : Text) → bytes_eq a a ≡ true
bytes_eq-refl a = (bytes_eq-Decides a a).1 refl

-- texts of the same bytes are one
pub bytes_eq-same : (a b : Text) → bytes_eq a b ≡ true → a ≡ b
bytes_eq-same a b h = (bytes_eq-Decides a b).0 h

-- the first of two facts
pub and_left : (a b : Bool) → (a && b) ≡ true → a ≡ true
and_left true b h = refl
and_left false b h = absurd (cc h)

-- the second of two facts
pub and_right : (a b : Bool) → (a && b) ≡ true → b ≡ true
and_right true b h = h
and_right false b h = absurd (cc h)

-- P holds of each element
pub data Each {X : Type 0} (P : X → Type 0) : List X → Type 0 where
  none : Each P []
  more : (x : X) (xs : List X) → P x → Each P xs → Each P (x ∷ xs)

-- what holds of each element holds of one that is found
pub each_found : {X : Type 0} (P : X → Type 0) (test : X → Bool) (xs : List X) (s : X) → Each P xs
    → find test xs ≡ Some s → P s × (test s ≡ true)
each_found P test [] s h e = absurd (cc e)
each_found {X} P test (x ∷ xs) s (more _ _ p ps) e = go (test x) refl (each_found P test xs s ps) e
  where
    go : (b : Bool) → test x ≡ b → (find test xs ≡ Some s → P s × (test s ≡ true))
        → (if b then Some x else (find test xs)) ≡ Some s → P s × (test s ≡ true)
    go true t later f = let same : x ≡ s = cc f in rw (← same) (p, t)
    go false t later f = later f

-- the word is two dashes and what begins with the name
pub record NamesOption (name word : Text) : Type 0 where
  pub rest : Text
  pub is : word ≡ 45 ∷ 45 ∷ rest
  pub before : before_equals rest ≡ name

-- what stands before the first `=` of a text, by its first byte
pub before_equals-cons : (a : ℕ) (rest : Text)
    → before_equals (a ∷ rest) ≡ (if a == 61 then [] else a ∷ before_equals rest)
before_equals-cons a rest = go (a == 61) refl
  where
    go : (b : Bool) → (a == 61) ≡ b
        → before_equals (a ∷ rest) ≡ (if b then [] else a ∷ before_equals rest)
    go true e = simp e
    go false e =
        let more : 1 + prefix_len (λ x. not (x == 61)) rest
        ≡ suc (prefix_len (λ x. not (x == 61)) rest) =
        omega arith in
        simp (e, more)

-- the first byte of what stands before the first `=`
pub before_cons : (a c : ℕ) (rest name : Text) → before_equals (a ∷ rest) ≡ c ∷ name → (a ≡ c)
    × (before_equals rest ≡ name)
before_cons a c rest name h = go (a == 61) (sym (before_equals-cons a rest) ∙ h)
  where
    go : (b : Bool) → (if b then [] else a ∷ before_equals rest) ≡ c ∷ name → (a ≡ c)
        × (before_equals rest ≡ name)
    go true e = absurd (cc e)
    go false e = (cc e, cc e)

-- a word whose front is two dashes and the name names the option
pub names_option : (name word : Text) → bytes_eq (45 ∷ 45 ∷ name) (before_equals word) ≡ true
    → NamesOption name word
names_option name word h = of_word word
    (sym (bytes_eq-same (45 ∷ 45 ∷ name) (before_equals word) h))
  where
    of_word : (word : Text) → before_equals word ≡ 45 ∷ 45 ∷ name → NamesOption name word
    of_word [] e = absurd (cc e)
    of_word (a ∷ []) e = absurd (let h = (before_cons a 45 [] (45 ∷ name) e).1 in cc h)
    of_word (a ∷ b ∷ rest) e =
        let first = before_cons a 45 (b ∷ rest) (45 ∷ name) e in
        let second = before_cons b 45 rest name first.1 in
        record { rest = rest; is = rw (first.0, second.0) refl; before = second.1 }

-- where there is no `=`, all stands before it
pub before_lacks : (text : Text) → has_equals text ≡ false → before_equals text ≡ text
before_lacks [] h = refl
before_lacks (a ∷ rest) h = go (a == 61) refl h (before_lacks rest)
  where
    go : (b : Bool) → (a == 61) ≡ b → (b || has_equals rest) ≡ false
        → (has_equals rest ≡ false → before_equals rest ≡ rest)
        → before_equals (a ∷ rest) ≡ a ∷ rest
    go true e h later = absurd (cc h)
    go false e h later = before_equals-cons a rest ∙ (let tail = later h in simp (e, tail))

-- two dashes do not change what stands behind the first `=`
pub after_dashes : (rest : Text) → after_equals (45 ∷ 45 ∷ rest) ≡ after_equals rest
after_dashes rest =
    let n = prefix_len (λ x. not (x == 61)) rest in
    let count : 1 + (1 + n) + 1 ≡ suc (suc (n + 1)) = omega arith in
    ap (λ k. drop k (45 ∷ 45 ∷ rest)) count

-- a text that no option begins
abbrev pub is_plain : Text → Bool
is_plain [] = false
is_plain (d ∷ ds) = not (eqb d 45)

-- the name of an option
abbrev pub is_name : Text → Bool
is_name [] = false
is_name (n ∷ ns) = not (has_equals (n ∷ ns))

-- each value of the kind is plain
abbrev pub is_plain_kind : FormRule → Bool
is_plain_kind (Number least most default) = true
is_plain_kind (Choice names) = list_all is_plain names
is_plain_kind Flag = false

-- a number is plain
plain_number : (text : Text) → is_number text ≡ true → is_plain text ≡ true
plain_number [] h = absurd (cc h)
plain_number (d ∷ ds) h = go (eqb d 45) refl
  where
    go : (b : Bool) → eqb d 45 ≡ b → not b ≡ true
    go false e = refl
    go true e = let is : d ≡ 45 = eqb→eq d 45 (rw e tt)
        in absurd
        (let bad : is_number (45 ∷ ds) ≡ true = subst (λ x. is_number (x ∷ ds) ≡ true) is h
        in cc bad)

-- one of plain names is plain
plain_name : (names : List Text) (text : Text) → list_all is_plain names ≡ true
    → list_any (λ name. bytes_eq name text) names ≡ true → is_plain text ≡ true
plain_name [] text all any = absurd (cc any)
plain_name (x ∷ xs) text all any =
    go (bytes_eq x text) refl any (plain_name xs text (and_right (is_plain x) _ all))
  where
    go : (b : Bool) → bytes_eq x text ≡ b → (b || list_any (λ name. bytes_eq name text) xs) ≡ true
        → (list_any (λ name. bytes_eq name text) xs ≡ true → is_plain text ≡ true)
        → is_plain text ≡ true
    go true e h later = let same : x ≡ text = bytes_eq-same x text e
        in rw (← same) (and_left (is_plain x) _ all)
    go false e h later = later h

-- a value without a fault is plain
pub plain_value : (calm : Bool) (kind : FormRule) (text : Text) → is_plain_kind kind ≡ true
    → value_fault calm kind text ≡ None → is_plain text ≡ true
plain_value calm (Number least most default) text plain h = go (is_number text) refl h
  where
    go : (b : Bool) → is_number text ≡ b
        → (if b then
        (if nat_le least (number_of text) && nat_le (number_of text) most then None else Some
        OutOfRange) else Some NotNumber) ≡ None → is_plain text ≡ true
    go true e h = plain_number text e
    go false e h = absurd (cc h)
plain_value calm (Choice names) text plain h = go
    (list_any (λ name. bytes_eq name text) names) refl h
  where
    go : (b : Bool) → list_any (λ name. bytes_eq name text) names ≡ b
        → (if b then (if calm && bytes_eq text (codes "threads") then Some Calm else None) else Some
        BadChoice) ≡ None → is_plain text ≡ true
    go true e h = plain_name names text plain e
    go false e h = absurd (cc h)
plain_value calm Flag text plain h = absurd (cc plain)

-- a text whose first `=` is behind its end has none
pub lacks_equals : (text : Text) → position_or_len (λ b. b == 61) text ≡ length text
    → has_equals text ≡ false
lacks_equals [] h = refl
lacks_equals (a ∷ rest) h = go (a == 61) refl h (lacks_equals rest)
  where
    go : (b : Bool) → (a == 61) ≡ b
        → (if not b then 1 + prefix_len (λ x. not (x == 61)) rest else 0) ≡ length (a ∷ rest)
        → (position_or_len (λ b. b == 61) rest ≡ length rest → has_equals rest ≡ false)
        → has_equals (a ∷ rest) ≡ false
    go true e h later = absurd (omega (arith, h))
    go false e h later = let tail = later (omega (arith, h)) in simp (e, tail)
