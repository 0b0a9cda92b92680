-- What stands at the front of the bytes: digits, numerals and lines.
use Rattle.std.proofs.Common.{◌≡◌, ℕ, zero, suc, ◌+◌, ◌-◌, ◌*◌, ◌<◌, ◌≤◌, List, [], ◌∷◌, ◌++◌}
use Rattle.std.proofs.Common.{length, get_or, take, drop, inl, inr, refl, sym, ◌∙◌, ap, subst}
use Rattle.std.proofs.Common.{arith, add-one, eq-eqb, Option, None, Some, IfNone, append_assoc}
use Rattle.std.proofs.Common.{append-nil, length-append}
use Rattle.std.proofs.lemmas.List.{drop_more, drop_all, take_more, length-take, get_or-take}
use Rattle.std.proofs.lemmas.List.{get_or_at, get_or_append_left}
use Rattle.std.proofs.lemmas.Bool.{cases_lt, cases_eq, ne_eqb}
use Rattle.glb_graph.specs.GraphText.{lines_of, add_to_first, AreDigits, number_from, IsPair}
use Rattle.glb_graph.proofs.TextFacts.{same_pair}
use Rattle.glb_graph.specs.FirstLines.{BeginsWith}
use Rattle.glb_graph.specs.inner.Reading.{NoDigit, BeginsWithNumeral}

-- no bytes have no lines
pub lines_none : (bytes : List ℕ) → length bytes ≡ 0 → lines_of bytes ≡ []
unfolding lines_of
lines_none [] h = refl
lines_none (b ∷ bytes) h = absurd (omega arith)

-- what holds, holds where there is no value
pub none_holds : {A : Type 0} (o : Option A) (P : Type 0) → P → IfNone o P
none_holds None P p = p
none_holds (Some a) P p = tt

-- ten to the power i
pub cap : ℕ → ℕ
cap zero = 1
cap (suc i) = cap i * 10

-- one digit more makes ten times as many numbers
cap_more : (i : ℕ) → cap (i + 1) ≡ cap i * 10
unfolding cap
cap_more i = rw add-one

-- more digits do not make fewer numbers
cap_rises : (i j : ℕ) → i ≤ j → cap i ≤ cap j
unfolding cap
cap_rises i zero l = let e : i ≡ 0 = omega arith in let e' : cap i ≡ cap 0 = ap cap e in omega arith
cap_rises i (suc j) l =
    elim (cases_eq i (suc j)) [
      | inl e ↦ let e' : cap i ≡ cap (suc j) = ap cap e
          in omega arith
      | inr ne ↦ omega (arith, cap_rises i j (omega arith))
    ]

-- nine digits write the numbers below 10 ^ 9
cap_nine : cap 9 ≡ 1000000000
unfolding cap
cap_nine = refl

-- the first `count` bytes are digits that write the number
pub record IsPart (bytes : List ℕ) (number count : ℕ) : Type 0 where
  pub within : count ≤ length bytes
  pub few : count ≤ 10
  pub digits : AreDigits (take count bytes)
  pub value : number ≡ number_from 0 (take count bytes)
  pub low : number < cap count

-- the first no elements
take_zero : (xs : List ℕ) → take 0 xs ≡ []
take_zero [] = refl
take_zero (x ∷ xs) = refl

-- before the first byte the number is 0
pub part_none : (bytes : List ℕ) → IsPart bytes 0 0
unfolding cap
part_none bytes = record {
  within = omega arith;
  few = omega arith;
  digits = subst AreDigits (sym (take_zero bytes)) tt;
  value = sym (ap (number_from 0) (take_zero bytes));
  low = omega arith;
}

-- fewer than ten digits leave room for one more
pub part_small : (bytes : List ℕ) (number count : ℕ) → IsPart bytes number count → count < 10
    → number < 1000000000
part_small bytes number count P l = omega (arith, P.low, cap_rises count 9 (omega arith), cap_nine)

-- a further digit behind digits
digits_more : (ds : List ℕ) (d : ℕ) → AreDigits ds → 48 ≤ d → d < 58 → AreDigits (ds ++ d ∷ [])
digits_more [] d a low high = (low, high, tt)
digits_more (c ∷ ds) d (x, y, a) low high = (x, y, digits_more ds d a low high)

-- a further digit adds itself to ten times the number
number_more : (n : ℕ) (ds : List ℕ) (d : ℕ)
    → number_from n (ds ++ d ∷ []) ≡ number_from n ds * 10 + (d - 48)
number_more n [] d = refl
number_more n (c ∷ ds) d = number_more (n * 10 + (c - 48)) ds d

-- one more digit is read
pub part_more : (bytes : List ℕ) (number count d : ℕ) → IsPart bytes number count
    → count < length bytes
    → count < 10 → d ≡ get_or bytes count 0 → 48 ≤ d → d < 58
    → IsPart bytes (number * 10 + (d - 48)) (count + 1)
part_more bytes number count d P l few e low high =
    let more : take (count + 1) bytes ≡ take count bytes ++ d ∷ [] = take_more bytes count 0 l
    ∙ ap (λ d. take count bytes ++ d ∷ []) (sym e) in
    record {
      within = omega arith;
      few = omega arith;
      digits = subst AreDigits (sym more) (digits_more (take count bytes) d P.digits low high);
      value = ap (λ n. n * 10 + (d - 48)) P.value ∙ sym (number_more 0 (take count bytes) d)
          ∙ sym (ap (number_from 0) more);
      low = omega (arith, P.low, cap_more count);
    }

-- each of some digits is one
digit_at : (ds : List ℕ) (k : ℕ) → AreDigits ds → k < length ds → (48 ≤ get_or ds k 0)
    × (get_or ds k 0 < 58)
digit_at [] k a l = absurd (omega arith)
digit_at (d ∷ ds) zero (x, y, a) l = (x, y)
digit_at (d ∷ ds) (suc k) (x, y, a) l = digit_at ds k a (omega arith)

-- where all digits in front are a numeral, the byte after them is none
numeral_ends : (bytes : List ℕ) (n : ℕ) (rest : List ℕ) (N : BeginsWithNumeral bytes n rest)
    → length N.digits < length bytes → 48 ≤ get_or bytes (length N.digits) 0
    → get_or bytes (length N.digits) 0 < 58 → ⊥
numeral_ends bytes n rest N l low high = go rest N.bytes_are N.ends low high
  where
    go : (rest : List ℕ) → bytes ≡ N.digits ++ rest → NoDigit rest
        → 48 ≤ get_or bytes (length N.digits) 0
        → get_or bytes (length N.digits) 0 < 58 → ⊥
    go [] e free low high = absurd (omega (arith, ap length e, length-append N.digits []))
    go (b ∷ rest) e free low high =
        let x : get_or bytes (length N.digits) 0 ≡ b = ap (λ xs. get_or xs (length N.digits) 0) e
        ∙ get_or_at N.digits b rest 0 (length N.digits) refl in
        free (omega arith) (omega arith)

-- ten digits with one more behind them are no numeral
pub part_long : (bytes : List ℕ) (number count : ℕ) → IsPart bytes number count → count ≡ 10
    → count < length bytes → 48 ≤ get_or bytes count 0 → get_or bytes count 0 < 58
    → (n : ℕ) (rest : List ℕ) → BeginsWithNumeral bytes n rest → ⊥
part_long bytes number count P ten l low high n rest N = elim (cases_eq (length N.digits) count) [
  | inl e ↦
      let x : get_or bytes (length N.digits) 0 ≡ get_or bytes count 0 =
      ap (λ k. get_or bytes k 0) e in
      numeral_ends bytes n rest N (omega arith) (omega arith) (omega arith)
  | inr ne ↦
      let short : length N.digits < count = omega (arith, N.numeral.few) in
      let d = digit_at (take count bytes) (length N.digits) P.digits
      (omega (arith, length-take count bytes)) in
      let x = get_or-take count bytes (length N.digits) 0 short in
      numeral_ends bytes n rest N (omega arith) (omega (arith, d.0, x)) (omega (arith, d.1, x))
]

-- without a digit in front there is no numeral
pub part_empty : (bytes : List ℕ)
    → (0 < length bytes → 48 ≤ get_or bytes 0 0 → get_or bytes 0 0 < 58 → ⊥)
    → (n : ℕ) (rest : List ℕ) → BeginsWithNumeral bytes n rest → ⊥
part_empty bytes none n rest N =
    let some = N.numeral.some in
    let d = digit_at N.digits 0 N.numeral.digits (omega arith) in
    let x : get_or bytes 0 0 ≡ get_or N.digits 0 0 = ap (λ xs. get_or xs 0 0) N.bytes_are
    ∙ get_or_append_left N.digits rest 0 0 (omega arith) in
    none (omega (arith, ap length N.bytes_are, length-append N.digits rest)) (omega (arith, d.0, x))
    (omega (arith, d.1, x))

-- a list is its first part and the rest
cut_at : (bytes : List ℕ) (k : ℕ) → bytes ≡ take k bytes ++ drop k bytes
cut_at [] zero = refl
cut_at [] (suc k) = refl
cut_at (b ∷ bytes) zero = refl
cut_at (b ∷ bytes) (suc k) = ap (λ xs. b ∷ xs) (cut_at bytes k)

-- where no further digit stands, the digits that were read are the numeral
pub part_whole : (bytes : List ℕ) (number count : ℕ) (rest : List ℕ) → IsPart bytes number count
    → 0 < count → rest ≡ drop count bytes
    → (count < length bytes → 48 ≤ get_or bytes count 0 → get_or bytes count 0 < 58 → ⊥)
    → BeginsWithNumeral bytes number rest
part_whole bytes number count rest P some e free = record {
  digits = take count bytes;
  bytes_are = cut_at bytes count ∙ ap (λ r. take count bytes ++ r) (sym e);
  numeral = record {
    some = omega (arith, length-take count bytes, P.within);
    few =
        omega (arith, length-take count bytes, P.few);
    digits = P.digits;
  };
  value = P.value;
  ends = elim (cases_lt count (length bytes)) [
    | inl l ↦ subst NoDigit (sym (drop_more bytes count 0 l) ∙ sym e) (free l)
    | inr l ↦ subst NoDigit (sym (drop_all count bytes l) ∙ sym e) tt
  ];
}

-- digits end in one way
same_digits : (xs ys r t : List ℕ) → AreDigits xs → AreDigits ys → NoDigit r → NoDigit t
    → xs ++ r ≡ ys
    ++ t → r ≡ t
same_digits [] [] r t a b p q e = e
same_digits [] (y ∷ ys) [] t a b p q e = absurd (cc)
same_digits [] (y ∷ ys) (x ∷ r) t a (low, high, b) p q e = let f : x ≡ y = cc
    in absurd (p (omega arith) (omega arith))
same_digits (x ∷ xs) [] r [] a b p q e = absurd (cc)
same_digits (x ∷ xs) [] r (y ∷ t) (low, high, a) b p q e = let f : x ≡ y = cc
    in absurd (q (omega arith) (omega arith))
same_digits (x ∷ xs) (y ∷ ys) r t (_, _, a) (_, _, b) p q e = let f : xs ++ r ≡ ys ++ t = cc
    in same_digits xs ys r t a b p q f

-- what follows the numeral in front is one list of bytes
pub same_rest : (bytes : List ℕ) (m n : ℕ) (r t : List ℕ) → BeginsWithNumeral bytes m r
    → BeginsWithNumeral bytes n t → r ≡ t
same_rest bytes m n r t M N =
    same_digits M.digits N.digits r t M.numeral.digits N.numeral.digits M.ends N.ends
    (sym M.bytes_are ∙ N.bytes_are)

-- no line feed among the bytes
NoFeed : List ℕ → Type 0
NoFeed [] = Unit {0}
NoFeed (b ∷ bytes) = (b ≡ 10 → ⊥) × NoFeed bytes

-- digits are no line feeds
digits_feed : (ds bytes : List ℕ) → AreDigits ds → NoFeed bytes → NoFeed (ds ++ bytes)
unfolding NoFeed
digits_feed [] bytes a n = n
digits_feed (d ∷ ds) bytes (low, high, a) n = ((λ e. omega arith), digits_feed ds bytes a n)

-- a line feed ends the first line
line_feed : (line rest : List ℕ) → NoFeed line → lines_of (line ++ 10 ∷ rest) ≡ line ∷ lines_of rest
unfolding NoFeed lines_of
line_feed [] rest n = refl
line_feed (b ∷ line) rest (ne, n) = rw (ne_eqb b 10 ne, line_feed line rest n)

-- bytes without a line feed are one line
line_end : (line : List ℕ) → 0 < length line → NoFeed line → lines_of line ≡ line ∷ []
unfolding NoFeed lines_of
line_end [] l n = absurd (omega arith)
line_end (b ∷ []) l (ne, n) = rw (ne_eqb b 10 ne)
line_end (b ∷ c ∷ line) l (ne, n) =
    let r : lines_of (c ∷ line) ≡ (c ∷ line) ∷ [] = line_end (c ∷ line) (omega arith) n
    in rw (ne_eqb b 10 ne) (ap (add_to_first b) r)

-- a line ends before these bytes
abbrev pub IsEnd : List ℕ → Type 0
IsEnd [] = Unit {0}
IsEnd (b ∷ bytes) = b ≡ 10

-- a line feed in front ends an empty line
lines_feed : (b : ℕ) (bytes : List ℕ) → b ≡ 10 → lines_of (b ∷ bytes) ≡ [] ∷ lines_of bytes
unfolding lines_of
lines_feed b bytes e = rw (eq-eqb b 10 e)

-- another byte in front belongs to the first line
lines_byte : (b : ℕ) (bytes : List ℕ) → (b ≡ 10 → ⊥)
    → lines_of (b ∷ bytes) ≡ add_to_first b (lines_of bytes)
unfolding lines_of
lines_byte b bytes ne = rw (ne_eqb b 10 ne)

-- where there are bytes, there is a first line
pub some_line : (bytes : List ℕ) → 0 < length bytes → (line : List ℕ) × (lines : List (List ℕ))
    × (lines_of bytes ≡ line ∷ lines)
some_line [] l = absurd (omega arith)
some_line (b ∷ bytes) l = elim (cases_eq b 10) [
  | inl e ↦ ([], lines_of bytes, lines_feed b bytes e)
  | inr ne ↦ let a = added (lines_of bytes) in (a.0, a.1, lines_byte b bytes ne ∙ a.2)
]
  where
    added : (lines : List (List ℕ)) → (line : List ℕ) × (after : List (List ℕ))
        × (add_to_first b lines ≡ line ∷ after)
    added [] = (b ∷ [], [], refl)
    added (line ∷ lines) = (b ∷ line, lines, refl)

-- where there are no lines, there are no bytes
no_lines : (bytes : List ℕ) → lines_of bytes ≡ [] → bytes ≡ []
no_lines [] e = refl
no_lines (b ∷ bytes) e = let s = some_line (b ∷ bytes) (omega arith) in let x : s.0 ∷ s.1 ≡ [] =
    sym s.2
    ∙ e in absurd (cc)

-- the first line stands in front, up to its end
first_line : (bytes line : List ℕ) (lines : List (List ℕ)) → lines_of bytes ≡ line ∷ lines
    → (tail : List ℕ) × (bytes ≡ line ++ tail) × IsEnd tail
first_line [] line lines e = let x : [] ≡ line ∷ lines = sym (lines_none [] refl) ∙ e in absurd (cc)
first_line (b ∷ bytes) line lines e = elim (cases_eq b 10) [
  | inl f ↦ let x : [] ∷ lines_of bytes ≡ line ∷ lines = sym (lines_feed b bytes f) ∙ e in
      let y : [] ≡ line = cc in (b ∷ bytes, ap (λ l. l ++ b ∷ bytes) y, f)
  | inr ne ↦ added (lines_of bytes) refl (first_line bytes) (sym (lines_byte b bytes ne) ∙ e)
]
  where
    added : (these : List (List ℕ)) → lines_of bytes ≡ these
        → ((line : List ℕ) (lines : List (List ℕ)) → lines_of bytes ≡ line ∷ lines → (tail : List ℕ)
        × (bytes ≡ line ++ tail) × IsEnd tail) → add_to_first b these ≡ line ∷ lines
        → (tail : List ℕ)
        × (b ∷ bytes ≡ line ++ tail) × IsEnd tail
    added [] f below x = let y : b ∷ [] ≡ line = cc
        in ([], ap (λ xs. b ∷ xs) (no_lines bytes f) ∙ ap (λ l. l ++ []) y, tt)
    added (l ∷ ls) f below x = let y : b ∷ l ≡ line = cc in let r = below l ls f
        in (r.0, ap (λ xs. b ∷ xs) r.1 ∙ ap (λ l. l ++ r.0) y, r.2)

-- two numerals with a space between them
module _ (bytes : List ℕ) (m : ℕ) (after : List ℕ) (N : BeginsWithNumeral bytes m after) (n : ℕ)
    (second rest : List ℕ) (space : after ≡ 32 ∷ second) (M : BeginsWithNumeral second n rest) where
  abbrev line : List ℕ
  line = N.digits ++ 32 ∷ M.digits

  -- the line that they make is a pair of their numbers
  line_is : IsPair line m n
  line_is = record {
    first = N.digits;
    second = M.digits;
    line_is = refl;
    first_numeral = N.numeral;
    second_numeral = M.numeral;
    first_is = N.value;
    second_is = M.value;
  }

  -- a space and digits have no line feed
  plain_digits : NoFeed (32 ∷ M.digits)
  unfolding NoFeed
  plain_digits = (
    (λ e. omega arith),
    subst NoFeed (append-nil M.digits) (digits_feed M.digits [] M.numeral.digits tt),
  )

  -- neither has the whole line
  plain : NoFeed line
  plain = digits_feed N.digits (32 ∷ M.digits) N.numeral.digits plain_digits

  -- the line stands in front of the bytes
  front : bytes ≡ line ++ rest
  front = N.bytes_are ∙ ap (λ xs. N.digits ++ xs) (space ∙ ap (λ xs. 32 ∷ xs) M.bytes_are)
      ∙ sym (append_assoc N.digits (32 ∷ M.digits) rest)

  -- at the end of the bytes the line ends
  pub pair_end : length rest ≡ 0 → BeginsWith (λ l. IsPair l m n) bytes rest
  pair_end e = record {
    line = line;
    such = line_is;
    lines_are =
        let none : rest ≡ [] = no_bytes rest e in
        ap lines_of (front ∙ ap (λ r. line ++ r) none ∙ append-nil line)
        ∙ line_end line (omega (arith, length-append N.digits (32 ∷ M.digits))) plain
        ∙ ap (λ ls. line ∷ ls) (sym (lines_none rest e));
  }
    where
      no_bytes : (xs : List ℕ) → length xs ≡ 0 → xs ≡ []
      no_bytes [] e = refl
      no_bytes (x ∷ xs) e = absurd (omega arith)

  -- before a line feed the line ends
  pub pair_feed : (further : List ℕ) → rest ≡ 10 ∷ further
      → BeginsWith (λ l. IsPair l m n) bytes further
  pair_feed further e = record {
    line = line;
    such = line_is;
    lines_are = ap lines_of (front ∙ ap (λ r. line ++ r) e) ∙ line_feed line further plain;
  }

-- a line of two numerals in front
module _ (bytes : List ℕ) (a b : ℕ) (line : List ℕ) (lines : List (List ℕ))
    (e : lines_of bytes ≡ line ∷ lines) (p : IsPair line a b) where
  abbrev tail : List ℕ
  tail = (first_line bytes line lines e).0

  -- the line ends before them
  ends : IsEnd tail
  ends = (first_line bytes line lines e).2

  -- where a line ends there is no digit
  no_digit : (xs : List ℕ) → IsEnd xs → NoDigit xs
  no_digit [] f = tt
  no_digit (x ∷ xs) f = λ low high. omega arith

  -- the first numeral of the line stands in front of the bytes
  first_numeral : BeginsWithNumeral bytes a (32 ∷ p.second ++ tail)
  first_numeral = record {
    digits = p.first;
    bytes_are = (first_line bytes line lines e).1 ∙ ap (λ l. l ++ tail) p.line_is
        ∙ append_assoc p.first (32 ∷ p.second) tail;
    numeral = p.first_numeral;
    value = p.first_is;
    ends = λ low high. omega arith;
  }

  -- the second one stands behind the space
  second_numeral : BeginsWithNumeral (p.second ++ tail) b tail
  second_numeral = record {
    digits = p.second;
    bytes_are = refl;
    numeral = p.second_numeral;
    value = p.second_is;
    ends =
        no_digit tail ends;
  }

  -- so there is a numeral in front
  pub pair_no_first : ((n : ℕ) (rest : List ℕ) → BeginsWithNumeral bytes n rest → ⊥) → ⊥
  pair_no_first none = none a (32 ∷ p.second ++ tail) first_numeral

  module _ (m : ℕ) (after : List ℕ) (N : BeginsWithNumeral bytes m after) where
    -- what follows the first numeral
    after_is : after ≡ 32 ∷ p.second ++ tail
    after_is = same_rest bytes m a after (32 ∷ p.second ++ tail) N first_numeral

    -- and a space behind it
    pub pair_no_space : ((rest : List ℕ) → after ≡ 32 ∷ rest → ⊥) → ⊥
    pair_no_space none = none (p.second ++ tail) after_is

    module _ (second : List ℕ) (space : after ≡ 32 ∷ second) where
      second_is : second ≡ p.second ++ tail
      second_is = let x : 32 ∷ second ≡ 32 ∷ p.second ++ tail = sym space ∙ after_is in cc

      pub pair_no_second : ((n : ℕ) (rest : List ℕ) → BeginsWithNumeral second n rest → ⊥) → ⊥
      pair_no_second none =
          none b tail (subst (λ xs. BeginsWithNumeral xs b tail) (sym second_is) second_numeral)

      pub pair_no_end : (n : ℕ) (rest : List ℕ) → BeginsWithNumeral second n rest → 0 < length rest
          → ((further : List ℕ) → rest ≡ 10 ∷ further → ⊥) → ⊥
      pair_no_end n rest M some none =
          ended rest (same_rest second n b rest tail M
          (subst (λ xs. BeginsWithNumeral xs b tail) (sym second_is) second_numeral)) some none
        where
          feed : (xs : List ℕ) → IsEnd xs → 0 < length xs → (further : List ℕ) × (xs ≡ 10 ∷ further)
          feed [] f l = absurd (omega arith)
          feed (x ∷ xs) f l = (xs, ap (λ y. y ∷ xs) f)

          ended : (rest : List ℕ) → rest ≡ tail → 0 < length rest
              → ((further : List ℕ) → rest ≡ 10 ∷ further → ⊥) → ⊥
          ended rest f l no_feed = let t = feed tail ends (omega (arith, ap length f))
              in no_feed t.0 (f ∙ t.1)

-- a pair in front is the only one
pub first_pair : (bytes : List ℕ) (m n : ℕ) (rest line : List ℕ) (lines : List (List ℕ)) (a b : ℕ)
    → BeginsWith (λ l. IsPair l m n) bytes rest → lines_of bytes ≡ line ∷ lines → IsPair line a b
    → (a ≡ m) × (b ≡ n)
first_pair bytes m n rest line lines a b B e p =
    let x : line ∷ lines ≡ B.line ∷ lines_of rest = sym e ∙ B.lines_are in
    let y : line ≡ B.line = cc in
    same_pair B.line a b m n (subst (λ l. IsPair l a b) y p) B.such
