-- The masks of a board, bit by bit, and with one more queen.
use Rattle.std.proofs.Common.{◌≡◌, ℕ, suc, ◌+◌, ◌-◌, ◌*◌, ◌/◌, ◌%◌, ◌^◌, ◌<◌, min, max, Bool, true, false, not, ◌&&◌, cond, ◌==◌, nat_lt, List, [], ◌∷◌, ◌++◌, length, inl, inr, refl, sym, ap, ap₂, subst, ◌∙◌, arith, bit_or, bit_and, w32}
use Rattle.std.specs.Int.{bit_at, bit_not}
use Rattle.std.specs.Int.Bits.{or_step, or_zero_l, or_zero_r}
use Rattle.std.specs.List.{All}
use Rattle.std.proofs.Math.Nat.{pow-suc}
use Rattle.std.proofs.lemmas.Bool.{cases_eq, eq-eqb, ne_eqb, cases_lt, lt-ltb, le-ltb}
use Rattle.std.proofs.lemmas.List.{length_push}
use Rattle.std.proofs.lemmas.List.Elements.{All-head, All-tail}
use Rattle.std.proofs.lemmas.Nat.{or_comm, or_lt, or_shr, shr-shr, pow_below}
use Rattle.std.proofs.lemmas.Nat.Bits.{bit_at-lt, bit_at-zero, bit_at_or, bit_at_and, bit_at_not, bit_at_ones, bit_at_ones_above, bit_at-pow_same, bit_at-pow_other, same_from_bits}
use Rattle.glb_queens.specs.Boards.{is_free}
use Rattle.glb_queens.specs.inner.Masks.{taken_of, rising_of, falling_of}

-- one bit of a power of two
bit_pow : (a b : ℕ) → bit_at (2 ^ a) b ≡ cond (a == b) 1 0
bit_pow a b =
    elim (cases_eq a b) [
      | inl same ↦ ap (λ k. bit_at (2 ^ a) k) (sym same) ∙ bit_at-pow_same a
          ∙ sym (ap (λ t. cond t 1 0) (eq-eqb a b same))
      | inr other ↦ bit_at-pow_other a b (λ e. other (sym e))
          ∙ sym (ap (λ t. cond t 1 0) (ne_eqb a b other))
    ]

-- a power of two has one bit
bit_pow_back : (a b : ℕ) → bit_at (2 ^ a) b ≡ cond (b == a) 1 0
bit_pow_back a b =
    elim (cases_eq b a) [
      | inl same ↦ ap (λ k. bit_at (2 ^ a) k) same ∙ bit_at-pow_same a
          ∙ sym (ap (λ t. cond t 1 0) (eq-eqb b a same))
      | inr other ↦ bit_at-pow_other a b other ∙ sym (ap (λ t. cond t 1 0) (ne_eqb b a other))
    ]

-- the bits of a number without its lowest k
bit_shifted : (m k c : ℕ) → bit_at (m / 2 ^ k) c ≡ bit_at m (c + k)
bit_shifted m k c = ap (λ x. x % 2) (shr-shr m k c ∙ ap (λ j. m / 2 ^ j) (omega arith))

-- one more queen attacks or leaves free
with_first : (p q s rest : Bool) (t r f : ℕ) → 1 - max (max t r) f ≡ cond rest 1 0
    → 1 - max (max (max (cond p 1 0) t) (max (cond q 1 0) r)) (max (cond s 1 0) f) ≡ cond
    ((not p && (not q && not s)) && rest) 1 0
with_first true q s rest t r f h = omega arith
with_first false true s rest t r f h = omega arith
with_first false false true rest t r f h = omega arith
with_first false false false rest t r f h = omega arith

-- a column is free where none of the masks has its bit
pub free_by_masks : (columns : List ℕ) (c : ℕ)
    → 1 - max (max (bit_at (taken_of columns) c) (bit_at (rising_of columns) c))
    (bit_at (falling_of columns) c) ≡ cond (is_free columns c) 1 0
unfolding taken_of rising_of falling_of is_free
free_by_masks [] c = let z = bit_at-zero c in omega arith
free_by_masks (a ∷ columns) c =
    let rows = length columns + 1 in
    let t = bit_at_or (2 ^ a) (taken_of columns) c
    ∙ ap (λ v. max v (bit_at (taken_of columns) c)) (bit_pow a c) in
    let r = bit_at_or (2 ^ (a + rows)) (rising_of columns) c
    ∙ ap (λ v. max v (bit_at (rising_of columns) c)) (bit_pow (a + rows) c) in
    let f = bit_at_or (2 ^ a / 2 ^ rows) (falling_of columns) c
    ∙ ap (λ v. max v (bit_at (falling_of columns) c))
    (bit_shifted (2 ^ a) rows c ∙ bit_pow_back a (c + rows)) in
    ap₂ (λ u v. 1 - max u v) (ap₂ max t r) f
    ∙ with_first (a == c) (a + rows == c) (c + rows == a) (is_free columns c)
    (bit_at (taken_of columns) c) (bit_at (rising_of columns) c) (bit_at (falling_of columns) c)
    (free_by_masks columns c)

-- the mask of the free columns below n, by its bits
is_one : (b : Bool) → (cond b 1 0 == 1) ≡ b
is_one true = refl
is_one false = refl

-- a column below n is free where its bit is in none of the masks
pub free_below : (columns : List ℕ) (n c : ℕ) → n < 17
    → bit_or (bit_or (taken_of columns) (rising_of columns)) (falling_of columns) < 2 ^ 32
    → (bit_at (bit_and (bit_not w32
    (bit_or (bit_or (taken_of columns) (rising_of columns)) (falling_of columns)))
    (2 ^ n - 1)) c == 1) ≡
    (nat_lt c n && is_free columns c)
free_below columns n c small fits =
    let t = taken_of columns in
    let r = rising_of columns in
    let f = falling_of columns in
    let all = bit_or (bit_or t r) f in
    elim (cases_lt c n) [
      | inl lt ↦
          let one : bit_at (2 ^ n - 1) c ≡ 1 = bit_at_ones n c lt in
          let none : bit_at (bit_not w32 all) c ≡ cond (is_free columns c) 1 0 =
          bit_at_not w32 all c fits (omega arith)
          ∙ ap (λ v. 1 - v) (bit_at_or (bit_or t r) f c
          ∙ ap (λ v. max v (bit_at f c)) (bit_at_or t r c))
          ∙ free_by_masks columns c
          in
          let least : min (bit_at (bit_not w32 all) c) (bit_at (2 ^ n - 1) c)
          ≡ bit_at (bit_not w32 all) c
          = omega (arith, bit_at-lt (bit_not w32 all) c) in
          ap (λ v. v == 1) (bit_at_and (bit_not w32 all) (2 ^ n - 1) c ∙ least ∙ none)
          ∙ is_one (is_free columns c) ∙ sym (ap (λ b. b && is_free columns c) (lt-ltb c n lt))
      | inr ge ↦
          let least : min (bit_at (bit_not w32 all) c) (bit_at (2 ^ n - 1) c) ≡ 0 =
          omega (arith, bit_at_ones_above n c ge) in
          ap (λ v. v == 1) (bit_at_and (bit_not w32 all) (2 ^ n - 1) c ∙ least)
          ∙ sym (ap (λ b. b && is_free columns c) (le-ltb c n ge))
    ]

-- the mask of the free columns
pub free_mask : (columns : List ℕ) (n t r f : ℕ) → n < 17 → t ≡ taken_of columns → r
    ≡ rising_of columns
    → f ≡ falling_of columns → t < 2 ^ 32 → r < 2 ^ 32 → f < 2 ^ 32
    → (c : ℕ) → (bit_at (bit_and (4294967295 - bit_or (bit_or t r) f)
    (1 * 2 ^ n % 4294967296 - 1)) c ==
    1) ≡ (nat_lt c n && is_free columns c)
free_mask columns n t r f small t_is r_is f_is t_fits r_fits f_fits c =
    let low : 2 ^ n < 2 ^ 17 = pow_below n 17 small in
    let one : 1 * 2 ^ n % 4294967296 ≡ 2 ^ n = omega arith in
    let all : bit_or (bit_or t r) f ≡ bit_or (bit_or (taken_of columns) (rising_of columns))
    (falling_of columns) = ap₂ bit_or (ap₂ bit_or t_is r_is) f_is in
    let fits = or_lt 32 (bit_or t r) f (or_lt 32 t r t_fits r_fits) f_fits in
    ap₂ (λ u v. bit_at (bit_and (4294967295 - u) (v - 1)) c == 1) all one
    ∙ free_below columns n c small (subst (λ v. v < 2 ^ 32) all fits)

-- the order of two masks is free
or_assoc : (a b c : ℕ) → bit_or a (bit_or b c) ≡ bit_or (bit_or a b) c
or_assoc a b c =
    same_from_bits _ _ (λ i.
    let x = bit_at_or a (bit_or b c) i ∙ ap (max (bit_at a i)) (bit_at_or b c i) in
    let y = bit_at_or (bit_or a b) c i ∙ ap (λ v. max v (bit_at c i)) (bit_at_or a b i) in
    let z : max (bit_at a i) (max (bit_at b i) (bit_at c i)) ≡ max (max (bit_at a i) (bit_at b i))
    (bit_at c i) = omega arith in
    x ∙ z ∙ sym y)

-- two masks, moved up by one place
or_double : (a b : ℕ) → bit_or (a * 2) (b * 2) ≡ bit_or a b * 2
or_double a b =
    let x : a * 2 / 2 ≡ a = omega arith in
    let y : b * 2 / 2 ≡ b = omega arith in
    let z : max (a * 2 % 2) (b * 2 % 2) ≡ 0 = omega arith in
    or_step (a * 2) (b * 2) ∙ ap₂ (λ u v. u * 2 + v) (ap₂ bit_or x y) z ∙ omega arith

-- the masks with one more queen
pub taken_push : (columns : List ℕ) (c : ℕ)
    → taken_of (columns ++ c ∷ []) ≡ bit_or (taken_of columns) (2 ^ c)
unfolding taken_of
taken_push [] c = or_comm (2 ^ c) 0
taken_push (a ∷ columns) c = ap (bit_or (2 ^ a)) (taken_push columns c)
    ∙ or_assoc (2 ^ a) (taken_of columns) (2 ^ c)

-- the rising mask with one queen more
pub rising_push : (columns : List ℕ) (c : ℕ)
    → rising_of (columns ++ c ∷ []) ≡ bit_or (rising_of columns) (2 ^ c) * 2
unfolding rising_of
rising_push [] c = or_zero_r (2 ^ (c + 1)) ∙ ap (λ k. 2 ^ k) (omega arith) ∙ pow-suc 2 c
    ∙ ap (λ v. v * 2) (sym (or_zero_l (2 ^ c)))
rising_push (a ∷ columns) c =
    let rows = length columns + 1 in
    let place : a + (length (columns ++ c ∷ []) + 1) ≡ suc (a + rows) =
    omega (arith, length_push columns c) in
    ap₂ bit_or (ap (λ k. 2 ^ k) place ∙ pow-suc 2 (a + rows)) (rising_push columns c)
    ∙ or_double (2 ^ (a + rows)) (bit_or (rising_of columns) (2 ^ c))
    ∙ ap (λ v. v * 2) (or_assoc (2 ^ (a + rows)) (rising_of columns) (2 ^ c))

-- the falling mask with one queen more
pub falling_push : (columns : List ℕ) (c : ℕ)
    → falling_of (columns ++ c ∷ []) ≡ bit_or (falling_of columns) (2 ^ c) / 2
unfolding falling_of
falling_push [] c = or_zero_r (2 ^ c / 2 ^ 1) ∙ ap (λ v. v / 2) (sym (or_zero_l (2 ^ c)))
falling_push (a ∷ columns) c =
    let rows = length columns + 1 in
    let place : length (columns ++ c ∷ []) + 1 ≡ rows + 1 = omega (arith, length_push columns c) in
    ap₂ bit_or (ap (λ k. 2 ^ a / 2 ^ k) place ∙ sym (shr-shr (2 ^ a) rows 1))
    (falling_push columns c)
    ∙ sym (or_shr (2 ^ a / 2 ^ rows) (bit_or (falling_of columns) (2 ^ c)) 1)
    ∙ ap (λ v. v / 2) (or_assoc (2 ^ a / 2 ^ rows) (falling_of columns) (2 ^ c))

-- no bit of a rising diagonal is lost in 32 bits
pub rising_below : (columns : List ℕ) → All (λ c. c < 16) columns
    → rising_of columns < 2 ^ (16 + length columns)
unfolding rising_of
rising_below [] all = omega arith
rising_below (a ∷ columns) all =
    let first = All-head (λ c. c < 16) a columns all in
    let k = 16 + length (a ∷ columns) in
    let deeper : 2 ^ k ≡ 2 ^ (16 + length columns) * 2 = ap (λ j. 2 ^ j) (omega arith)
    ∙ pow-suc 2 (16 + length columns) in
    let rest : rising_of columns < 2 ^ k =
    omega (arith, rising_below columns (All-tail (λ c. c < 16) a columns all), deeper) in
    or_lt k (2 ^ (a + (length columns + 1))) (rising_of columns) (pow_below _ _ (omega arith)) rest
