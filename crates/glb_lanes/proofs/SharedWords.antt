-- Eight blocks that differ in the last three bits of one number: each word is what they have in
-- common, with what the number adds.
use Rattle.std.proofs.Common.{◌≡◌, ◌≢◌, ℕ, zero, suc, ◌+◌, ◌-◌, ◌*◌, ◌/◌, ◌%◌, ◌^◌, ◌<◌, ◌≤◌, ◌&&◌, Bool, true, false, List, [], ◌++◌, length, slice_index, slice_index_or, slice_set, bit_or, bit_xor, refl, sym, ap, ◌∙◌, arith, inl, inr}
use Rattle.std.proofs.Math.Dec.{eqb, ltb}
use Rattle.std.proofs.lemmas.Bool.{cases_lt, eqb-true, ltb-true}
use Rattle.std.proofs.lemmas.List.{get_or-set_same, get_or-set_other}
use Rattle.std.proofs.lemmas.Nat.{or_shifted, xor_block, xor_comm, xor_lt, xor_mod, xor_shr}
use Rattle.std.specs.Int.Bits.{xor_assoc, xor_zero_l, xor_zero_r}
use Rattle.std.specs.Int.{w32, rotate_left, to_be_bytes}
use Rattle.sha1.specs.Sha1.{next_word, padding, schedule, word_at}
use Rattle.sha1.proofs.Schedule.{slice_index-schedule_first, slice_index-schedule_next}
use Rattle.glb_lanes.specs.declared.row.TheConstants.{ADDED}
use Rattle.glb_lanes.specs.inner.Rows.{added, IsShared}
use Rattle.glb_lanes.proofs.DigestOfOneBlock.{below_sixteen, word_left, word_right, word_of_number}

-- a rotation by one place: all bits but the highest move up, and the highest comes last
rotated : (n : ℕ) → n < 2 ^ 32 → rotate_left w32 n 1 ≡ n % 2 ^ 31 * 2 ^ 1 + n / 2 ^ 31
rotated n fits =
    let low : n * 2 ^ 1 % 2 ^ 32 ≡ n % 2 ^ 31 * 2 ^ 1 = omega arith in
    ap (λ m. bit_or m (n / 2 ^ 31)) low ∙ or_shifted (n % 2 ^ 31) 1 (n / 2 ^ 31) (omega arith)

-- a rotation goes through `xor`
rotated-xor : (a b : ℕ) → a < 2 ^ 32 → b < 2 ^ 32
    → bit_xor (rotate_left w32 a 1) (rotate_left w32 b 1) ≡ rotate_left w32 (bit_xor a b) 1
rotated-xor a b fa fb =
    rw (
      rotated a fa,
      rotated b fb,
      rotated (bit_xor a b) (xor_lt 32 a b fa fb),
      xor_mod a b 31,
      xor_shr a b 31,
    ) (xor_block 1 (a % 2 ^ 31) (b % 2 ^ 31) (a / 2 ^ 31) (b / 2 ^ 31) (omega arith) (omega arith))

-- the inner two of four change places
xor_middle : (a b c d : ℕ)
    → bit_xor (bit_xor a b) (bit_xor c d) ≡ bit_xor (bit_xor a c) (bit_xor b d)
xor_middle a b c d =
    xor_assoc a b (bit_xor c d)
    ∙ ap (bit_xor a) (sym (xor_assoc b c d) ∙ ap (λ x. bit_xor x d) (xor_comm b c) ∙ xor_assoc c b d)
    ∙ sym (xor_assoc a c (bit_xor b d))

-- all four
abbrev xor_four : ℕ → ℕ → ℕ → ℕ → ℕ
xor_four a b c d = bit_xor (bit_xor (bit_xor a b) c) d

-- pairs of four, joined one by one
xor_four-pairs : (a b c d p q r s : ℕ)
    → bit_xor (xor_four a b c d) (xor_four p q r s)
    ≡ xor_four (bit_xor a p) (bit_xor b q) (bit_xor c r) (bit_xor d s)
xor_four-pairs a b c d p q r s =
    xor_middle (bit_xor (bit_xor a b) c) d (bit_xor (bit_xor p q) r) s
    ∙ ap (λ x. bit_xor x (bit_xor d s))
    (xor_middle (bit_xor a b) c (bit_xor p q) r
    ∙ ap (λ x. bit_xor x (bit_xor c r)) (xor_middle a b p q))

-- whether p holds of each number below n
each_below : (ℕ → Bool) → ℕ → Bool
each_below p zero = true
each_below p (suc n) = p n && each_below p n

both_true : (a b : Bool) → (a && b) ≡ true → (a ≡ true) × (b ≡ true)
both_true true b e = (refl, e)
both_true false b e = absurd (cc)

each_below-at : (p : ℕ → Bool) (n k : ℕ) → each_below p n ≡ true → k < n → p k ≡ true
unfolding each_below
each_below-at p zero k all k_lt = absurd (omega arith)
each_below-at p (suc n) k all k_lt =
    let two = both_true (p n) (each_below p n) all in
    elim (cases_lt k n) [
      | inl lt ↦ each_below-at p n k two.1 lt
      | inr ge ↦
          let e : k ≡ n = omega arith in
          rw e two.0
    ]

-- what is true of each number added, by a look at all
each_added-at : (p : ℕ → ℕ → Bool) (m t j : ℕ) → each_below (λ t. each_below (p t) 8) m ≡ true
    → t < m → j < 8 → p t j ≡ true
each_added-at p m t j all t_lt j_lt =
    each_below-at (p t) 8 j (each_below-at (λ t. each_below (p t) 8) m t all t_lt) j_lt

-- the word that follows from what is added to those before it
abbrev next_added : ℕ → ℕ → ℕ
next_added t j = rotate_left w32
    (xor_four (added (t + 13) j) (added (t + 8) j) (added (t + 2) j) (added t j)) 1

added_next : (t j : ℕ) → t < 64 → j < 8 → added (t + 16) j ≡ next_added t j
unfolding each_below
added_next t j t_lt j_lt = eqb-true _ _
    (each_added-at (λ t j. eqb (added (t + 16) j) (next_added t j)) 64 t j refl t_lt j_lt)

added_fits : (t j : ℕ) → t < 80 → j < 8 → added t j < 2 ^ 32
unfolding each_below
added_fits t j t_lt j_lt = ltb-true _ _
    (each_added-at (λ t j. ltb (added t j) (2 ^ 32)) 80 t j refl t_lt j_lt)

-- eight numbers for each word
pub added_long : (t : ℕ) → t < 80 → length (slice_index_or ADDED t []) ≡ 8
unfolding each_below
added_long t t_lt = eqb-true _ _
    (each_below-at (λ t. eqb (length (slice_index_or ADDED t [])) 8) 80 t refl t_lt)

-- the word that follows, with what each of eight numbers adds to it
follows : (b w : List ℕ) (t j : ℕ) → ((k : ℕ) → slice_index w k < 2 ^ 32) → t < 64 → j < 8
    → IsShared b j w (t + 16)
    → bit_xor (rotate_left w32 (xor_four (slice_index w (t + 13)) (slice_index w (t + 8))
    (slice_index w (t + 2)) (slice_index w t)) 1) (added (t + 16) j)
    ≡ slice_index (schedule b 64) (t + 16)
follows b w t j fits t_lt j_lt held =
    let four : (a b c d : ℕ) → a < 2 ^ 32 → b < 2 ^ 32 → c < 2 ^ 32 → d < 2 ^ 32
    → xor_four a b c d < 2 ^ 32 =
    λ a b c d fa fb fc fd. xor_lt 32 _ d (xor_lt 32 _ c (xor_lt 32 a b fa fb) fc) fd in
    let e13 : t + 16 - 3 ≡ t + 13 = omega arith in
    let e8 : t + 16 - 8 ≡ t + 8 = omega arith in
    let e2 : t + 16 - 14 ≡ t + 2 = omega arith in
    let e0 : t + 16 - 16 ≡ t = omega arith in
    let next : slice_index (schedule b 64) (t + 16) ≡ next_word (schedule b 64) (t + 16) =
    slice_index-schedule_next b 64 (t + 16) (omega arith) (omega arith) in
    let w13 = slice_index w (t + 13) in
    let w8 = slice_index w (t + 8) in
    let w2 = slice_index w (t + 2) in
    let w0 = slice_index w t in
    let a13 = added (t + 13) j in
    let a8 = added (t + 8) j in
    let a2 = added (t + 2) j in
    let a0 = added t j in
    let laid : xor_four (bit_xor w13 a13) (bit_xor w8 a8) (bit_xor w2 a2) (bit_xor w0 a0)
    ≡ xor_four (slice_index (schedule b 64) (t + 13)) (slice_index (schedule b 64) (t + 8))
    (slice_index (schedule b 64) (t + 2)) (slice_index (schedule b 64) t) =
    rw (
      held (t + 13) (omega arith),
      held (t + 8) (omega arith),
      held (t + 2) (omega arith),
      held t (omega arith),
    ) refl in
    ap (bit_xor (rotate_left w32 (xor_four w13 w8 w2 w0) 1)) (added_next t j t_lt j_lt)
    ∙ rotated-xor (xor_four w13 w8 w2 w0) (xor_four a13 a8 a2 a0)
    (four w13 w8 w2 w0 (fits (t + 13)) (fits (t + 8)) (fits (t + 2)) (fits t))
    (four a13 a8 a2 a0 (added_fits (t + 13) j (omega arith) j_lt)
    (added_fits (t + 8) j (omega arith) j_lt)
    (added_fits (t + 2) j (omega arith) j_lt) (added_fits t j (omega arith) j_lt))
    ∙ ap (λ m. rotate_left w32 m 1) (xor_four-pairs w13 w8 w2 w0 a13 a8 a2 a0 ∙ laid)
    ∙ sym (next ∙ rw (e13, e8, e2, e0) refl)

-- one word more
pub shared_more : (b w : List ℕ) (t j : ℕ) → length w ≡ 80 → ((k : ℕ) → slice_index w k < 2 ^ 32)
    → t < 64 → j < 8 → IsShared b j w (t + 16)
    → IsShared b j (slice_set w (t + 16) (rotate_left w32 (xor_four (slice_index w (t + 13))
    (slice_index w (t + 8)) (slice_index w (t + 2)) (slice_index w t)) 1)) (t + 17)
shared_more b w t j long fits t_lt j_lt held k k_lt =
    elim (cases_lt k (t + 16)) [
      | inl below ↦
          let other : k ≢ t + 16 = λ e. absurd (omega (arith, e, below)) in
          ap (λ x. bit_xor x (added k j)) (get_or-set_other w (t + 16) k _ 0 other) ∙ held k below
      | inr above ↦
          let e : k ≡ t + 16 = omega arith in
          rw e (ap (λ x. bit_xor x (added (t + 16) j))
          (get_or-set_same w (t + 16) _ 0 (omega arith))
          ∙ follows b w t j fits t_lt j_lt held)
    ]

-- the same number of words, spelled another way
pub shared_at : (b w : List ℕ) (j n k : ℕ) → n ≡ k → IsShared b j w n → IsShared b j w k
shared_at b w j n k e held i lt = held i (omega (arith, e))

-- the first words of more
pub shared_less : (b w : List ℕ) (j n k : ℕ) → k ≤ n → IsShared b j w n → IsShared b j w k
shared_less b w j n k e held i lt = held i (omega (arith, e))

-- the last three bits, put to a number that has none
xor_low : (f j : ℕ) → f % 8 ≡ 0 → j < 8 → bit_xor f j ≡ f + j
xor_low f j clear j_lt =
    let high : f ≡ f / 8 * 2 ^ 3 + 0 = omega arith in
    let low : j ≡ 0 * 2 ^ 3 + j = omega arith in
    (λ i. bit_xor (high i) (low i))
    ∙ xor_block 3 (f / 8) 0 0 j (omega arith) (omega arith)
    ∙ (λ i. xor_zero_r (f / 8) i * 2 ^ 3 + xor_zero_l j i)
    ∙ omega arith

-- the first sixteen words of eight numbers in a row
pub shared_first : (p w : List ℕ) (f j : ℕ) → length p ≡ 20 → f % 8 ≡ 0 → f + 8 ≤ 2 ^ 32 → j < 8
    → ((k : ℕ) → k < 16
    → slice_index w k ≡ word_at (p ++ (to_be_bytes w32 f ++ padding 24)) (4 * k))
    → IsShared (p ++ (to_be_bytes w32 (f + j) ++ padding 24)) j w 16
unfolding each_below
shared_first p w f j lp clear fits j_lt is k k_lt =
    let q : ℕ → List ℕ = λ n. to_be_bytes w32 n ++ padding 24 in
    let b : List ℕ = p ++ q (f + j) in
    let at : (k : ℕ) → ℕ → ℕ = λ k n. word_at (p ++ q n) (4 * k) in
    let same : (k : ℕ) → each_below (λ j. eqb (added k j) 0) 8 ≡ true → at k f ≡ at k (f + j)
    → bit_xor (at k f) (added k j) ≡ at k (f + j) =
    λ k none e. ap (bit_xor (at k f))
    (eqb-true _ _ (each_below-at (λ j. eqb (added k j) 0) 8 j none j_lt))
    ∙ xor_zero_r (at k f) ∙ e in
    let left : (k i : ℕ) → i ≡ 4 * k → i + 4 ≤ 20 → at k f ≡ at k (f + j) =
    λ k i e le. rw (← e) (word_left p (q f) i (omega arith) ∙ sym (word_left p (q (f + j)) i
    (omega arith))) in
    let right : (i : ℕ) → 24 ≤ i → word_at (q f) (i - 20) ≡ word_at (q (f + j)) (i - 20)
    → word_at (p ++ q f) i ≡ word_at (p ++ q (f + j)) i =
    λ i ge e. word_right p (q f) i lp (omega arith) ∙ e
    ∙ sym (word_right p (q (f + j)) i lp (omega arith)) in
    let number : (n : ℕ) → n < 2 ^ 32 → word_at (p ++ q n) 20 ≡ n =
    λ n lt. word_right p (q n) 20 lp (omega arith) ∙ word_of_number n lt in
    ap (λ x. bit_xor x (added k j)) (is k k_lt)
    ∙ below_sixteen (λ k. bit_xor (at k f) (added k j) ≡ at k (f + j))
    (same 0 refl (left 0 0 refl (omega arith)))
    (same 1 refl (left 1 4 refl (omega arith)))
    (same 2 refl (left 2 8 refl (omega arith)))
    (same 3 refl (left 3 12 refl (omega arith)))
    (same 4 refl (left 4 16 refl (omega arith)))
    (ap (bit_xor (at 5 f)) (eqb-true _ _ (each_below-at (λ j. eqb (added 5 j) j) 8 j refl j_lt))
    ∙ ap (λ n. bit_xor n j) (number f (omega arith)) ∙ xor_low f j clear j_lt
    ∙ sym (number (f + j) (omega arith)))
    (same 6 refl (right 24 (omega arith) refl))
    (same 7 refl (right 28 (omega arith) refl))
    (same 8 refl (right 32 (omega arith) refl))
    (same 9 refl (right 36 (omega arith) refl))
    (same 10 refl (right 40 (omega arith) refl))
    (same 11 refl (right 44 (omega arith) refl))
    (same 12 refl (right 48 (omega arith) refl))
    (same 13 refl (right 52 (omega arith) refl))
    (same 14 refl (right 56 (omega arith) refl))
    (same 15 refl (right 60 (omega arith) refl)) k k_lt
    ∙ sym (slice_index-schedule_first b 64 k k_lt)
