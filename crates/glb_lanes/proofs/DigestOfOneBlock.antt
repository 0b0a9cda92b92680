-- A message of 24 bytes is one block: which word is where, and what the digest is.
use Rattle.std.proofs.Common.{◌≡◌, ℕ, zero, suc, ◌+◌, ◌-◌, ◌^◌, ◌<◌, ◌≤◌, List, [], ◌∷◌, ◌++◌, length, take, slice_index, refl, sym, arith, length-append, subst, inl, inr}
use Rattle.std.proofs.lemmas.Bool.{cases_lt}
use Rattle.std.proofs.lemmas.List.{append_assoc, take_all, get_or_append_left, get_or-append_right}
use Rattle.std.proofs.lemmas.Nat.{from_be_bytes-to_be_bytes_4}
use Rattle.std.specs.Int.{w32, to_be_bytes}
use Rattle.sha1.specs.Sha1.{sha1, padded_message, padding, hash_after, compress, digest_bytes, initial_hash, word_at}

-- what holds of each of the eight lanes
pub below_eight : (P : ℕ → Type 0) → P 0 → P 1 → P 2 → P 3 → P 4 → P 5 → P 6 → P 7 → (j : ℕ)
    → j < 8 → P j
below_eight P p0 p1 p2 p3 p4 p5 p6 p7 zero h = p0
below_eight P p0 p1 p2 p3 p4 p5 p6 p7 (suc zero) h = p1
below_eight P p0 p1 p2 p3 p4 p5 p6 p7 (suc (suc zero)) h = p2
below_eight P p0 p1 p2 p3 p4 p5 p6 p7 (suc (suc (suc zero))) h = p3
below_eight P p0 p1 p2 p3 p4 p5 p6 p7 (suc (suc (suc (suc zero)))) h = p4
below_eight P p0 p1 p2 p3 p4 p5 p6 p7 (suc (suc (suc (suc (suc zero))))) h = p5
below_eight P p0 p1 p2 p3 p4 p5 p6 p7 (suc (suc (suc (suc (suc (suc zero)))))) h = p6
below_eight P p0 p1 p2 p3 p4 p5 p6 p7 (suc (suc (suc (suc (suc (suc (suc zero))))))) h = p7
below_eight P p0 p1 p2 p3 p4 p5 p6 p7 (suc (suc (suc (suc (suc (suc (suc (suc n)))))))) h = absurd
    (omega arith)

-- what holds of each of the four lanes
pub below_four : (P : ℕ → Type 0) → P 0 → P 1 → P 2 → P 3 → (j : ℕ) → j < 4 → P j
below_four P p0 p1 p2 p3 zero h = p0
below_four P p0 p1 p2 p3 (suc zero) h = p1
below_four P p0 p1 p2 p3 (suc (suc zero)) h = p2
below_four P p0 p1 p2 p3 (suc (suc (suc zero))) h = p3
below_four P p0 p1 p2 p3 (suc (suc (suc (suc n)))) h = absurd (omega arith)

-- what holds of each of the sixteen words
pub below_sixteen : (P : ℕ → Type 0) → P 0 → P 1 → P 2 → P 3 → P 4 → P 5 → P 6 → P 7
    → P 8 → P 9 → P 10 → P 11 → P 12 → P 13 → P 14 → P 15 → (k : ℕ) → k < 16 → P k
below_sixteen P a0 a1 a2 a3 a4 a5 a6 a7 b0 b1 b2 b3 b4 b5 b6 b7 k h =
    elim (cases_lt k 8) [
      | inl lt ↦ below_eight P a0 a1 a2 a3 a4 a5 a6 a7 k lt
      | inr ge ↦
          let place : 8 + (k - 8) ≡ k = omega arith in
          subst P place (below_eight (λ col. P (8 + col)) b0 b1 b2 b3 b4 b5 b6 b7 (k - 8)
          (omega arith))
    ]

-- eight numbers in a row
pub counted : (f j : ℕ) → j < 8
    → slice_index (f ∷ (f + 1) ∷ (f + 2) ∷ (f + 3) ∷ (f + 4) ∷ (f + 5) ∷ (f + 6) ∷ (f + 7) ∷ []) j
    ≡ f + j
counted f = below_eight _ (omega arith) refl refl refl refl refl refl refl

-- four numbers in a row
pub counted_four : (f j : ℕ) → j < 4 → slice_index (f ∷ (f + 1) ∷ (f + 2) ∷ (f + 3) ∷ []) j ≡ f + j
counted_four f = below_four _ (omega arith) refl refl refl

-- a word of the first of two parts
pub word_left : (p q : List ℕ) (i : ℕ) → i + 4 ≤ length p → word_at (p ++ q) i ≡ word_at p i
word_left p q i h =
    rw (
      get_or_append_left p q 0 i (omega arith),
      get_or_append_left p q 0 (i + 1) (omega arith),
      get_or_append_left p q 0 (i + 2) (omega arith),
      get_or_append_left p q 0 (i + 3) (omega arith),
    ) refl

-- a word of the second part, behind 20 bytes
pub word_right : (p q : List ℕ) (i : ℕ) → length p ≡ 20 → 20 ≤ i
    → word_at (p ++ q) i ≡ word_at q (i - 20)
word_right p q i l h =
    let one : i + 1 - 20 ≡ i - 20 + 1 = omega arith in
    let two : i + 2 - 20 ≡ i - 20 + 2 = omega arith in
    let three : i + 3 - 20 ≡ i - 20 + 3 = omega arith in
    rw (
      get_or-append_right p q 20 i 0 l h,
      get_or-append_right p q 20 (i + 1) 0 l (omega arith),
      get_or-append_right p q 20 (i + 2) 0 l (omega arith),
      get_or-append_right p q 20 (i + 3) 0 l (omega arith),
      one,
      two,
      three,
    ) refl

-- the word of a number's bytes is the number
pub word_of_number : (n : ℕ) → n < 2 ^ 32 → word_at (to_be_bytes w32 n ++ padding 24) 0 ≡ n
word_of_number n h = from_be_bytes-to_be_bytes_4 n h

-- 24 bytes with their padding
padded_24 : (m : List ℕ) → length m ≡ 24 → padded_message m ≡ m ++ padding 24
padded_24 m l = rw l refl

-- the digest of 24 bytes, from the hash value after their one block
sha1_of_block : (m b h : List ℕ) → length m ≡ 24 → b ≡ m ++ padding 24
    → h ≡ compress initial_hash b → digest_bytes h 5 ≡ sha1 m
unfolding sha1 hash_after
sha1_of_block m b h l eb eh =
    let lb : length (m ++ padding 24) ≡ 64 = omega (arith, length-append m (padding 24)) in
    let whole : take 64 (m ++ padding 24) ≡ m ++ padding 24 =
    take_all 64 (m ++ padding 24) (omega arith) in
    rw (padded_24 m l, lb, whole, eh, eb) refl

-- the same of 20 bytes and 4
pub sha1_24 : (p n h : List ℕ) → length p ≡ 20 → length n ≡ 4
    → h ≡ compress initial_hash (p ++ (n ++ padding 24)) → digest_bytes h 5 ≡ sha1 (p ++ n)
sha1_24 p n h lp ln eh = sha1_of_block (p ++ n) (p ++ (n ++ padding 24)) h
    (omega (arith, length-append p n)) (sym (append_assoc p n (padding 24))) eh
