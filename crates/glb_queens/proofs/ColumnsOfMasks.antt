-- The columns of a mask, the lowest first.
use Rattle.std.proofs.Common.{◌≡◌, ◌≢◌, ℕ, zero, suc, ◌+◌, ◌-◌, ◌/◌, ◌%◌, ◌^◌, ◌<◌, ◌≤◌, Bool, true, false, not, ◌&&◌, cond, ◌==◌, nat_lt, length, map, List, [], ◌∷◌, ◌++◌, inl, inr, refl, sym, ap, ap₂, ◌∙◌, arith, zero-add, append_assoc, bit_and, w32}
use Rattle.std.specs.Int.{bit_at, trailing_zeros}
use Rattle.std.specs.List.{filter, range_with_len}
use Rattle.std.proofs.lemmas.Bool.{cases_eq, cases_lt, eq-eqb, lt-ltb, le-ltb, cond-true, cond-false}
use Rattle.std.proofs.lemmas.List.Filters.{length-filter_both}
use Rattle.std.proofs.lemmas.List.FromFn.{length-range_with_len}
use Rattle.std.proofs.lemmas.Nat.Bits.{bit_at-trailing_zeros, bit_at-suc, bit_at_lowest, bit_at_and, bit_at-lt}
use Rattle.glb_queens.specs.inner.Masks.{columns_in}

-- tests that agree on a run of numbers keep the same of them
pub filter_range : (p q : ℕ → Bool) (a n : ℕ) → ((k : ℕ) → a ≤ k → k < a + n → p k ≡ q k)
    → filter p (range_with_len a n) ≡ filter q (range_with_len a n)
filter_range p q a zero h = refl
filter_range p q a (suc n) h =
    let rest = filter_range p q (a + 1) n (λ k low high. h k (omega arith) (omega arith)) in
    ap₂ (λ t l. cond t (a ∷ l) l) (h a (omega arith) (omega arith)) rest

-- the first number that passes comes first
pub first_kept : (p q : ℕ → Bool) (t a n : ℕ) → a ≤ t → t < a + n → p t ≡ true → q t ≡ false
    → ((k : ℕ) → k < t → p k ≡ false) → ((k : ℕ) → k ≢ t → k < a + n → p k ≡ q k)
    → filter p (range_with_len a n) ≡ t ∷ filter q (range_with_len a n)
first_kept p q t a zero low high passes fails below same = absurd (omega arith)
first_kept p q t a (suc n) low high passes fails below same =
    elim (cases_eq a t) [
      | inl here ↦
          let rest = filter_range p q (a + 1) n
          (λ k k_low k_high. same k (λ e. absurd (omega (arith, e))) (omega arith)) in
          let pa : p a ≡ true = ap p here ∙ passes in
          let qa : q a ≡ false = ap q here ∙ fails in
          cond-true (p a) _ _ pa ∙ ap₂ (λ x l. x ∷ l) here rest
          ∙ ap (λ l. t ∷ l) (sym (cond-false (q a) _ _ qa))
      | inr later ↦
          let lt : a < t = omega (arith, later) in
          let pa : p a ≡ false = below a lt in
          let qa : q a ≡ false = sym (same a later (omega arith)) ∙ pa in
          cond-false (p a) _ _ pa
          ∙ first_kept p q t (a + 1) n (omega arith) (omega arith) passes fails below
          (λ k ne k_high. same k ne (omega arith))
          ∙ ap (λ l. t ∷ l) (sym (cond-false (q a) _ _ qa))
    ]

-- the columns of a mask that has no bit from 16 on, the lowest first
pub record IsLowest (m t rest : ℕ) : Type 0 where
  pub small : t < 16
  pub set : bit_at m t ≡ 1
  pub first : columns_in m ≡ t ∷ columns_in rest
  pub only : (c : ℕ) → bit_at rest c ≡ 1 → bit_at m c ≡ 1

-- one less clears the lowest bit, and leaves those above it
less_at : (t m : ℕ) → bit_at m t ≡ 1 → ((k : ℕ) → k < t → bit_at m k ≡ 0) → bit_at (m - 1) t ≡ 0
less_at zero m one below = omega (arith, bit_at_lowest m, bit_at_lowest (m - 1), one)
less_at (suc t) m one below =
    let even : m % 2 ≡ 0 = sym (bit_at_lowest m) ∙ below 0 (omega arith) in
    let half : (m - 1) / 2 ≡ m / 2 - 1 = omega (arith, even) in
    bit_at-suc (m - 1) t ∙ ap (λ v. bit_at v t) half
    ∙ less_at t (m / 2) (sym (bit_at-suc m t) ∙ one)
    (λ k lt. sym (bit_at-suc m k) ∙ below (suc k) (omega arith))

-- taking 1 off leaves the bits above the lowest one as they are
less_above : (t m i : ℕ) → t < i → bit_at m t ≡ 1 → ((k : ℕ) → k < t → bit_at m k ≡ 0)
    → bit_at (m - 1) i ≡ bit_at m i
less_above t m zero lt one below = absurd (omega arith)
less_above zero m (suc i) lt one below =
    let odd : m % 2 ≡ 1 = sym (bit_at_lowest m) ∙ one in
    let half : (m - 1) / 2 ≡ m / 2 = omega (arith, odd) in
    bit_at-suc (m - 1) i ∙ ap (λ v. bit_at v i) half ∙ sym (bit_at-suc m i)
less_above (suc t) m (suc i) lt one below =
    let even : m % 2 ≡ 0 = sym (bit_at_lowest m) ∙ below 0 (omega arith) in
    let half : (m - 1) / 2 ≡ m / 2 - 1 = omega (arith, even) in
    bit_at-suc (m - 1) i ∙ ap (λ v. bit_at v i) half
    ∙ less_above t (m / 2) i (omega arith) (sym (bit_at-suc m t) ∙ one)
    (λ k lt. sym (bit_at-suc m k) ∙ below (suc k) (omega arith))
    ∙ sym (bit_at-suc m i)

-- a mask without its lowest bit has the other bits
cleared_other : (m t k : ℕ) → bit_at m t ≡ 1 → ((j : ℕ) → j < t → bit_at m j ≡ 0) → k ≢ t
    → bit_at (bit_and m (m - 1)) k ≡ bit_at m k
cleared_other m t k one below other =
    elim (cases_lt k t) [
      | inl low ↦ omega (arith, bit_at_and m (m - 1) k, below k low)
      | inr high ↦ omega (
        arith,
        bit_at_and m (m - 1) k,
        less_above t m k
            (omega (arith, high, other)) one below,
      )
    ]

-- the lowest bit of a mask is its first column, and without it the others stay
pub lowest : (m : ℕ) → 0 < m → m < 2 ^ 32 → ((c : ℕ) → bit_at m c ≡ 1 → c < 16)
    → IsLowest m (trailing_zeros w32 m) (bit_and m (m - 1))
unfolding columns_in
lowest m pos fits within =
    let low = bit_at-trailing_zeros w32 m pos fits in
    let t = trailing_zeros w32 m in
    let rest = bit_and m (m - 1) in
    let gone : bit_at rest t ≡ 0 = omega (arith, bit_at_and m (m - 1) t, less_at t m low.1 low.2) in
    record {
      small = within t low.1;
      set = low.1;
      first =
          first_kept (λ c. bit_at m c == 1) (λ c. bit_at rest c == 1) t 0 16 (omega arith)
          (within t low.1) (eq-eqb _ _ low.1)
          (ap (λ v. v == 1) gone)
          (λ k lt. ap (λ v. v == 1) (low.2 k lt))
          (λ k ne lt. ap (λ v. v == 1) (sym (cleared_other m t k low.1 low.2 ne)));
      only = λ c one. omega (arith, bit_at_and m (m - 1) c, bit_at-lt m c);
    }

-- one push more
pub pushed_more : {X : Type 0} (f : ℕ → X) (before after : List X) (columns rest : List ℕ) (t : ℕ)
    (all : List X) → columns ≡ t ∷ rest → after ≡ before ++ f t ∷ [] → before ++ map f columns ≡ all
    → after ++ map f rest ≡ all
pushed_more f before after columns rest t all e p h =
    ap (λ l. l ++ map f rest) p ∙ append_assoc before (f t ∷ []) (map f rest)
    ∙ ap (λ l. before ++ map f l) (sym e) ∙ h

-- a bound in the test is a bound on the run
filter_none : (p : ℕ → Bool) (a n : ℕ) → ((k : ℕ) → a ≤ k → p k ≡ false)
    → filter p (range_with_len a n) ≡ []
filter_none p a zero h = refl
filter_none p a (suc n) h = cond-false (p a) _ _ (h a (omega arith))
    ∙ filter_none p (a + 1) n (λ k low. h k (omega arith))

-- what a row has below a bound is in its first part
filter_up_to : (p : ℕ → Bool) (a n m b : ℕ) → n ≤ m → a + n ≡ b
    → filter (λ c. nat_lt c b && p c) (range_with_len a m) ≡ filter p (range_with_len a n)
filter_up_to p a zero m b le e =
    filter_none (λ c. nat_lt c b && p c) a m
    (λ k low. ap (λ t. t && p k) (le-ltb k b (omega arith)))
filter_up_to p a (suc n) zero b le e = absurd (omega arith)
filter_up_to p a (suc n) (suc m) b le e =
    ap₂ (λ t l. cond (t && p a) (a ∷ l) l) (lt-ltb a b (omega arith))
    (filter_up_to p (a + 1) n m b (omega arith) (omega arith))

-- the columns of a mask that says who is below n, are those below n
pub columns_below : (p : ℕ → Bool) (mask n : ℕ) → n ≤ 16
    → ((c : ℕ) → (bit_at mask c == 1) ≡ (nat_lt c n && p c))
    → columns_in mask ≡ filter p (range_with_len 0 n)
unfolding columns_in
columns_below p mask n le says =
    filter_range (λ c. bit_at mask c == 1) (λ c. nat_lt c n && p c) 0 16 (λ k low high. says k)
    ∙ filter_up_to p 0 n 16 n le (zero-add n)

-- at most sixteen of them
pub columns_few : (mask : ℕ) → length (columns_in mask) ≤ 16
unfolding columns_in
columns_few mask =
    let p : ℕ → Bool = λ c. bit_at mask c == 1 in
    omega (
      arith,
      length-filter_both p (λ c. not (p c)) (λ c. refl)
          (range_with_len 0 16),
      length-range_with_len 0 16,
    )

-- no bit, no column
pub columns_none : columns_in 0 ≡ []
unfolding columns_in
columns_none = refl
