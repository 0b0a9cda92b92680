-- One lane of a vector is replaced.
use Rattle.std.proofs.Common.{◌≡◌, ℕ, zero, suc, ◌+◌, ◌-◌, Bool, true, false, cond, ◌==◌, nat_lt, List, [], ◌∷◌, length, map, set, replicate, inl, inr, refl, sym, ap, ap₂, ◌∙◌, arith}
use Rattle.std.specs.List.{range_with_len}
use Rattle.std.specs.Simd.Lanes.{sel_l, top}
use Rattle.std.proofs.lemmas.Bool.{cases_order, eq-eqb, ne_eqb, lt-ltb, le-ltb}

-- whether a lane is the one of this row
abbrev lane : ℕ → ℕ → Bool
lane row k = top 7 (cond (k == row) 255 0)

-- the lane of the row is
lane_here : (row k : ℕ) → k ≡ row → lane row k ≡ true
lane_here row k e = ap (λ t. top 7 (cond t 255 0)) (eq-eqb k row e)

-- another lane is not
lane_other : (row k : ℕ) → (k ≡ row → ⊥) → lane row k ≡ false
lane_other row k ne = ap (λ t. top 7 (cond t 255 0)) (ne_eqb k row ne)

-- the lanes from a place on, with one of them replaced
lanes_from : (n a row c : ℕ) (columns : List ℕ) → length columns ≡ n
    → sel_l (map (lane row) (range_with_len a n)) (replicate n c) columns
    ≡ cond (nat_lt row a) columns
    (set columns (row - a) c)
lanes_from zero a row c [] size = none (nat_lt row a)
  where
    none : (b : Bool) → [] ≡ cond b [] (set [] (row - a) c)
    none true = refl
    none false = refl
lanes_from zero a row c (x ∷ columns) size = absurd (omega arith)
lanes_from (suc n) a row c [] size = absurd (omega arith)
lanes_from (suc n) a row c (x ∷ columns) size =
    let rest = lanes_from n (a + 1) row c columns (omega arith) in
    elim (cases_order row a) [
      | inl here ↦
          let start : row - a ≡ 0 = omega (arith, here) in
          ap₂ (λ t l. cond t c x ∷ l) (lane_here row a (sym here))
          (rest ∙ ap (λ t. cond t columns (set columns (row - (a + 1)) c))
          (lt-ltb row (a + 1) (omega (arith, here))))
          ∙ sym (ap (λ t. cond t (x ∷ columns) (set (x ∷ columns) (row - a) c))
          (le-ltb row a (omega (arith, here))) ∙ ap (λ k. set (x ∷ columns) k c) start)
      | inr (inl before) ↦
          ap₂ (λ t l. cond t c x ∷ l) (lane_other row a (λ e. absurd (omega (arith, e))))
          (rest ∙ ap (λ t. cond t columns (set columns (row - (a + 1)) c))
          (lt-ltb row (a + 1) (omega arith)))
          ∙ sym (ap (λ t. cond t (x ∷ columns) (set (x ∷ columns) (row - a) c))
          (lt-ltb row a before))
      | inr (inr after) ↦
          let step : row - a ≡ suc (row - (a + 1)) = omega arith in
          ap₂ (λ t l. cond t c x ∷ l) (lane_other row a (λ e. absurd (omega (arith, e))))
          (rest ∙ ap (λ t. cond t columns (set columns (row - (a + 1)) c))
          (le-ltb row (a + 1) (omega arith)))
          ∙ sym (ap (λ t. cond t (x ∷ columns) (set (x ∷ columns) (row - a) c))
          (le-ltb row a (omega arith)) ∙ ap (λ k. set (x ∷ columns) k c) step)
    ]

-- sixteen lanes, with one of them replaced
pub lane_replaced : (row c : ℕ) (columns : List ℕ) → length columns ≡ 16
    → sel_l (map (lane row) (range_with_len 0 16)) (replicate 16 c) columns ≡ set columns row c
lane_replaced row c columns size = lanes_from 16 0 row c columns size
    ∙ ap (λ t. cond t columns (set columns (row - 0) c)) (le-ltb row 0 (omega arith))
    ∙ ap (λ k. set columns k c) (omega arith)
