-- A list that is dealt from its front.
use Rattle.std.proofs.Common.{◌≡◌, ℕ, zero, suc, ◌+◌, ◌<◌, List, [], ◌∷◌, ◌++◌, take, drop, length, refl, ap, arith, add-one}

pub drop_some : {A : Type 0} (l : List A) (i : ℕ) → i < length l → (x : A) × (xs : List A)
    × (drop i l ≡ x ∷ xs)
drop_some [] i h = absurd (omega arith)
drop_some (x ∷ xs) zero h = (x, xs, refl)
drop_some (x ∷ xs) (suc i) h = drop_some xs i (omega arith)

pub drop_next : {A : Type 0} (l : List A) (i : ℕ) (x : A) (xs : List A) → drop i l ≡ x ∷ xs
    → (drop (i + 1) l ≡ xs) × (take (i + 1) l ≡ take i l ++ x ∷ [])
drop_next {A = A} l i x xs e = rw add-one (at l i e)
  where
    at : (l : List A) (i : ℕ) → drop i l ≡ x ∷ xs → (drop (suc i) l ≡ xs)
        × (take (suc i) l ≡ take i l ++ x ∷ [])
    at [] zero e = cc
    at [] (suc i) e = cc
    at (y ∷ l) zero e = let h : y ≡ x = cc in let t : l ≡ xs = cc in (t, ap (λ z. z ∷ []) h)
    at (y ∷ l) (suc i) e = let h = at l i e in (h.0, ap (λ ys. y ∷ ys) h.1)
