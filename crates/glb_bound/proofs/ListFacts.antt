-- The items of a list that have some numbers.
use Rattle.std.proofs.Common.{◌≡◌, ℕ, zero, suc, ◌+◌, ◌<◌, ◌≤◌, List, [], ◌∷◌, length, map}
use Rattle.std.proofs.Common.{refl, sym, subst, ap, ◌∙◌, arith, get_or, take, IsPermutation}
use Rattle.std.specs.List.{remove}
use Rattle.std.proofs.lemmas.List.{take_more}
use Rattle.std.proofs.lemmas.List.Sorted.{IsPermutation-append_comm}
use Rattle.std.proofs.lemmas.List.Sorted.{IsPermutation-append_right, IsPermutation-refl}
use Rattle.glb_bound.specs.inner.Rule.{below}
use Rattle.glb_bound.proofs.ViewSums.{then}

module _ {X : Type 0} where
  -- within a list the default is of no account
  pub get_same : (xs : List X) (n : ℕ) (d e : X) → n < length xs → get_or xs n d ≡ get_or xs n e
  get_same [] n d e lt = absurd (omega arith)
  get_same (x ∷ xs) zero d e lt = refl
  get_same (x ∷ xs) (suc n) d e lt = get_same xs n d e (omega arith)

  -- the first of a list is taken out
  pub first_removed : (xs : List X) (x : X) → 0 < length xs → x ≡ get_or xs 0 x
      → xs ≡ x ∷ remove xs 0
  first_removed [] x lt e = absurd (omega arith)
  first_removed (y ∷ ys) x lt e = ap (λ z. z ∷ ys) (sym e)

  -- the items of all numbers below n are the first n
  pub items_below : (xs : List X) (d : X) (n : ℕ) → n ≤ length xs
      → IsPermutation (map (λ k. get_or xs k d) (below n)) (take n xs)
  items_below xs d zero le = IsPermutation-refl []
  items_below xs d (suc n) le =
      let y : X = get_or xs n d in
      let h = items_below xs d n (omega arith) in
      subst (IsPermutation (y ∷ map (λ k. get_or xs k d) (below n)))
      (sym (ap (λ m. take m xs) next ∙ take_more xs n d (omega arith)))
      (then (IsPermutation-append_right (y ∷ []) _ _ h)
      (IsPermutation-append_comm (y ∷ []) (take n xs)))
    where
      next : suc n ≡ n + 1
      next = omega arith
