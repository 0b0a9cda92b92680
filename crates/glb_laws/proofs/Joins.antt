-- How joined lists change where one list changes.
use Rattle.std.proofs.Common.{◌≡◌, ◌≢◌, ℕ, zero, suc, ◌<◌, List, ◌++◌, refl, sym, ⊎_elim, arith}
use Rattle.std.proofs.Common.{append_assoc, IsPermutation}
use Rattle.std.proofs.lemmas.Bool.{cases_eq}
use Rattle.std.proofs.lemmas.List.Sorted.{IsPermutation-refl, IsPermutation-append_comm}
use Rattle.std.proofs.lemmas.List.Sorted.{IsPermutation-append_left}
use Rattle.glb_laws.specs.Joins.{join_to}

module _ {I : Type 0} where
  -- joins of lists that are the same
  pub join_same : (n : ℕ) (f g : ℕ → List I) → ((j : ℕ) → j < n → g j ≡ f j) → join_to n g
      ≡ join_to n f
  join_same zero f g h = refl
  join_same (suc n) f g h = let e = join_same n f g (λ j l. h j (omega arith)) in
      let d = h n (omega arith) in cc

  -- a list and itself
  pub same : {xs ys : List I} → xs ≡ ys → IsPermutation xs ys
  same {xs = xs} e = rw (← e) (IsPermutation-refl xs)

  -- the list that differs may stand first, before a rest that is common to both joins
  pub join_split : (n i : ℕ) (f g : ℕ → List I) → i < n → ((j : ℕ) → j < n → j ≢ i → g j ≡ f j) →
      (rest : List I) × IsPermutation (join_to n f) (f i ++ rest)
      × IsPermutation (join_to n g) (g i ++ rest)
  join_split zero i f g l h = absurd (omega arith)
  join_split (suc n) i f g l h =
      ⊎_elim
      (λ (e : i ≡ n).
      let s : join_to n g ≡ join_to n f = join_same n f g (λ j b. h j (omega arith) (λ q. omega arith)) in (
        join_to n f,
        rw e (IsPermutation-append_comm (join_to n f) (f n)),
        rw (e, s) (IsPermutation-append_comm (join_to n f) (g n)),
      ))
      (λ (e : i ≢ n).
      let r = join_split n i f g (omega arith) (λ j b d. h j (omega arith) d) in
      let d : g n ≡ f n = h n (omega arith) (λ q. e (sym q)) in (
        r.0 ++ f n,
        rw (← append_assoc (f i) r.0 (f n))
            (IsPermutation-append_left (f n) (join_to n f) (f i ++ r.0) r.1),
        rw (← append_assoc (g i) r.0 (f n), d)
            (IsPermutation-append_left (f n) (join_to n g) (g i ++ r.0) r.2),
      ))
      (cases_eq i n)
