-- Lists side by side: what is looked round with, and the bags of the roots.
use Rattle.std.proofs.Common.{◌≡◌, ℕ, zero, suc, List, [], ◌∷◌, ◌++◌, length, map, get_or, refl, ap}
use Rattle.std.proofs.Common.{◌∙◌, append-nil}
use Rattle.std.specs.List.Sorted.{IsPermutation}
use Rattle.std.proofs.lemmas.List.{nil_from_length}
use Rattle.std.proofs.lemmas.List.Sorted.{IsPermutation-refl}

-- the lists have the same length, and each member of the one has the items of that of the other, up
-- to order
abbrev pub Matches : {A B I : Type 0} → (A → List I) → (B → List I) → List A → List B → Type 0
Matches of items [] [] = Unit {0}
Matches of items (x ∷ xs) (b ∷ bs) = IsPermutation (of x) (items b) × Matches of items xs bs
Matches of items [] (b ∷ bs) = ⊥
Matches of items (x ∷ xs) [] = ⊥

module _ {A B I : Type 0} (of : A → List I) (items : B → List I) where
  -- one more of each
  pub matches_more : (xs : List A) (bs : List B) (x : A) (b : B) → Matches of items xs bs
      → IsPermutation (of x) (items b)
      → Matches of items (xs ++ x ∷ []) (bs ++ b ∷ [])
  matches_more [] [] x b m p = (p, tt)
  matches_more (y ∷ ys) (c ∷ cs) x b m p = (m.0, matches_more ys cs x b m.1 p)
  matches_more [] (c ∷ cs) x b m p = absurd m
  matches_more (y ∷ ys) [] x b m p = absurd m

  -- as many of each
  pub matches_length : (xs : List A) (bs : List B) → Matches of items xs bs → length bs ≡ length xs
  matches_length [] [] m = refl
  matches_length (y ∷ ys) (c ∷ cs) m = ap suc (matches_length ys cs m.1)
  matches_length [] (c ∷ cs) m = absurd m
  matches_length (y ∷ ys) [] m = absurd m

  -- by number
  pub matches_at : (xs : List A) (bs : List B) → Matches of items xs bs → (p : ℕ)
      → IsPermutation (get_or (map of xs) p []) (get_or (map items bs) p [])
  matches_at [] [] m p = IsPermutation-refl []
  matches_at (y ∷ ys) (c ∷ cs) m zero = m.0
  matches_at (y ∷ ys) (c ∷ cs) m (suc p) = matches_at ys cs m.1 p
  matches_at [] (c ∷ cs) m p = absurd m
  matches_at (y ∷ ys) [] m p = absurd m

-- where nothing is left, the front is the whole list
pub ended_list : {A : Type 0} (whole front rest : List A) → whole ≡ front ++ rest → length rest ≡ 0
    → whole ≡ front
ended_list whole front rest e none = e ∙ ap (λ l. front ++ l) (nil_from_length rest none)
    ∙ append-nil front
