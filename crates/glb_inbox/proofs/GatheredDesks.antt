-- Desks that are popped one by one.
use Rattle.std.specs.Prelude.{All, map}
use Rattle.std.proofs.Common.{◌≡◌, ◌≢◌, ◌<◌, List, [], ◌∷◌, ◌++◌, get_or, length, sym, ap, subst}
use Rattle.std.proofs.Common.{◌∙◌, ⊎_elim, arith, append_assoc, length-append}
use Rattle.std.proofs.Math.ListN.{get_or-append}
use Rattle.std.proofs.Math.Seq.{get_or-append_seam}
use Rattle.std.proofs.lemmas.Bool.{cases_eq}
use Rattle.std.proofs.lemmas.List.{map-append}

module _ {A B : Type 0} (f : A → B) where
  -- the last one's, behind those of the others
  pub with_last : (l m : List A) (x : A) (y : B) → l ≡ m ++ x ∷ [] → y ≡ f x
      → map f m ++ y ∷ [] ≡ map f l
  with_last l m x y e k = ap (λ z. map f m ++ z ∷ []) k
      ∙ sym (ap (map f) e ∙ map-append f m (x ∷ []))

  pub with_more : (l m : List A) (x : A) (y : B) (ys : List B) → l ≡ m ++ x ∷ [] → y ≡ f x
      → map f m ++ (y ∷ ys) ≡ map f l ++ ys
  with_more l m x y ys e k = sym (append_assoc (map f m) (y ∷ []) ys)
      ∙ ap (λ z. z ++ ys) (with_last l m x y e k)

pub all_last : {A : Type 0} (F : A → Type 0) (l m : List A) (x : A) → l ≡ m ++ x ∷ [] → All F m
    → F x → All F l
all_last F l m x e h here = subst (All F) (sym e) (λ k d b. ⊎_elim
    (λ (i : k ≡ length m). subst F
    (sym (ap (λ n. get_or (m ++ x ∷ []) n d) i ∙ get_or-append_seam m x [] d)) here)
    (λ (i : k ≢ length m). let s : k < length m = omega (arith, length-append m (x ∷ [])) in
    subst F (sym (get_or-append m (x ∷ []) d k s)) (h k d s))
    (cases_eq k (length m)))
