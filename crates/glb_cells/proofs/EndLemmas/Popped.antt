-- Berths that are popped one by one.
use Rattle.std.proofs.Common.{◌≡◌, ℕ, zero, suc, ◌<◌, List, [], ◌∷◌, ◌++◌, sym, ap, ◌∙◌, Option, Some, All, map, length, get_or, subst, arith}
use Rattle.std.specs.Option.{option_to_list}
use Rattle.std.specs.Prelude.{IfSome}
use Rattle.std.proofs.lemmas.List.{map-append}
use Rattle.std.proofs.lemmas.List.Elements.{All-pop}

-- the last one is popped
pub popped : {A C : Type 0} (F : A → Type 0) (f : A → C) (xs ys : List A) (o : Option A) (x : A)
    → xs ≡ ys ++ option_to_list o → o ≡ Some x
    → All F xs → All F ys × F x × (map f ys ++ f x ∷ [] ≡ map f xs)
popped F f xs ys o x h u all =
    let a = All-pop F xs ys o h all in
    let e : xs ≡ ys ++ x ∷ [] = subst (λ p. xs ≡ ys ++ option_to_list p) u h in
    (a.0, subst (λ p. IfSome p F) u a.1, sym (ap (map f) e ∙ map-append f ys (x ∷ [])))

-- one more at the end
pub pushed : {A : Type 0} (F : ℕ → A → Type 0) (xs : List A) (x : A)
    → ((p : ℕ) (d : A) → p < length xs → F p (get_or xs p d))
    → F (length xs) x → (p : ℕ) (d : A) → p < length (xs ++ x ∷ [])
    → F p (get_or (xs ++ x ∷ []) p d)
pushed F [] x all last zero d l = last
pushed F [] x all last (suc p) d l = absurd (omega arith)
pushed F (y ∷ ys) x all last zero d l = all zero d (omega arith)
pushed F (y ∷ ys) x all last (suc p) d l = pushed (λ q z. F (suc q) z) ys x
    (λ q e m. all (suc q) e (omega arith)) last p d (omega arith)
