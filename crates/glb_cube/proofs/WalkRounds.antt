-- What one round of following a line does.
use Rattle.std.specs.Prelude.{List, [], ◌∷◌, ◌++◌, Some, None}
use Rattle.std.proofs.Common.{◌≡◌, ℕ, zero, suc, ◌+◌, ◌-◌, ◌*◌, ◌<◌, ◌≤◌, refl, ap, sym, ◌∙◌, arith}
use Rattle.std.proofs.Common.{append-nil, append_assoc}
use Rattle.std.proofs.lemmas.Bool.{ne_eqb, cond-false}
use Rattle.glb_cube.specs.Digits.{digit, target}
use Rattle.glb_cube.specs.Ways.{walk, last_of, with_next, then_from, descent_in, ascent_in, descent}
use Rattle.glb_cube.specs.Ways.{ascent}
use Rattle.glb_cube.proofs.WayFacts.{walk_there, walk_on, descent_more, descent_none, ascent_more}
use Rattle.glb_cube.proofs.WayFacts.{ascent_none}

walk_stuck : (places base unit goal p most : ℕ) → (digit base unit p ≡ goal → ⊥)
    → target places base unit p ≡ None → walk places base unit goal p (suc most) ≡ []
unfolding walk
walk_stuck places base unit goal p most far e = cond-false _ _ _ (ne_eqb (digit base unit p) goal far)
    ∙ ap (λ o. with_next o (λ x. walk places base unit goal x most)) e

walk_zero : (places base unit goal p : ℕ) → walk places base unit goal p zero ≡ []
unfolding walk
walk_zero places base unit goal p = refl

pub there_at : (places base unit goal p i : ℕ) → i < base → digit base unit p ≡ goal
    → walk places base unit goal p (base - i) ≡ []
there_at places base unit goal p i less e = let more : base - i ≡ suc (base - (i + 1)) = omega arith
    in ap (walk places base unit goal p) more ∙ walk_there places base unit goal p _ e

pub stuck_at : (places base unit goal p i : ℕ) → i < base → (digit base unit p ≡ goal → ⊥)
    → target places base unit p ≡ None → walk places base unit goal p (base - i) ≡ []
stuck_at places base unit goal p i less far e = let more : base - i ≡ suc (base - (i + 1)) = omega arith
    in ap (walk places base unit goal p) more ∙ walk_stuck places base unit goal p _ far e

pub on_at : (places base unit goal p i q : ℕ) → i < base → (digit base unit p ≡ goal → ⊥)
    → target places base unit p ≡ Some q
    → walk places base unit goal p (base - i) ≡ q ∷ walk places base unit goal q (base - (i + 1))
on_at places base unit goal p i q less far e = let more : base - i ≡ suc (base - (i + 1)) = omega arith
    in ap (walk places base unit goal p) more ∙ walk_on places base unit goal p _ q far e

pub end_at : (places base unit goal p i : ℕ) → base ≤ i → walk places base unit goal p (base - i)
    ≡ []
end_at places base unit goal p i over = let none : base - i ≡ zero = omega arith
    in ap (walk places base unit goal p) none ∙ walk_zero places base unit goal p

pub stop_out : (rest out all : List ℕ) → rest ≡ [] → out ++ rest ≡ all → out ≡ all
stop_out rest out all e h = sym (append-nil out) ∙ ap (λ x. out ++ x) (sym e) ∙ h

pub stop_last : (rest : List ℕ) (p l : ℕ) → rest ≡ [] → last_of p rest ≡ l → p ≡ l
stop_last rest p l e h = ap (last_of p) (sym e) ∙ h

pub on_out : (rest next out new all : List ℕ) (q : ℕ) → rest ≡ q ∷ next → new ≡ out ++ q ∷ [] → out
    ++ rest ≡ all → new ++ next ≡ all
on_out rest next out new all q e f h = ap (λ x. x ++ next) f ∙ append_assoc out (q ∷ []) next
    ∙ ap (λ x. out ++ x) (sym e) ∙ h

pub on_last : (rest next : List ℕ) (p q l : ℕ) → rest ≡ q ∷ next → last_of p rest ≡ l
    → last_of q next ≡ l
on_last rest next p q l e h = ap (last_of p) (sym e) ∙ h

-- a part and what follows from its last place
last_append : (p : ℕ) (xs ys : List ℕ) → last_of p (xs ++ ys) ≡ last_of (last_of p xs) ys
last_append p [] ys = refl
last_append p (x ∷ xs) ys = last_append x xs ys

pub part_out : (p q : ℕ) (part rest out new all : List ℕ) (next : ℕ → List ℕ)
    → rest ≡ then_from p part next → new ≡ out ++ part → q ≡ last_of p part → out ++ rest ≡ all
    → new
    ++ next q ≡ all
part_out p q part rest out new all next e f g h =
    rw f (rw g (append_assoc out part (next (last_of p part)) ∙ ap (λ x. out ++ x) (sym e) ∙ h))

pub part_last : (p q l : ℕ) (part rest : List ℕ) (next : ℕ → List ℕ) → rest ≡ then_from p part next
    → q ≡ last_of p part → last_of p rest ≡ l → last_of q (next q) ≡ l
part_last p q l part rest next e g h =
    rw g (sym (last_append p part (next (last_of p part))) ∙ ap (last_of p) (sym e) ∙ h)

pub descent_at : (places base b unit dimension i p : ℕ) → i < dimension
    → descent places base b unit (dimension - i) p ≡ then_from p (descent_in places base b unit p)
    (λ q. descent places base b (unit * base) (dimension - (i + 1)) q)
descent_at places base b unit dimension i p less =
    let more : dimension - i ≡ suc (dimension - (i + 1)) = omega arith
    in ap (λ n. descent places base b unit n p) more ∙ descent_more places base b unit _ p

pub ascent_at : (places base b unit dimension i p : ℕ) → i < dimension
    → ascent places base b unit (dimension - i) p ≡ then_from p (ascent_in places base b unit p)
    (λ q. ascent places base b (unit * base) (dimension - (i + 1)) q)
ascent_at places base b unit dimension i p less =
    let more : dimension - i ≡ suc (dimension - (i + 1)) = omega arith
    in ap (λ n. ascent places base b unit n p) more ∙ ascent_more places base b unit _ p

pub descent_end : (places base b unit dimension i p : ℕ) → dimension ≤ i
    → descent places base b unit (dimension - i) p ≡ []
descent_end places base b unit dimension i p over = let none : dimension - i ≡ zero = omega arith
    in ap (λ n. descent places base b unit n p) none ∙ descent_none places base b unit p

pub ascent_end : (places base b unit dimension i p : ℕ) → dimension ≤ i
    → ascent places base b unit (dimension - i) p ≡ []
ascent_end places base b unit dimension i p over = let none : dimension - i ≡ zero = omega arith
    in ap (λ n. ascent places base b unit n p) none ∙ ascent_none places base b unit p
