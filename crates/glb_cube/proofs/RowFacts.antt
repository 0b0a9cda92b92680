-- Rows that are made one after the other.
use Rattle.std.specs.Prelude.{List, [], ◌∷◌, ◌++◌, length, map, get_or, cond, true, false}
use Rattle.std.specs.List.{range_with_len}
use Rattle.std.proofs.Common.{◌≡◌, ℕ, zero, suc, ◌+◌, ◌<◌, refl, ap, sym, ◌∙◌, arith, append-nil}
use Rattle.std.proofs.lemmas.List.{map-append, length-map}
use Rattle.std.proofs.lemmas.List.FromFn.{map-range_with_len_more, length-map-range_with_len}
use Rattle.std.proofs.lemmas.List.FromFn.{get_or-map-range_with_len}
use Rattle.glb_laws.specs.Numbers.{has_number}
use Rattle.glb_cube.specs.Lines.{Cube, outs_of, ins_below}
use Rattle.glb_cube.proofs.GraphFacts.{ins_more}

pub rows_round : {X : Type 0} (f : ℕ → List ℕ) (g : X → List ℕ) (xs ys : List X) (x : X) (n : ℕ)
    → ys ≡ xs
    ++ x ∷ [] → map g xs ≡ map f (range_with_len 0 n) → g x ≡ f n
    → map g ys ≡ map f (range_with_len 0 (n + 1))
rows_round f g xs ys x n e h r = ap (map g) e ∙ map-append g xs (x ∷ []) ∙ ap (λ l. l ++ g x ∷ []) h
    ∙ ap (λ y. map f (range_with_len 0 n) ++ y ∷ []) r ∙ sym (map-range_with_len_more f 0 n n (omega arith))

pub rows_length : {X : Type 0} (f : ℕ → List ℕ) (g : X → List ℕ) (xs : List X) (n : ℕ)
    → map g xs ≡ map f (range_with_len 0 n) → length xs ≡ n
rows_length f g xs n h = sym (length-map xs g) ∙ ap length h ∙ length-map-range_with_len f 0 n

get_mapped : {X : Type 0} (g : X → List ℕ) (xs : List X) (p : ℕ) (x : X) → p < length xs
    → get_or (map g xs) p [] ≡ g (get_or xs p x)
get_mapped g [] p x small = absurd (omega arith)
get_mapped g (y ∷ xs) zero x small = refl
get_mapped g (y ∷ xs) (suc p) x small = get_mapped g xs p x (omega arith)

pub row_is : {X : Type 0} (f : ℕ → List ℕ) (g : X → List ℕ) (xs : List X) (n p : ℕ) (x : X)
    → map g xs ≡ map f (range_with_len 0 n) → p < n → x ≡ get_or xs p x → g x ≡ f p
row_is f g xs n p x h small e =
    let long : length xs ≡ n = rows_length f g xs n h in
    ap g e ∙ sym (get_mapped g xs p x (omega arith)) ∙ ap (λ l. get_or l p []) h
    ∙ get_or-map-range_with_len f 0 n p p [] small (omega arith)

pub ins_yes : (c : Cube) (q p : ℕ) (ins new : List ℕ) → ins ≡ ins_below c q p
    → has_number q (outs_of c p) ≡ true → new ≡ ins ++ p ∷ [] → new ≡ ins_below c q (p + 1)
ins_yes c q p ins new h e f =
    let s : suc p ≡ p + 1 = omega arith in
    f ∙ ap (λ l. l ++ p ∷ []) h ∙ ap (λ b. ins_below c q p ++ cond b (p ∷ []) []) (sym e)
    ∙ sym (ins_more c q p) ∙ ap (ins_below c q) s

pub ins_no : (c : Cube) (q p : ℕ) (ins new : List ℕ) → ins ≡ ins_below c q p
    → has_number q (outs_of c p) ≡ false → new ≡ ins → new ≡ ins_below c q (p + 1)
ins_no c q p ins new h e f =
    let s : suc p ≡ p + 1 = omega arith in
    f ∙ h ∙ sym (append-nil (ins_below c q p)) ∙ ap (λ b. ins_below c q p ++ cond b (p ∷ []) []) (sym e)
    ∙ sym (ins_more c q p) ∙ ap (ins_below c q) s
