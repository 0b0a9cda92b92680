-- Loops over places and bags.
use Rattle.std.proofs.Common.{◌≡◌, ◌≢◌, ℕ, zero, suc, ◌+◌, ◌-◌, ◌*◌, ◌^◌, ◌<◌, ◌≤◌, true, false, cond, List, [], ◌∷◌, ◌++◌, map, length, replicate, get_or, min, refl, sym, ap, ◌∙◌, arith, add-one, append_assoc}
use Rattle.glb_cube.specs.Lines.{Cube, IsCube}
use Rattle.glb_laws.specs.Sums.{sum_to}
use Rattle.glb_rules.specs.Joins.{join_to}
use Rattle.glb_rules.specs.Setups.{has_items, bit}
use Rattle.std.proofs.Math.Nat.{pow-le-pow_left, mul-le-mul, mul-le-mul_right}

pub sum_next : (n : ℕ) (f : ℕ → ℕ) → sum_to (n + 1) f ≡ sum_to n f + f n
sum_next n f = rw add-one refl

pub join_next : {A : Type 0} (n : ℕ) (f : ℕ → List A) → join_to (n + 1) f ≡ join_to n f ++ f n
join_next n f = rw add-one refl

-- 1 for a list that has members
pub some_bit : {A : Type 0} (xs : List A) → min (min (length xs) 18446744073709551615) 1 ≡ bit
    (has_items xs)
some_bit [] = omega arith
some_bit (x ∷ xs) = omega arith

pub bag_in : {A B : Type 0} (items : B → List A) (bags : List B) (i : ℕ) (d : B) → i < length bags
    → get_or (map items bags) i [] ≡ items (get_or bags i d)
bag_in items [] i d l = absurd (omega arith)
bag_in items (b ∷ bags) zero d l = refl
bag_in items (b ∷ bags) (suc i) d l = bag_in items bags i d (omega arith)

few_dimensions : (c : Cube) → IsCube c → c.places ≤ 64 → c.dimension ≤ 6
few_dimensions c C few =
    let a : 2 ^ 6 ≤ c.base ^ 6 = pow-le-pow_left C.base 6 in
    let b : 64 ≤ 2 ^ 6 = omega arith in
    C.dimension.least 6 (omega arith) (omega arith)

pub few_edges : (p : ℕ) → p ≤ 64 → p * (p - 1) ≤ 4096
few_edges p h = let m : p - 1 ≤ 64 = omega arith in let a : p * (p - 1) ≤ 64 * 64 =
    mul-le-mul h m in omega arith

pub row_small : (p t : ℕ) → p ≤ 64 → t < p → t * p ≤ 4096
row_small p t h l = let m : t ≤ 64 = omega arith in let a : t * p ≤ 64 * 64 = mul-le-mul m h in
    omega arith

-- the numbers stay far below the end of their type
pub next_small : (c : Cube) → IsCube c → c.places ≤ 64 → (t next long : ℕ) → t < c.places
    → next ≤ c.places * (c.places - 1) + t * 6 → long ≤ c.dimension
    → (next + long < 4294967296) × (next + long ≤ c.places * (c.places - 1) + (t + 1) * 6)
    × (long < 4294967296)
next_small c C few t next long l small most =
    let d = few_dimensions c C few in
    let e = few_edges c.places few in
    let x : (t + 1) * 6 ≡ t * 6 + 6 = grind arith in
    (omega arith, omega arith, omega arith)

pub row_in : (p t v : ℕ) → t < p → v < p → t * p + v < p * p
row_in p t v l m = let a : suc t * p ≤ p * p = mul-le-mul_right p l in
    let b : suc t * p ≡ t * p + p = grind arith in omega arith

pub first_is : {A : Type 0} (xs : List A) → min (length xs) 18446744073709551615 ≡ 0
    → has_items xs ≡ false
first_is [] e = refl
first_is (x ∷ xs) e = absurd (omega arith)

pub first_not : {A : Type 0} (xs : List A) → min (length xs) 18446744073709551615 ≢ 0
    → has_items xs ≡ true
first_not [] e = absurd (e (omega arith))
first_not (x ∷ xs) e = refl

-- one more row of words
pub words_next : (live k t : ℕ) (f : ℕ → List ℕ) (old new row : List ℕ)
    → old ≡ live ∷ 0 ∷ 0 ∷ (replicate k 0 ++ join_to t f) → new ≡ old ++ row → row ≡ f t
    → new ≡ live ∷ 0 ∷ 0 ∷ (replicate k 0 ++ join_to (t + 1) f)
words_next live k t f old new row was is one =
    is ∙ (λ i. was i ++ one i)
    ∙ ap (λ l. live ∷ 0 ∷ 0 ∷ l) (append_assoc (replicate k 0) (join_to t f) (f t)
    ∙ ap (λ l. replicate k 0 ++ l) (sym (join_next t f)))

pub row_words : {B A : Type 0} (items : B → List A) (bags : List B) (t : ℕ) (d : B) (xs ys : List ℕ)
    (word : ℕ) → t < length bags → xs ≡ ys → word ≡ cond (has_items (items (get_or bags t d))) 0 2
    → replicate (length xs) word ≡ replicate (length ys)
    (cond (has_items (get_or (map items bags) t [])) 0 2)
row_words items bags t d xs ys word l e w = λ i. replicate (length (e i))
    ((w ∙ ap (λ z. cond (has_items z) 0 2) (sym (bag_in items bags t d l))) i)

pub map_of_map : {A C D : Type 0} (f : C → D) (g : A → C) (xs : List A)
    → map (λ x. f (g x)) xs ≡ map f (map g xs)
map_of_map f g [] = refl
map_of_map f g (x ∷ xs) = ap (λ l. f (g x) ∷ l) (map_of_map f g xs)
