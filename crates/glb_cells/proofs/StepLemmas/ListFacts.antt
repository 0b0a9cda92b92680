-- Lists with one member replaced.
use Rattle.std.proofs.Common.{◌≡◌, ℕ, zero, suc, ◌+◌, ◌<◌, List, [], ◌∷◌, map, set, length, get_or, refl, sym, ap, ◌∙◌, arith}
use mathlib.Core.Option.{some, some-injective, some-ne-none}
use lib.ListN.{get_elem?}
use Rattle.atomic_table.proofs.Lists.{set_again, at_map}
use Rattle.glb_cells.specs.Shows.{total}

pub set_at : {A : Type 0} (l : List A) (i : ℕ) (a b : A) → get_elem? l i ≡ some a
    → get_elem? (set l i b) i ≡ some b
set_at [] i a b e = absurd (some-ne-none a (sym e))
set_at (x ∷ xs) zero a b e = refl
set_at (x ∷ xs) (suc i) a b e = set_at xs i a b e

pub map_set : {A C : Type 0} (f : A → C) (l : List A) (i : ℕ) (a : A)
    → map f (set l i a) ≡ set (map f l) i (f a)
map_set f [] i a = refl
map_set f (x ∷ xs) zero a = refl
map_set f (x ∷ xs) (suc i) a = ap (λ ys. f x ∷ ys) (map_set f xs i a)

-- the one member of a list of one
pub only : {A : Type 0} (a b : A) (k : ℕ) → get_elem? (a ∷ []) k ≡ some b → (k ≡ 0) × (a ≡ b)
only a b zero e = (refl, some-injective a b e)
only a b (suc k) e = absurd (some-ne-none b (sym e))

pub map_same : {A C : Type 0} (f : A → C) (l : List A) (i : ℕ) (a b : A) → get_elem? l i ≡ some a
    → f b ≡ f a → map f (set l i b) ≡ map f l
map_same f l i a b at e = map_set f l i b ∙ ap (λ y. set (map f l) i y) e
    ∙ set_again (map f l) i (f a) (at_map f l i a at)

-- a list as long as one that has a member there
pub matched : {A C : Type 0} (l : List A) (m : List C) (i : ℕ) (a : A) → length l ≡ length m
    → get_elem? l i ≡ some a → (c : C) × (get_elem? m i ≡ some c)
matched [] m i a n e = absurd (some-ne-none a (sym e))
matched (x ∷ xs) [] i a n e = absurd (omega arith)
matched (x ∷ xs) (y ∷ ys) zero a n e = (y, refl)
matched (x ∷ xs) (y ∷ ys) (suc i) a n e = matched xs ys i a (omega arith) e

pub total_set : {A : Type 0} (f : A → ℕ) (l : List A) (i : ℕ) (a b : A) → get_elem? l i ≡ some a
    → total f (set l i b) + f a ≡ total f l + f b
total_set f [] i a b e = absurd (some-ne-none a (sym e))
total_set f (x ∷ xs) zero a b e = let q : f x ≡ f a = ap f (some-injective x a e) in omega arith
total_set f (x ∷ xs) (suc i) a b e = let q : total f (set xs i b) + f a ≡ total f xs + f b =
    total_set f xs i a b e in omega arith

pub total_same : {A : Type 0} (f : A → ℕ) (l : List A) (i : ℕ) (a b : A) → get_elem? l i ≡ some a
    → f b ≡ f a → total f (set l i b) ≡ total f l
total_same f l i a b e q = let t = total_set f l i a b e in omega arith

pub length_set : {A : Type 0} (l : List A) (i : ℕ) (a : A) → length (set l i a) ≡ length l
length_set [] i a = refl
length_set (x ∷ l) zero a = refl
length_set (x ∷ l) (suc i) a = ap suc (length_set l i a)

-- the words of edges begin with the fourth
pub set_edge : (a b c : ℕ) (ns : List ℕ) (e n : ℕ)
    → set (a ∷ b ∷ c ∷ ns) (e + 3) n ≡ a ∷ b ∷ c ∷ set ns e n
set_edge a b c ns e n = let q : e + 3 ≡ suc (suc (suc e)) = omega arith in
    ap (λ (i : ℕ). set (a ∷ b ∷ c ∷ ns) i n) q

-- a member, read with a default
pub member : {A : Type 0} (l : List A) (i : ℕ) (a d : A) → get_elem? l i ≡ some a → get_or l i d ≡ a
member [] i a d e = absurd (some-ne-none a (sym e))
member (x ∷ xs) zero a d e = some-injective x a e
member (x ∷ xs) (suc i) a d e = member xs i a d e

-- a member's number is below the length
pub below : {A : Type 0} (l : List A) (i : ℕ) (a : A) → get_elem? l i ≡ some a → i < length l
below [] i a e = absurd (some-ne-none a (sym e))
below (x ∷ xs) zero a e = omega arith
below (x ∷ xs) (suc i) a e = let q : i < length xs = below xs i a e in omega arith
