-- The number of an edge in the list of names.
use mathlib.Core.Option.{some, some-injective, some-ne-none}
use lib.ListN.{get_elem?}
use Rattle.std.specs.Prelude.{nat_lt}
use Rattle.std.proofs.Common.{◌≡◌, ◌≢◌, ◌*◌, ◌-◌, ◌≤◌, ℕ, zero, suc, ◌+◌, ◌<◌, ◌⊎◌, Bool, true}
use Rattle.std.proofs.Common.{false, cond, ◌==◌, List, [], ◌∷◌, ◌++◌, map, length, refl, sym, ap}
use Rattle.std.proofs.Common.{◌∙◌, subst, inl, inr, ⊎_elim, arith, length-append}
use Rattle.std.proofs.lemmas.Bool.{cases_eq}
use Rattle.std.proofs.lemmas.Bool.Decides.{nat_tests}
use Rattle.glb_laws.specs.Numbers.{has_number}
use Rattle.glb_laws.specs.Sums.{sum_to}
use Rattle.glb_rules.specs.Joins.{join_to}
use Rattle.glb_rules.specs.World.{Setup, has_line}
use Rattle.glb_rules.specs.Events.{name_of}
use Rattle.glb_rules.specs.Setups.{IsProper, bit, degree}
use Rattle.glb_rules.proofs.EdgeLemmas.Names.{lines_of, names, steal_name, steals_of}
use Rattle.glb_rules.specs.Sight.{IsIn}
use Rattle.glb_rules.proofs.EdgeLemmas.Marks.{eq_other, eq_self}
use Rattle.glb_rules.proofs.Sums.Members.{AllApart}
use Rattle.glb_rules.proofs.EdgeLemmas.Made.{apart_of, in_line, number_in}
use Rattle.glb_rules.proofs.Sums.Totals.{sum_change, sum_same}
use Rattle.glb_rules.specs.declared.kinds.Kind.TheVariants as kind

-- the number of an edge: what stands before its thief's row, and its place there
pub join_at : {A : Type 0} (n : ℕ) (f : ℕ → List A) (t j : ℕ) (x : A) → t < n → get_elem? (f t) j
    ≡ some x
    → get_elem? (join_to n f) (sum_to t (λ u. length (f u)) + j) ≡ some x
join_at zero f t j x l h = absurd (omega arith)
join_at {A = A} (suc n) f t j x l h = ⊎_elim
    (λ (e : t ≡ n). at_right (join_to n f) (f n) j x (sum_to t (λ u. length (f u)) + j)
    (ap (λ k. sum_to k (λ u. length (f u)) + j) e ∙ ap (λ k. k + j) (sym (length_join n f)))
    (subst (λ k. get_elem? (f k) j ≡ some x) e h))
    (λ (e : t ≢ n). at_left (join_to n f) (f n) _ x (join_at n f t j x (omega arith) h))
    (cases_eq t n)
  where
    length_join : (n : ℕ) (f : ℕ → List A) → length (join_to n f) ≡ sum_to n (λ u. length (f u))
    length_join zero f = refl
    length_join (suc n) f = length-append (join_to n f) (f n) ∙ ap (λ k. k + length (f n)) (length_join n f)

    at_left : (xs ys : List A) (i : ℕ) (x : A) → get_elem? xs i ≡ some x → get_elem? (xs ++ ys) i
        ≡ some x
    at_left [] ys i x e = absurd (some-ne-none x (sym e))
    at_left (z ∷ xs) ys zero x e = e
    at_left (z ∷ xs) ys (suc i) x e = at_left xs ys i x e

    at_right : (xs ys : List A) (j : ℕ) (x : A) (i : ℕ) → i ≡ length xs + j → get_elem? ys j
        ≡ some x
        → get_elem? (xs ++ ys) i ≡ some x
    at_right [] ys j x i e h = let q : i ≡ j = omega arith in subst (λ k. get_elem? ys k ≡ some x) (sym q) h
    at_right (z ∷ xs) ys j x zero e h = absurd (omega arith)
    at_right (z ∷ xs) ys j x (suc i) e h = at_right xs ys j x i (omega arith) h

-- a place has as many lines as its list has members
pub degree_is : (s : Setup) → IsProper s → (t : ℕ) → t < s.places → degree s t ≡ length (s.outs t)
unfolding has_line
degree_is s P t l =
    count s.places (s.outs t) (apart_of (s.outs t) (P.once t l)) (λ v h. P.near t v (in_line s t v h))
  where
    zeros : (n : ℕ) → sum_to n (λ v. 0) ≡ 0
    zeros zero = refl
    zeros (suc n) = let e = zeros n in omega arith

    count : (n : ℕ) (ms : List ℕ) → AllApart ms → ((v : ℕ) → IsIn v ms → v < n)
        → sum_to n (λ v. bit (has_number v ms)) ≡ length ms
    count n [] d h = zeros n
    count n (m ∷ ms) d h =
        let r = count n ms d.1 (λ v i. h v (inr i)) in
        let c = sum_change n m (λ v. bit (has_number v ms)) (λ v. bit (has_number v (m ∷ ms)))
        (h m (inl refl)) (λ v b e. rw (eq_other v m e) refl) in
        let a : bit (has_number m (m ∷ ms)) ≡ 1 = rw (eq_self m) refl in
        let z : bit (has_number m ms) ≡ 0 = absent (has_number m ms) (λ t. d.0 (number_in m ms t)) in
        omega arith
      where
        absent : (b : Bool) → (b ≡ true → ⊥) → bit b ≡ 0
        absent true g = absurd (g refl)
        absent false g = refl

one_name : (t u : ℕ) → (length (steal_name t u) ≡ 1) ⊎ ((t ≡ u) × (length (steal_name t u) ≡ 0))
one_name t u = ⊎_elim
    (λ (e : t ≡ u). inr (e, let q : (t == u) ≡ true = rw (e, eq_self u) refl in rw q refl))
    (λ (e : t ≢ u). inl (rw (eq_other t u e) refl))
    (cases_eq t u)

low_rank : (t v : ℕ) → v ≤ t → sum_to v (λ u. length (steal_name t u)) ≡ v
low_rank t zero l = refl
low_rank t (suc v) l = let a = low_rank t v (omega arith) in ⊎_elim
    (λ (e : length (steal_name t v) ≡ 1). omega arith)
    (λ (e : (t ≡ v) × (length (steal_name t v) ≡ 0)). absurd (omega (arith, e.0)))
    (one_name t v)

high_rank : (t v : ℕ) → t < v → sum_to v (λ u. length (steal_name t u)) + 1 ≡ v
high_rank t zero l = absurd (omega arith)
high_rank t (suc v) l = ⊎_elim
    (λ (e : length (steal_name t v) ≡ 1). ⊎_elim
    (λ (q : t ≡ v). absurd
    (let z : (t == v) ≡ true = rw (q, eq_self v) refl in
    let f : length (steal_name t v) ≡ 0 = rw z refl in omega arith))
    (λ (d : t ≢ v). let a = high_rank t v (omega arith) in omega arith)
    (cases_eq t v))
    (λ (e : (t ≡ v) × (length (steal_name t v) ≡ 0)). let a = low_rank t v (omega (arith, e.0))
    in omega (arith, e.1, a))
    (one_name t v)

length_join_is : {A : Type 0} (n : ℕ) (f : ℕ → List A) → length (join_to n f) ≡ sum_to n (λ u. length (f u))
length_join_is zero f = refl
length_join_is (suc n) f = length-append (join_to n f) (f n)
    ∙ ap (λ k. k + length (f n)) (length_join_is n f)

rows_before : (P t n : ℕ) → n ≤ t → t < P → sum_to n (λ u. length (join_to P (steal_name u))) + n ≡ n * P
rows_before P t zero l m = omega arith
rows_before P t (suc n) l m =
    let a = rows_before P t n (omega arith) m in
    let b = length_join_is P (steal_name n) in
    let c = high_rank n P (omega arith) in
    let d : suc n * P ≡ n * P + P = grind arith in
    omega arith

-- the number of a steal edge: thief * (places - 1) + victim, less 1 where the victim is the greater
pub steal_at : (s : Setup) (t v : ℕ) → t < s.places → v < s.places → t ≢ v → (k : ℕ)
    → k + t ≡ t * s.places + v
    → get_elem? (names s) (cond (nat_lt t v) (k - 1) k) ≡ some
    (record { kind = kind.Steal; thief = t; victim = v })
steal_at s t v l m d k e =
    at_left (join_to s.places (steals_of s)) (join_to s.places (lines_of s)) _ _
    (subst (λ i. get_elem? (join_to s.places (steals_of s)) i ≡ some
    (record { kind = kind.Steal; thief = t; victim = v })) is outer)
  where
    inner : get_elem? (steals_of s t) (sum_to v (λ u. length (steal_name t u)) + 0) ≡ some
        (record { kind = kind.Steal; thief = t; victim = v })
    inner = join_at s.places (steal_name t) v 0 _ m (rw (eq_other t v d) refl)

    outer : get_elem? (join_to s.places (steals_of s))
        (sum_to t (λ u. length (join_to s.places (steal_name u))) +
        (sum_to v (λ u. length (steal_name t u)) + 0)) ≡ some
        (record { kind = kind.Steal; thief = t; victim = v })
    outer = join_at s.places (steals_of s) t _ _ l inner

    by : (b : Bool) → nat_lt t v ≡ b
        → sum_to t (λ u. length (join_to s.places (steal_name u))) +
        (sum_to v (λ u. length (steal_name t u)) + 0) ≡ cond b (k - 1) k
    by true q = let a = rows_before s.places t t (omega arith) l in
        let c : t < v = grind (arith, nat_tests, q) in let b = high_rank t v c in omega arith
    by false q = let a = rows_before s.places t t (omega arith) l in
        let c : v ≤ t = grind (arith, nat_tests, q) in let b = low_rank t v c in omega arith

    is : sum_to t (λ u. length (join_to s.places (steal_name u))) +
        (sum_to v (λ u. length (steal_name t u)) + 0) ≡ cond (nat_lt t v) (k - 1) k
    is = by (nat_lt t v) refl

    at_left : {A : Type 0} (xs ys : List A) (i : ℕ) (x : A) → get_elem? xs i ≡ some x
        → get_elem? (xs ++ ys) i ≡ some x
    at_left [] ys i x e = absurd (some-ne-none x (sym e))
    at_left (z ∷ xs) ys zero x e = e
    at_left (z ∷ xs) ys (suc i) x e = at_left xs ys i x e

-- the number of a line: all steal edges, the lines of the thieves before, and its dimension
pub line_at : (s : Setup) (t j v : ℕ) → t < s.places → get_elem? (s.outs t) j ≡ some v → (k : ℕ)
    → k + s.places ≡ s.places * s.places
    → get_elem? (names s) (k + (sum_to t (λ u. length (s.outs u)) + j)) ≡ some
    (record { kind = kind.Line; thief = t; victim = v })
line_at s t j v l h k e =
    at_right (join_to s.places (steals_of s)) (join_to s.places (lines_of s)) _ _ _ long
    (subst (λ i. get_elem? (join_to s.places (lines_of s)) (i + j) ≡ some (name_of kind.Line t v))
    (sums t) (join_at s.places (lines_of s) t j (name_of kind.Line t v) l (at_mapped (s.outs t) j v h)))
  where
    at_mapped : (xs : List ℕ) (i x : ℕ) → get_elem? xs i ≡ some x
        → get_elem? (map (name_of kind.Line t) xs) i ≡ some (name_of kind.Line t x)
    at_mapped [] i x e = absurd (some-ne-none x (sym e))
    at_mapped (y ∷ ys) zero x e = ap some (ap (name_of kind.Line t) (some-injective y x e))
    at_mapped (y ∷ ys) (suc i) x e = at_mapped ys i x e

    length_mapped : (u : ℕ) (xs : List ℕ) → length (map (name_of kind.Line u) xs) ≡ length xs
    length_mapped u [] = refl
    length_mapped u (y ∷ ys) = ap suc (length_mapped u ys)

    sums : (n : ℕ) → sum_to n (λ u. length (lines_of s u)) ≡ sum_to n (λ u. length (s.outs u))
    sums n = sum_same n (λ u. length (s.outs u)) (λ u. length (lines_of s u))
        (λ u b. length_mapped u (s.outs u))

    rows : (n : ℕ) → n ≤ s.places → sum_to n (λ u. length (steals_of s u)) + n ≡ n * s.places
    rows zero b = omega arith
    rows (suc n) b =
        let a = rows n (omega arith) in
        let c = length_join_is s.places (steal_name n) in
        let d = high_rank n s.places (omega arith) in
        let f : suc n * s.places ≡ n * s.places + s.places = grind arith in
        omega arith

    long : k + (sum_to t (λ u. length (s.outs u)) + j) ≡ length (join_to s.places (steals_of s)) +
        (sum_to t (λ u. length (s.outs u)) + j)
    long = let a = rows s.places (omega arith) in let b = length_join_is s.places (steals_of s)
        in omega arith

    at_right : {A : Type 0} (xs ys : List A) (j : ℕ) (x : A) (i : ℕ) → i ≡ length xs + j
        → get_elem? ys j ≡ some x → get_elem? (xs ++ ys) i ≡ some x
    at_right [] ys j x i e h = let q : i ≡ j = omega arith in subst (λ k. get_elem? ys k ≡ some x) (sym q) h
    at_right (z ∷ xs) ys j x zero e h = absurd (omega arith)
    at_right (z ∷ xs) ys j x (suc i) e h = at_right xs ys j x i (omega arith) h
