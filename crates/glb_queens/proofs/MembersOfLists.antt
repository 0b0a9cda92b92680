-- Members, pairs and lengths of lists in general.
use Rattle.std.proofs.Common.{◌≡◌, ◌≢◌, ℕ, zero, suc, ◌+◌, ◌<◌, ◌≤◌, Bool, true, not, ◌==◌, List, [], ◌∷◌, ◌++◌, length, get_or, map, inl, inr, refl, sym, ap, subst, ◌∙◌, arith}
use Rattle.std.specs.List.{All, AllPairs, Contains, filter, flat_map, range_with_len}
use Rattle.std.proofs.lemmas.Bool.{cases_Bool, cond-true, cond-false, eqb-true, ne_eqb, eq-eqb, not_from_false, cases_eq}
use Rattle.std.proofs.lemmas.List.{length-map, get_or-map}
use Rattle.std.proofs.lemmas.List.Elements.{All-nil, All-cons, All-head, All-tail, All-append, All-filter, filter_passes, Contains-append_left, Contains-append_right}
use Rattle.std.proofs.lemmas.List.Kept.{AllPairs-cons, AllPairs-filter}

-- what holds of all members of each list holds of all members of the lists joined
pub All-flat_map : {X Y : Type 0} (P : Y → Type 0) (f : X → List Y) (xs : List X)
    → All (λ x. All P (f x)) xs → All P (flat_map f xs)
All-flat_map P f [] h = All-nil P
All-flat_map P f (x ∷ xs) h =
    All-append P (f x) (flat_map f xs) (All-head (λ x. All P (f x)) x xs h)
    (All-flat_map P f xs (All-tail (λ x. All P (f x)) x xs h))

-- a list contains its first member
pub Contains-head : {X : Type 0} (x : X) (xs : List X) → Contains (x ∷ xs) x
Contains-head x xs = (0, omega arith, refl)

-- a longer list contains what a list contains
pub Contains-tail : {X : Type 0} (y x : X) (xs : List X) → Contains xs x → Contains (y ∷ xs) x
Contains-tail y x xs c = (suc c.0, omega (arith, c.1), c.2)

-- lists joined contain what one of them contains
pub Contains-flat_map : {X Y : Type 0} (f : X → List Y) (xs : List X) (x : X) (y : Y)
    → Contains xs x
    → Contains (f x) y → Contains (flat_map f xs) y
Contains-flat_map f [] x y c d = absurd (omega (arith, c.1))
Contains-flat_map f (a ∷ xs) x y (zero, lt, is) d =
    Contains-append_left (f a) (flat_map f xs) y (subst (λ z. Contains (f z) y) (sym is) d)
Contains-flat_map f (a ∷ xs) x y (suc k, lt, is) d =
    Contains-append_right (f a) (flat_map f xs) y
    (Contains-flat_map f xs x y (k, omega arith, is) d)

-- the image of a member is a member of the image
pub Contains-map : {X Y : Type 0} (f : X → Y) (xs : List X) (x : X) → Contains xs x
    → Contains (map f xs) (f x)
Contains-map f xs x c =
    (c.0, omega (arith, length-map xs f, c.1), get_or-map f xs c.0 x (f x) c.1 ∙ ap f c.2)

-- a member that passes the test is kept
pub Contains-filter : {X : Type 0} (p : X → Bool) (xs : List X) (x : X) → p x ≡ true → Contains xs x
    → Contains (filter p xs) x
Contains-filter p [] x h c = absurd (omega (arith, c.1))
Contains-filter p (a ∷ xs) x h (zero, lt, is) =
    subst (λ l. Contains l x) (sym (cond-true (p a) _ _ (ap p is ∙ h)))
    (subst (λ z. Contains (z ∷ filter p xs) x) (sym is) (Contains-head x (filter p xs)))
Contains-filter p (a ∷ xs) x h (suc k, lt, is) =
    let rest = Contains-filter p xs x h (k, omega arith, is) in
    elim (cases_Bool (p a)) [
      | inl t ↦ subst (λ l. Contains l x) (sym (cond-true (p a) _ _ t))
          (Contains-tail a x (filter p xs) rest)
      | inr t ↦ subst (λ l. Contains l x) (sym (cond-false (p a) _ _ t)) rest
    ]

-- a row of numbers contains each between its ends
pub Contains-range : (a n k : ℕ) → a ≤ k → k < a + n → Contains (range_with_len a n) k
Contains-range a zero k low high = absurd (omega arith)
Contains-range a (suc n) k low high =
    elim (cases_eq a k) [
      | inl e ↦ subst (λ z. Contains (z ∷ range_with_len (a + 1) n) k) (sym e)
          (Contains-head k (range_with_len (a + 1) n))
      | inr ne ↦ Contains-tail a k (range_with_len (a + 1) n)
          (Contains-range (a + 1) n k (omega (arith, ne)) (omega arith))
    ]

-- what holds between the ends holds of each number of the row
pub All-range : (P : ℕ → Type 0) (a n : ℕ) → ((k : ℕ) → a ≤ k → k < a + n → P k)
    → All P (range_with_len a n)
All-range P a zero h = All-nil P
All-range P a (suc n) h =
    All-cons P a (range_with_len (a + 1) n) (h a (omega arith) (omega arith))
    (All-range P (a + 1) n (λ k low high. h k (omega arith) (omega arith)))

-- the numbers of a row differ
pub AllPairs-range : (a n : ℕ) → AllPairs (λ x y. x ≢ y) (range_with_len a n)
AllPairs-range a zero = λ i j d lt within. absurd (omega arith)
AllPairs-range a (suc n) =
    AllPairs-cons (λ x y. x ≢ y) a (range_with_len (a + 1) n)
    (All-range (λ k. a ≢ k) (a + 1) n (λ k low high e. absurd (omega (arith, e))))
    (AllPairs-range (a + 1) n)

-- the first member and the others
pub AllPairs-head : {X : Type 0} (R : X → X → Type 0) (x : X) (xs : List X) → AllPairs R (x ∷ xs)
    → All (R x) xs
AllPairs-head R x xs h k d lt = h 0 (suc k) d (omega arith) (omega arith)

-- the members behind the first
pub AllPairs-tail : {X : Type 0} (R : X → X → Type 0) (x : X) (xs : List X) → AllPairs R (x ∷ xs)
    → AllPairs R xs
AllPairs-tail R x xs h i j d lt within = h (suc i) (suc j) d (omega arith) (omega arith)

-- the pairs of two lists joined
pub AllPairs-append : {X : Type 0} (R : X → X → Type 0) (xs ys : List X) → AllPairs R xs
    → AllPairs R ys
    → All (λ x. All (R x) ys) xs → AllPairs R (xs ++ ys)
AllPairs-append R [] ys p q c = q
AllPairs-append R (x ∷ xs) ys p q c =
    AllPairs-cons R x (xs ++ ys)
    (All-append (R x) xs ys (AllPairs-head R x xs p) (All-head (λ x. All (R x) ys) x xs c))
    (AllPairs-append R xs ys (AllPairs-tail R x xs p) q (All-tail (λ x. All (R x) ys) x xs c))

-- the members but this one
abbrev others : ℕ → List ℕ → List ℕ
others n xs = filter (λ x. not (x == n)) xs

-- where a number is not in the list, nothing is left out with it
all_kept : (n : ℕ) (xs : List ℕ) → All (λ x. n ≢ x) xs → length xs ≤ length (others n xs)
all_kept n [] h = omega arith
all_kept n (x ∷ xs) h =
    let rest = all_kept n xs (All-tail (λ x. n ≢ x) x xs h) in
    let passes : not (x == n) ≡ true =
    not_from_false (x == n) (ne_eqb x n (λ e. All-head (λ x. n ≢ x) x xs h (sym e))) in
    omega (arith, ap length (cond-true (not (x == n)) (x ∷ others n xs) (others n xs) passes))

-- where no number stands twice, one at most is left out
one_less : (n : ℕ) (xs : List ℕ) → AllPairs (λ x y. x ≢ y) xs → length xs ≤ length (others n xs) + 1
one_less n [] h = omega arith
one_less n (x ∷ xs) h =
    elim (cases_Bool (x == n)) [
      | inl same ↦
          let rest = all_kept n xs
          (subst (λ z. All (λ y. z ≢ y) xs) (eqb-true x n same)
          (AllPairs-head (λ x y. x ≢ y) x xs h))
          in
          omega (
            arith,
            ap length
                (cond-false (not (x == n)) (x ∷ others n xs) (others n xs) (ap not same)),
          )
      | inr other ↦
          let rest = one_less n xs (AllPairs-tail (λ x y. x ≢ y) x xs h) in
          omega (
            arith,
            ap length
                (cond-true (not (x == n)) (x ∷ others n xs) (others n xs) (ap not other)),
          )
    ]

-- without the greatest, all are below it
below_others : (n : ℕ) (xs : List ℕ) → All (λ x. x < suc n) xs → All (λ x. x < n) (others n xs)
below_others n xs h k d lt =
    let low : get_or (others n xs) k d < suc n =
    All-filter (λ x. not (x == n)) (λ x. x < suc n) xs h k d lt in
    let passes : not (get_or (others n xs) k d == n)
    ≡ true = filter_passes (λ x. not (x == n)) xs k d lt in
    elim (cases_eq (get_or (others n xs) k d) n) [
      | inl e ↦ absurd (let t : not (n == n) ≡ true = ap (λ z. not (z == n)) (sym e) ∙ passes
          in cc (ap not (eq-eqb n n refl), t))
      | inr ne ↦ omega (arith, ne)
    ]

-- different numbers below n are n at most
pub different_few : (n : ℕ) (xs : List ℕ) → AllPairs (λ x y. x ≢ y) xs → All (λ x. x < n) xs
    → length xs ≤ n
different_few zero [] p h = omega arith
different_few zero (x ∷ xs) p h = absurd (omega (arith, All-head (λ x. x < 0) x xs h))
different_few (suc n) xs p h =
    omega (
      arith,
      one_less n xs p,
      different_few n (others n xs) (AllPairs-filter (λ x y. x ≢ y) (λ x. not (x == n)) xs p)
          (below_others n xs h),
    )
