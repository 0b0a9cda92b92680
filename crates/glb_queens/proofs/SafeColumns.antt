-- Safe lists grow by free columns, and by no others.
use Rattle.std.proofs.Common.{◌≡◌, ℕ, zero, suc, ◌+◌, ◌-◌, ◌<◌, true, not, ◌&&◌, ◌==◌, List, [], ◌∷◌, ◌++◌, length, get_or, inl, inr, refl, sym, subst, arith}
use Rattle.std.proofs.lemmas.Bool.{and_parts, and_from, eqb-false, ne_eqb, not-true, not_from_false, cases_lt}
use Rattle.std.proofs.lemmas.List.{length_push, length-append, get_or_append_left, get_or_push}
use Rattle.glb_queens.specs.Boards.{AreApart, IsSafe, are_apart, is_free}

-- the test of two queens says that they are apart
apart_from : (a b rows : ℕ) → are_apart a b rows ≡ true → AreApart a b rows
apart_from a b rows h =
    let p = and_parts (not (a == b)) (not (a + rows == b) && not (b + rows == a)) h in
    let q = and_parts (not (a + rows == b)) (not (b + rows == a)) p.1 in (
      eqb-false a b (not-true (a == b) p.0),
      eqb-false (a + rows) b (not-true (a + rows == b) q.0),
      eqb-false (b + rows) a (not-true (b + rows == a) q.1),
    )

-- two queens that are apart pass the test
test_from : (a b rows : ℕ) → AreApart a b rows → are_apart a b rows ≡ true
test_from a b rows h =
    and_from _ _ (not_from_false (a == b) (ne_eqb a b h.0))
    (and_from _ _ (not_from_false (a + rows == b) (ne_eqb (a + rows) b h.1))
    (not_from_false (b + rows == a) (ne_eqb (b + rows) a h.2)))

-- a free column is apart from the queen of each row
pub apart_where_free : (columns : List ℕ) (c : ℕ) → is_free columns c ≡ true → (i : ℕ)
    → i < length columns → AreApart (get_or columns i 0) c (length columns - i)
unfolding is_free
apart_where_free [] c h i lt = absurd (omega arith)
apart_where_free (a ∷ columns) c h zero lt =
    let e : length columns + 1 ≡ length (a ∷ columns) - 0 = omega arith in
    subst (AreApart a c) e
    (apart_from a c (length columns + 1)
    (and_parts (are_apart a c (length columns + 1)) (is_free columns c) h).0)
apart_where_free (a ∷ columns) c h (suc i) lt =
    let e : length columns - i ≡ length (a ∷ columns) - suc i = omega arith in
    subst (AreApart (get_or columns i 0) c) e
    (apart_where_free columns c
    (and_parts (are_apart a c (length columns + 1)) (is_free columns c) h).1 i (omega arith))

-- a column that is apart from all queens is free
pub free_where_apart : (columns : List ℕ) (c : ℕ)
    → ((i : ℕ) → i < length columns → AreApart (get_or columns i 0) c (length columns - i))
    → is_free columns c ≡ true
unfolding is_free
free_where_apart [] c h = refl
free_where_apart (a ∷ columns) c h =
    let e : length (a ∷ columns) - 0 ≡ length columns + 1 = omega arith in
    let rest : (i : ℕ) → i < length columns → AreApart (get_or columns i 0) c (length columns - i) =
    λ i lt. let f : length (a ∷ columns) - suc i ≡ length columns - i = omega arith
    in subst (AreApart (get_or columns i 0) c) f (h (suc i) (omega arith))
    in
    and_from _ _ (test_from a c (length columns + 1) (subst (AreApart a c) e (h 0 (omega arith))))
    (free_where_apart columns c rest)

-- no queens are safe
pub safe_none : IsSafe []
safe_none i j lt within = absurd (omega arith)

-- safe queens with one in a free column are safe
pub safe_push : (columns : List ℕ) (c : ℕ) → IsSafe columns → is_free columns c ≡ true
    → IsSafe (columns ++ c ∷ [])
safe_push columns c safe free i j lt within =
    let size = length_push columns c in
    let here : get_or (columns ++ c ∷ []) i 0 ≡ get_or columns i 0 =
    get_or_append_left columns (c ∷ []) 0 i (omega arith) in
    elim (cases_lt j (length columns)) [
      | inl before ↦
          let there = get_or_append_left columns (c ∷ []) 0 j before in
          subst (λ a. AreApart a (get_or (columns ++ c ∷ []) j 0) (j - i)) (sym here)
          (subst (λ b. AreApart (get_or columns i 0) b (j - i)) (sym there) (safe i j lt before))
      | inr last ↦
          let e : length columns ≡ j = omega arith in
          let there = get_or_push columns c 0 j e in
          let apart = subst (λ k. AreApart (get_or columns i 0) c (k - i)) e
          (apart_where_free columns c free i (omega arith)) in
          subst (λ a. AreApart a (get_or (columns ++ c ∷ []) j 0) (j - i)) (sym here)
          (subst (λ b. AreApart (get_or columns i 0) b (j - i)) (sym there) apart)
    ]

-- the first of safe queens are safe
pub safe_front : (columns more : List ℕ) → IsSafe (columns ++ more) → IsSafe columns
safe_front columns more safe i j lt within =
    let size = length-append columns more in
    let here = get_or_append_left columns more 0 i (omega arith) in
    let there = get_or_append_left columns more 0 j within in
    subst (λ a. AreApart a (get_or columns j 0) (j - i)) here
    (subst (λ b. AreApart (get_or (columns ++ more) i 0) b (j - i)) there
    (safe i j lt (omega arith)))

-- the last column of safe queens was free
pub free_last : (columns : List ℕ) (c : ℕ) → IsSafe (columns ++ c ∷ []) → is_free columns c ≡ true
free_last columns c safe =
    free_where_apart columns c (λ i lt.
    let size = length_push columns c in
    let here = get_or_append_left columns (c ∷ []) 0 i lt in
    let there = get_or_push columns c 0 (length columns) refl in
    subst (λ a. AreApart a c (length columns - i)) here
    (subst (λ b. AreApart (get_or (columns ++ c ∷ []) i 0) b (length columns - i)) there
    (safe i (length columns) lt (omega arith))))
