-- Each list of bytes says exactly one thing.
use Rattle.std.proofs.Common.{◌≡◌, ℕ, zero, suc, ◌<◌, ◌≤◌, ◌⊎◌, List, [], ◌∷◌, ◌++◌, length, inl}
use Rattle.std.proofs.Common.{inr, refl, sym, ◌∙◌, ap, subst, arith}
use Rattle.std.proofs.lemmas.Bool.{cases_lt, cases_eq}
use Rattle.glb_graph.specs.GraphText.{BadLine, TooLarge, BadEnd, Reading, Edges, Fault, lines_of}
use Rattle.glb_graph.specs.GraphText.{AreDigits, number_from, IsNumeral, IsPair, IsEdge, with_edge}
use Rattle.glb_graph.specs.GraphText.{EdgeLinesSay, LinesSay, BytesSay}

-- digits end at the first space, in one way
same_split : (xs xs' ys ys' : List ℕ) → AreDigits xs → AreDigits xs'
    → xs ++ 32 ∷ ys ≡ xs' ++ 32 ∷ ys'
    → (xs ≡ xs') × (ys ≡ ys')
same_split [] [] ys ys' p q e = (refl, cc)
same_split [] (d ∷ xs') ys ys' p (low, high, q) e = let h : 32 ≡ d = cc in absurd (omega arith)
same_split (d ∷ xs) [] ys ys' (low, high, p) q e = let h : d ≡ 32 = cc in absurd (omega arith)
same_split (d ∷ xs) (d' ∷ xs') ys ys' (_, _, p) (_, _, q) e =
    let h : d ≡ d' = cc in
    let t : xs ++ 32 ∷ ys ≡ xs' ++ 32 ∷ ys' = cc in
    let r = same_split xs xs' ys ys' p q t in
    let r0 = r.0 in
    (cc, r.1)

-- a line is a pair of two numbers in one way
pub same_pair : (line : List ℕ) (a b a' b' : ℕ) → IsPair line a b → IsPair line a' b'
    → (a ≡ a') × (b ≡ b')
same_pair line a b a' b' p q =
    let r = same_split p.first q.first p.second q.second p.first_numeral.digits
    q.first_numeral.digits
    (sym p.line_is ∙ q.line_is) in (
      p.first_is ∙ ap (number_from 0) r.0 ∙ sym q.first_is,
      p.second_is ∙ ap (number_from 0) r.1 ∙ sym q.second_is,
    )

-- whether all bytes are digits
are_digits : (ds : List ℕ) → AreDigits ds ⊎ (AreDigits ds → ⊥)
are_digits [] = inl tt
are_digits (d ∷ ds) = elim (are_digits ds) [
  | inr lacks ↦ inr (λ a. lacks a.2)
  | inl has ↦ elim (cases_lt d 48) [
    | inl low ↦ inr (λ a. let l = a.0 in omega arith)
    | inr ge ↦ elim (cases_lt d 58)
        [ inl lt ↦ inl (ge, lt, has) | inr high ↦ inr (λ a. let l = a.1 in omega arith) ]
  ]
]

-- whether they are a numeral
is_numeral : (ds : List ℕ) → IsNumeral ds ⊎ (IsNumeral ds → ⊥)
is_numeral ds = elim (are_digits ds) [
  | inr lacks ↦ inr (λ n. lacks n.digits)
  | inl has ↦ elim (cases_lt 0 (length ds)) [
    | inr none ↦ inr (λ n. let s = n.some in omega arith)
    | inl some ↦ elim (cases_lt 10 (length ds)) [
      | inl long ↦ inr (λ n. let s = n.few in omega arith)
      | inr few ↦ inl
          (record { some = omega arith; few = few; digits = has })
    ]
  ]
]

-- the digits before the first space, if only digits stand there
front : (line : List ℕ) → ((xs : List ℕ) × (ys : List ℕ) × AreDigits xs × (line ≡ xs ++ 32 ∷ ys))
    ⊎ ((xs ys : List ℕ) → AreDigits xs → line ≡ xs ++ 32 ∷ ys → ⊥)
front [] = inr lacks
  where
    lacks : (xs ys : List ℕ) → AreDigits xs → [] ≡ xs ++ 32 ∷ ys → ⊥
    lacks [] ys d e = cc
    lacks (x ∷ xs) ys d e = cc
front (b ∷ line) = at b line (front line)
  where
    below : (b : ℕ) (line : List ℕ) → ((b ≡ 32) → ⊥)
        → (AreDigits (b ∷ []) → (xs ys : List ℕ) → AreDigits xs → line ≡ xs ++ 32 ∷ ys → ⊥)
        → (xs ys : List ℕ) → AreDigits xs → b ∷ line ≡ xs ++ 32 ∷ ys → ⊥
    below b line ne lacks [] ys d e = ne (cc)
    below b line ne lacks (x ∷ xs) ys (low, high, d) e = let h : x ≡ b = cc
        in lacks (omega arith, omega arith, tt) xs ys d (cc)

    at : (b : ℕ) (line : List ℕ)
        → ((xs : List ℕ) × (ys : List ℕ) × AreDigits xs × (line ≡ xs ++ 32 ∷ ys))
        ⊎ ((xs ys : List ℕ) → AreDigits xs → line ≡ xs ++ 32 ∷ ys → ⊥) →
        ((xs : List ℕ) × (ys : List ℕ) × AreDigits xs × (b ∷ line ≡ xs ++ 32 ∷ ys))
        ⊎ ((xs ys : List ℕ) → AreDigits xs → b ∷ line ≡ xs ++ 32 ∷ ys → ⊥)
    at b line rest = elim (cases_eq b 32) [
      | inl e ↦ inl ([], line, tt, ap (λ b. b ∷ line) e)
      | inr ne ↦ elim (are_digits (b ∷ [])) [
        | inr lacks ↦ inr (below b line ne (λ d. absurd (lacks d)))
        | inl has ↦ elim rest [
          | inl r ↦ inl (b ∷ r.0, r.1, (has.0, has.1, r.2), ap (λ l. b ∷ l) r.3)
          | inr none ↦ inr (below b line ne (λ _. none))
        ]
      ]
    ]

-- whether a line is a pair
pub is_pair : (line : List ℕ)
    → ((a : ℕ) × (b : ℕ) × IsPair line a b) ⊎ ((a b : ℕ) → IsPair line a b → ⊥)
is_pair line = elim (front line) [
  | inr none ↦ inr (λ a b p. none p.first p.second p.first_numeral.digits p.line_is)
  | inl r ↦ elim (is_numeral r.0) [
    | inr lacks ↦ inr (λ a b p.
        lacks (subst IsNumeral
        (same_split p.first r.0 p.second r.1 p.first_numeral.digits r.2 (sym p.line_is ∙ r.3)).0
        p.first_numeral))
    | inl has ↦ elim (is_numeral r.1) [
      | inr lacks ↦ inr (λ a b p.
          lacks (subst IsNumeral
          (same_split p.first r.0 p.second r.1 p.first_numeral.digits r.2 (sym p.line_is ∙ r.3)).1
          p.second_numeral))
      | inl has' ↦ inl (
        number_from 0 r.0,
        number_from 0 r.1,
        record {
          first = r.0;
          second = r.1;
          line_is = r.3;
          first_numeral = has;
          second_numeral = has';
          first_is = refl;
          second_is = refl;
        },
      )
    ]
  ]
]

-- whether a line is an edge
pub is_edge : (vertices : ℕ) (line : List ℕ) → ((a : ℕ) × (b : ℕ) × IsEdge vertices line a b)
    ⊎ ((a b : ℕ) → IsEdge vertices line a b → ⊥)
is_edge vertices line = elim (is_pair line) [
  | inr lacks ↦ inr (λ a b e. lacks a b e.0)
  | inl r ↦ elim (cases_lt r.0 vertices) [
    | inr high ↦ inr
        (λ a b e. let s = (same_pair line a b r.0 r.1 e.0 r.2).0 in let l = e.1 in omega arith)
    | inl low ↦ elim (cases_lt r.1 vertices) [
      | inr high ↦ inr (λ a b e. let s = (same_pair line a b r.0 r.1 e.0 r.2).1 in let l = e.2
          in omega arith)
      | inl low' ↦ inl (r.0, r.1, (r.2, low, low'))
    ]
  ]
]

-- lines say some edges or have a fault
pub some_edges : (vertices left at : ℕ) (lines : List (List ℕ)) → (r : Reading)
    × EdgeLinesSay vertices left at lines r
some_edges vertices zero at [] = (Edges vertices [], refl)
some_edges vertices zero at (line ∷ lines) = (Fault BadEnd at, refl)
some_edges vertices (suc left) at [] = (Fault BadEnd at, refl)
some_edges vertices (suc left) at (line ∷ lines) = elim (is_edge vertices line) [
  | inr lacks ↦ (Fault BadLine at, inl (lacks, refl))
  | inl e ↦ let rest = some_edges vertices left (suc at) lines in
      (with_edge (e.0, e.1) rest.0, inr (e.0, e.1, rest.0, e.2, rest.1, refl))
]

-- and only one of these
pub one_edges : (vertices left at : ℕ) (lines : List (List ℕ)) (r r' : Reading)
    → EdgeLinesSay vertices left at lines r → EdgeLinesSay vertices left at lines r' → r ≡ r'
one_edges vertices zero at [] r r' p q = p ∙ sym q
one_edges vertices zero at (line ∷ lines) r r' p q = p ∙ sym q
one_edges vertices (suc left) at [] r r' p q = p ∙ sym q
one_edges vertices (suc left) at (line ∷ lines) r r' (inl p) (inl q) = p.1 ∙ sym q.1
one_edges vertices (suc left) at (line ∷ lines) r r' (inl p) (inr q) = absurd (p.0 q.0 q.1 q.3)
one_edges vertices (suc left) at (line ∷ lines) r r' (inr p) (inl q) = absurd (q.0 p.0 p.1 p.3)
one_edges vertices (suc left) at (line ∷ lines) r r' (inr (a, b, s, e, p, is))
    (inr (a', b', s', e', p', is')) =
    let same = same_pair line a b a' b' e.0 e'.0 in
    is ∙ ap (λ x. with_edge (x, b) s) same.0 ∙ ap (λ x. with_edge (a', x) s) same.1
    ∙ ap (with_edge (a', b')) (one_edges vertices left (suc at) lines s s' p p') ∙ sym is'

-- bytes say a graph or have a fault
pub some_reading : (bytes : List ℕ) → (r : Reading) × BytesSay bytes r
some_reading bytes = on (lines_of bytes)
  where
    on : (lines : List (List ℕ)) → (r : Reading) × LinesSay lines r
    on [] = (Fault BadEnd 1, refl)
    on (line ∷ lines) = elim (is_pair line) [
      | inr lacks ↦ (Fault BadLine 1, inl (lacks, refl))
      | inl p ↦ elim (cases_lt 20000 p.0) [
        | inl high ↦ (Fault TooLarge 1, inr (p.0, p.1, p.2, inl (inl high, refl)))
        | inr low ↦ elim (cases_lt 1000000 p.1) [
          | inl high ↦ (Fault TooLarge 1, inr (p.0, p.1, p.2, inl (inr high, refl)))
          | inr low' ↦ let rest = some_edges p.0 p.1 2 lines
              in (rest.0, inr (p.0, p.1, p.2, inr (low, low', rest.1)))
        ]
      ]
    ]

-- and only one of these
pub one_reading : (bytes : List ℕ) (r r' : Reading) → BytesSay bytes r → BytesSay bytes r' → r ≡ r'
one_reading bytes r r' p q = on (lines_of bytes) p q
  where
    is_large : (a b a' b' : ℕ) → a ≡ a' → b ≡ b' → (20000 < a) ⊎ (1000000 < b) → a' ≤ 20000
        → b' ≤ 1000000
        → ⊥
    is_large a b a' b' e f (inl h) l m = omega arith
    is_large a b a' b' e f (inr h) l m = omega arith

    on : (lines : List (List ℕ)) → LinesSay lines r → LinesSay lines r' → r ≡ r'
    on [] p q = p ∙ sym q
    on (line ∷ lines) (inl p) (inl q) = p.1 ∙ sym q.1
    on (line ∷ lines) (inl p) (inr q) = absurd (p.0 q.0 q.1 q.2)
    on (line ∷ lines) (inr p) (inl q) = absurd (q.0 p.0 p.1 p.2)
    on (line ∷ lines) (inr (a, b, p, inl x)) (inr (a', b', q, inl y)) = x.1 ∙ sym y.1
    on (line ∷ lines) (inr (a, b, p, inl x)) (inr (a', b', q, inr y)) =
        let s = same_pair line a b a' b' p q in absurd (is_large a b a' b' s.0 s.1 x.0 y.0 y.1)
    on (line ∷ lines) (inr (a, b, p, inr x)) (inr (a', b', q, inl y)) =
        let s = same_pair line a' b' a b q p in absurd (is_large a' b' a b s.0 s.1 y.0 x.0 x.1)
    on (line ∷ lines) (inr (a, b, p, inr x)) (inr (a', b', q, inr y)) =
        let s = same_pair line a b a' b' p q in
        one_edges a' b' 2 lines r r'
        (subst (λ n. EdgeLinesSay n b' 2 lines r) s.0
        (subst (λ n. EdgeLinesSay a n 2 lines r) s.1 x.2)) y.2
