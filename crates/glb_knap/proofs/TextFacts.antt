-- Each list of bytes says exactly one thing.
use Rattle.std.proofs.Common.{◌≡◌, ℕ, zero, suc, ◌<◌, ◌≤◌, ◌⊎◌, List, [], ◌∷◌, inl}
use Rattle.std.proofs.Common.{inr, refl, sym, ◌∙◌, ap, subst, arith}
use Rattle.std.proofs.lemmas.Bool.{cases_lt}
use Rattle.glb_graph.specs.GraphText.{BadLine, TooLarge, BadEnd, lines_of}
use Rattle.glb_graph.proofs.TextFacts.{is_pair, same_pair}
use Rattle.glb_knap.specs.KnapText.{Reading, Carries, Fault, IsLine, add_line, LinesSay, TextSays}
use Rattle.glb_knap.specs.KnapText.{BytesSay}

-- whether a line is one of a knapsack
is_line : (text : List ℕ) → ((a : ℕ) × (b : ℕ) × IsLine text a b)
    ⊎ ((a b : ℕ) → IsLine text a b → ⊥)
is_line text = elim (is_pair text) [
  | inr lacks ↦ inr (λ a b e. lacks a b e.0)
  | inl r ↦ elim (cases_lt r.0 1) [
    | inl low ↦ inr
        (λ a b e. let s = (same_pair text a b r.0 r.1 e.0 r.2).0 in let l = e.1 in omega arith)
    | inr some ↦ elim (cases_lt 4294967295 r.0) [
      | inl high ↦ inr
          (λ a b e. let s = (same_pair text a b r.0 r.1 e.0 r.2).0 in let l = e.2 in omega arith)
      | inr few ↦ elim (cases_lt 4294967295 r.1) [
        | inl high ↦ inr
            (λ a b e. let s = (same_pair text a b r.0 r.1 e.0 r.2).1 in let l = e.3
            in omega arith)
        | inr few' ↦ inl (r.0, r.1, (r.2, some, few, few'))
      ]
    ]
  ]
]

-- texts say some lines or have a fault
some_lines : (c left at : ℕ) (texts : List (List ℕ)) → (r : Reading) × LinesSay c left at texts r
some_lines c zero at [] = (Carries c [], refl)
some_lines c zero at (text ∷ texts) = (Fault BadEnd at, refl)
some_lines c (suc left) at [] = (Fault BadEnd at, refl)
some_lines c (suc left) at (text ∷ texts) = elim (is_line text) [
  | inr lacks ↦ (Fault BadLine at, inl (lacks, refl))
  | inl e ↦ let rest = some_lines c left (suc at) texts in
      (add_line (e.0, e.1) rest.0, inr (e.0, e.1, rest.0, e.2, rest.1, refl))
]

-- and only one of these
one_lines : (c left at : ℕ) (texts : List (List ℕ)) (r r' : Reading)
    → LinesSay c left at texts r → LinesSay c left at texts r' → r ≡ r'
one_lines c zero at [] r r' p q = p ∙ sym q
one_lines c zero at (text ∷ texts) r r' p q = p ∙ sym q
one_lines c (suc left) at [] r r' p q = p ∙ sym q
one_lines c (suc left) at (text ∷ texts) r r' (inl p) (inl q) = p.1 ∙ sym q.1
one_lines c (suc left) at (text ∷ texts) r r' (inl p) (inr q) = absurd (p.0 q.0 q.1 q.3)
one_lines c (suc left) at (text ∷ texts) r r' (inr p) (inl q) = absurd (q.0 p.0 p.1 p.3)
one_lines c (suc left) at (text ∷ texts) r r' (inr (a, b, s, e, p, is))
    (inr (a', b', s', e', p', is')) =
    let same = same_pair text a b a' b' e.0 e'.0 in
    is ∙ ap (λ x. add_line (x, b) s) same.0 ∙ ap (λ x. add_line (a', x) s) same.1
    ∙ ap (add_line (a', b')) (one_lines c left (suc at) texts s s' p p') ∙ sym is'

-- bytes say a knapsack or have a fault
pub some_reading : (bytes : List ℕ) → (r : Reading) × BytesSay bytes r
some_reading bytes = on (lines_of bytes)
  where
    on : (texts : List (List ℕ)) → (r : Reading) × TextSays texts r
    on [] = (Fault BadEnd 1, refl)
    on (text ∷ texts) = elim (is_pair text) [
      | inr lacks ↦ (Fault BadLine 1, inl (lacks, refl))
      | inl p ↦ elim (cases_lt 64 p.0) [
        | inl high ↦ (Fault TooLarge 1, inr (p.0, p.1, p.2, inl (inl high, refl)))
        | inr low ↦ elim (cases_lt 4294967295 p.1) [
          | inl high ↦ (Fault TooLarge 1, inr (p.0, p.1, p.2, inl (inr high, refl)))
          | inr low' ↦ let rest = some_lines p.1 p.0 2 texts
              in (rest.0, inr (p.0, p.1, p.2, inr (low, low', rest.1)))
        ]
      ]
    ]

-- and only one of these
pub one_reading : (bytes : List ℕ) (r r' : Reading) → BytesSay bytes r → BytesSay bytes r' → r ≡ r'
one_reading bytes r r' p q = on (lines_of bytes) p q
  where
    is_large : (a b a' b' : ℕ) → a ≡ a' → b ≡ b' → (64 < a) ⊎ (4294967295 < b) → a' ≤ 64
        → b' ≤ 4294967295
        → ⊥
    is_large a b a' b' e f (inl h) l m = omega arith
    is_large a b a' b' e f (inr h) l m = omega arith

    on : (texts : List (List ℕ)) → TextSays texts r → TextSays texts r' → r ≡ r'
    on [] p q = p ∙ sym q
    on (text ∷ texts) (inl p) (inl q) = p.1 ∙ sym q.1
    on (text ∷ texts) (inl p) (inr q) = absurd (p.0 q.0 q.1 q.2)
    on (text ∷ texts) (inr p) (inl q) = absurd (q.0 p.0 p.1 p.2)
    on (text ∷ texts) (inr (a, b, p, inl x)) (inr (a', b', q, inl y)) = x.1 ∙ sym y.1
    on (text ∷ texts) (inr (a, b, p, inl x)) (inr (a', b', q, inr y)) =
        let s = same_pair text a b a' b' p q in absurd (is_large a b a' b' s.0 s.1 x.0 y.0 y.1)
    on (text ∷ texts) (inr (a, b, p, inr x)) (inr (a', b', q, inl y)) =
        let s = same_pair text a' b' a b q p in absurd (is_large a' b' a b s.0 s.1 y.0 x.0 x.1)
    on (text ∷ texts) (inr (a, b, p, inr x)) (inr (a', b', q, inr y)) =
        let s = same_pair text a b a' b' p q in
        one_lines b' a' 2 texts r r'
        (subst (λ n. LinesSay n a' 2 texts r) s.1
        (subst (λ n. LinesSay b n 2 texts r) s.0 x.2)) y.2
