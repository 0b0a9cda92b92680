-- What is known of the edges after one of them was looked at or changed.
use Rattle.std.proofs.Common.{◌≡◌, ◌≢◌, ℕ, ◌<◌, ◌⊎◌, inl, inr, ⊎_elim, Bool, true, false, cond, ◌&&◌, ◌==◌, List, [], ◌∷◌, length, get_or, set, zero, suc, map, refl, sym, ap, ◌∙◌, subst, arith}
use Rattle.std.proofs.lemmas.Bool.{cases_eq}
use Rattle.glb_rules.specs.World.{same_kind}
use Rattle.glb_rules.specs.Events.{name_of}
use Rattle.glb_rules.specs.Sight.{IsIn}
use Rattle.glb_rules.proofs.EdgeLemmas.Marks.{eq_self, eq_other, same_kind_true, same_kind_false}
use Rattle.glb_rules.proofs.Invariant.Frames.{kind_cases}
use Rattle.glb_rules.proofs.Sums.Members.{AllApart}
use Rattle.glb_rules.specs.declared.kinds.Kind.{Kind}
use Rattle.glb_rules.specs.declared.kinds.Edge.{Edge}
use Rattle.glb_rules.specs.declared.kinds.Mark.{Mark}
use Rattle.glb_rules.specs.declared.local.EdgeName.{EdgeName}
use Rattle.glb_rules.specs.declared.edges.InEdge.{InEdge}
use Rattle.glb_rules.specs.declared.edges.OutEdge.{OutEdge}
use Rattle.glb_place.specs.declared.record.KnownEdge.{KnownEdge}
use Rattle.glb_place.specs.Records.{known_at}
use Rattle.glb_place.specs.inner.Seeing.{is_from, with_mark, with_line}

-- a test and the truth is the test
and_true : (b : Bool) → (b && true) ≡ b
and_true true = refl
and_true false = refl

-- a test and what is false is false
and_false : (b : Bool) → (b && false) ≡ false
and_false true = refl
and_false false = refl

-- the list of what is known with one edge in front
abbrev pub with_known : EdgeName → Edge → List KnownEdge → List KnownEdge
with_known n x known = record { name = n; edge = x } ∷ known

module _ (k : Kind) (t p : ℕ) (x : Edge) (known : List KnownEdge) where
  -- of the in-edges of place p one is known to be in another state
  pub in_known : (j : Kind) (u : ℕ) → known_at (with_known (name_of k t p) x known) j u p
      ≡ cond (same_kind k j && (t == u)) x (known_at known j u p)
  in_known j u = rw (eq_self p, and_true (t == u)) refl

  -- and nothing else is known of its out-edges
  pub in_known_out : t ≢ p → (j : Kind) (v : ℕ)
      → known_at (with_known (name_of k t p) x known) j p v
      ≡ known_at known j p v
  in_known_out n j v = rw (eq_other t p n, and_false (same_kind k j)) refl

  -- of the out-edges of place p one is known to be in another state
  pub out_known : (j : Kind) (u : ℕ) → known_at (with_known (name_of k p t) x known) j p u
      ≡ cond (same_kind k j && (t == u)) x (known_at known j p u)
  out_known j u = rw (eq_self p) refl

  -- and nothing else is known of its in-edges
  pub out_known_in : t ≢ p → (j : Kind) (u : ℕ)
      → known_at (with_known (name_of k p t) x known) j u p
      ≡ known_at known j u p
  out_known_in n j u = rw (eq_other t p n, and_false (p == u), and_false (same_kind k j)) refl

-- nothing else is known of an edge with another thief or another victim
pub other_known : (name : EdgeName) (x : Edge) (known : List KnownEdge) (n : EdgeName)
    → (name.thief ≢ n.thief) ⊎ (name.victim ≢ n.victim)
    → known_at (with_known name x known) n.kind n.thief n.victim
    ≡ known_at known n.kind n.thief n.victim
other_known name x known n (inl d) =
    rw (eq_other name.thief n.thief d, and_false (same_kind name.kind n.kind)) refl
other_known name x known n (inr d) =
    rw (
      eq_other name.victim n.victim d,
      and_false (name.thief == n.thief),
      and_false (same_kind name.kind n.kind),
    ) refl

-- the kind and the thief of an in-edge stay
pub kind_kept : (k : Kind) (t : ℕ) (m : Mark) (e : Edge) (x : InEdge) → (with_mark k t m e x).kind
    ≡ x.kind
kind_kept k t m e x = go (is_from k t x)
  where
    go : (b : Bool) → (cond b (record x { mark = m; edge = e }) x).kind ≡ x.kind
    go true = refl
    go false = refl

-- the thief of an in-edge stays
pub thief_kept : (k : Kind) (t : ℕ) (m : Mark) (e : Edge) (x : InEdge)
    → (with_mark k t m e x).thief ≡ x.thief
thief_kept k t m e x = go (is_from k t x)
  where
    go : (b : Bool) → (cond b (record x { mark = m; edge = e }) x).thief ≡ x.thief
    go true = refl
    go false = refl

-- and the victim of a line
pub victim_kept : (v : ℕ) (e : Edge) (y : OutEdge) → (with_line v e y).victim ≡ y.victim
victim_kept v e y = go (v == y.victim)
  where
    go : (b : Bool) → (cond b (record y { edge = e }) y).victim ≡ y.victim
    go true = refl
    go false = refl

-- where the changed function gives each member the same, so does its list
pub map_kept : {A C : Type 0} (f : A → A) (g : A → C) (xs : List A) → ((x : A) → g (f x) ≡ g x)
    → map g (map f xs) ≡ map g xs
map_kept f g [] h = refl
map_kept f g (x ∷ xs) h = ap (λ y. y ∷ map g (map f xs)) (h x)
    ∙ ap (λ ys. g x ∷ ys) (map_kept f g xs h)

-- the names of the in-edges of place p stay
pub names_kept : (p : ℕ) (k : Kind) (t : ℕ) (m : Mark) (e : Edge) (xs : List InEdge)
    → map (λ (x : InEdge). name_of x.kind x.thief p) (map (with_mark k t m e) xs)
    ≡ map (λ (x : InEdge). name_of x.kind x.thief p) xs
names_kept p k t m e xs = map_kept (with_mark k t m e) (λ (x : InEdge). name_of x.kind x.thief p) xs
    (λ x. let a = kind_kept k t m e x in let b = thief_kept k t m e x in λ i. name_of (a i) (b i) p)

-- the victims of the lines stay
pub victims_kept : (v : ℕ) (e : Edge) (ys : List OutEdge)
    → map (λ (y : OutEdge). y.victim) (map (with_line v e) ys) ≡ map (λ (y : OutEdge). y.victim) ys
victims_kept v e ys = map_kept (with_line v e) (λ (y : OutEdge). y.victim) ys (victim_kept v e)

-- it is another in-edge, or the one of this kind from this thief
from_cases : (k : Kind) (t : ℕ) (x : InEdge)
    → ((x.kind ≡ k) × (x.thief ≡ t)) ⊎ (is_from k t x ≡ false)
from_cases k t x = ⊎_elim
    (λ (e : k ≡ x.kind). ⊎_elim (λ (d : t ≡ x.thief). inl (sym e, sym d))
    (λ (d : t ≢ x.thief). inr (rw (eq_other t x.thief d, and_false (same_kind k x.kind)) refl))
    (cases_eq t x.thief))
    (λ (e : k ≢ x.kind). inr (rw (same_kind_false k x.kind e) refl))
    (kind_cases k x.kind)

-- a member at an index within the list is in it
pub member : {A : Type 0} (xs : List A) (i : ℕ) (d : A) → i < length xs → IsIn (get_or xs i d) xs
member [] i d l = absurd (omega arith)
member (x ∷ xs) zero d l = inl refl
member (x ∷ xs) (suc i) d l = inr (member xs i d (omega arith))

-- the name of an in-edge of place p
abbrev pub name_in : ℕ → InEdge → EdgeName
name_in p x = name_of x.kind x.thief p

module _ (p : ℕ) (m : Mark) (e : Edge) where
  -- no other in-edge is changed
  others_stay : (k : Kind) (t : ℕ) (xs : List InEdge)
      → (IsIn (name_of k t p) (map (name_in p) xs) → ⊥)
      → map (with_mark k t m e) xs ≡ xs
  others_stay k t [] n = refl
  others_stay k t (x ∷ xs) n =
      ap (λ y. y ∷ map (with_mark k t m e) xs) (one (from_cases k t x))
      ∙ ap (λ ys. x ∷ ys) (others_stay k t xs (λ i. n (inr i)))
    where
      one : ((x.kind ≡ k) × (x.thief ≡ t)) ⊎ (is_from k t x ≡ false) → with_mark k t m e x ≡ x
      one (inl h) = absurd (n (inl (λ i. name_of (sym h.0 i) (sym h.1 i) p)))
      one (inr h) = rw h refl

  -- to change one member is to change the in-edge of its kind from its thief
  pub set_marks : (xs : List InEdge) (at : ℕ) (d : InEdge) → AllApart (map (name_in p) xs) → at
      < length xs
      → set xs at (record (get_or xs at d) { mark = m; edge = e })
      ≡ map (with_mark (get_or xs at d).kind (get_or xs at d).thief m e) xs
  set_marks [] at d a l = absurd (omega arith)
  set_marks (x ∷ xs) zero d a l =
      let f : is_from x.kind x.thief x ≡ true =
      rw (same_kind_true x.kind x.kind refl, eq_self x.thief) refl in
      let h : record x { mark = m; edge = e } ≡ with_mark x.kind x.thief m e x = rw f refl in
      ap (λ y. y ∷ xs) h
      ∙ ap (λ ys. with_mark x.kind x.thief m e x ∷ ys) (sym (others_stay x.kind x.thief xs a.0))
  set_marks (x ∷ xs) (suc at) d a l =
      let y = get_or xs at d in
      let h : with_mark y.kind y.thief m e x ≡ x = one (from_cases y.kind y.thief x) in
      ap (λ ys. x ∷ ys) (set_marks xs at d a.1 (omega arith))
      ∙ ap (λ z. z ∷ map (with_mark y.kind y.thief m e) xs) (sym h)
    where
      one : ((x.kind ≡ (get_or xs at d).kind) × (x.thief ≡ (get_or xs at d).thief))
          ⊎ (is_from (get_or xs at d).kind (get_or xs at d).thief x ≡ false)
          → with_mark (get_or xs at d).kind (get_or xs at d).thief m e x ≡ x
      one (inl h) =
          absurd (a.0 (subst (λ n. IsIn n (map (name_in p) xs))
          (λ i. name_of (sym h.0 i) (sym h.1 i) p)
          (named xs at (omega arith))))
        where
          named : (ys : List InEdge) (i : ℕ) → i < length ys
              → IsIn (name_in p (get_or ys i d)) (map (name_in p) ys)
          named [] i q = absurd (omega arith)
          named (z ∷ zs) zero q = inl refl
          named (z ∷ zs) (suc i) q = inr (named zs i (omega arith))
      one (inr h) = rw h refl
