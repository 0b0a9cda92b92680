-- The number of each edge, and its word at the start.
use Rattle.std.proofs.Common.{◌≡◌, ◌≢◌, ℕ, zero, suc, ◌+◌, ◌-◌, ◌*◌, ◌<◌, ◌≤◌, ◌⊎◌, true, cond, ◌==◌, List, [], ◌∷◌, ◌++◌, map, set, length, replicate, get_or, refl, sym, ap, ◌∙◌, subst, inl, inr, ⊎_elim, arith, length-append, get_or-set_other}
use Rattle.std.proofs.lemmas.Bool.{cases_eq}
use Rattle.std.proofs.Math.Nat.{mul-le-mul_right}
use mathlib.Core.Option.{some, some-injective, some-ne-none}
use lib.ListN.{get_elem?}
use Rattle.glb_cube.specs.Lines.{Cube, outs_of}
use Rattle.glb_laws.specs.Numbers.{has_number, IsDistinct}
use Rattle.glb_rules.specs.Joins.{join_to}
use Rattle.glb_rules.specs.World.{Setup}
use Rattle.glb_rules.specs.Events.{name_of}
use Rattle.glb_cells.specs.EdgeNames.{names, steals_of, lines_of, steal_name}
use Rattle.glb_rules.proofs.EdgeLemmas.Marks.{eq_other, eq_self}
use Rattle.glb_rules.specs.declared.local.EdgeName.{EdgeName}
use Rattle.glb_rules.specs.declared.kinds.Kind.TheVariants as kind
use Rattle.glb_cells.specs.inner.Numbers.{first_number, fill, filled, line_words, edge_words}
use Rattle.glb_cells.proofs.StepLemmas.ListFacts.{length_set}

pub fill_long : (xs : List ℕ) (base next : ℕ) (vs : List ℕ)
    → length (fill xs base next vs) ≡ length xs
fill_long xs base next [] = refl
fill_long xs base next (v ∷ vs) = fill_long (set xs (base + v) next) base (next + 1) vs
    ∙ length_set xs (base + v) next

set_here : (xs : List ℕ) (i a : ℕ) → i < length xs → get_or (set xs i a) i 0 ≡ a
set_here [] i a l = absurd (omega arith)
set_here (x ∷ xs) zero a l = refl
set_here (x ∷ xs) (suc i) a l = set_here xs i a (omega arith)

fill_else : (xs : List ℕ) (base next : ℕ) (vs : List ℕ) (i : ℕ)
    → ((v : ℕ) → has_number v vs ≡ true → i ≢ base + v)
    → get_or (fill xs base next vs) i 0 ≡ get_or xs i 0
fill_else xs base next [] i d = refl
fill_else xs base next (v ∷ vs) i d =
    fill_else (set xs (base + v) next) base (next + 1) vs i (λ u h. d u (more u h (cases_eq u v)))
    ∙ get_or-set_other xs (base + v) i next 0 (d v (rw (eq_self v) refl))
  where
    more : (u : ℕ) → has_number u vs ≡ true → (u ≡ v) ⊎ (u ≢ v) → has_number u (v ∷ vs) ≡ true
    more u h (inl e) = rw (e, eq_self v) refl
    more u h (inr e) = rw (eq_other u v e) h

fill_here : (xs : List ℕ) (base next : ℕ) (vs : List ℕ) → IsDistinct vs → (j v : ℕ)
    → get_elem? vs j ≡ some v → base + v < length xs
    → get_or (fill xs base next vs) (base + v) 0 ≡ next + j
fill_here xs base next [] d j v e l = absurd (some-ne-none v (sym e))
fill_here xs base next (u ∷ vs) d zero v e l =
    let q : u ≡ v = some-injective u v e in
    fill_else (set xs (base + u) next) base (next + 1) vs (base + v)
    (λ w h z. let y : w ≡ u = omega arith in let x : has_number u vs ≡ true =
    subst (λ k. has_number k vs ≡ true) y h in let f = d.0 in cc)
    ∙ ap (λ k. get_or (set xs (base + k) next) (base + v) 0) q ∙ set_here xs (base + v) next l
    ∙ (omega arith)
fill_here xs base next (u ∷ vs) d (suc j) v e l =
    fill_here (set xs (base + u) next) base (next + 1) vs d.1 j v e
    (let x = length_set xs (base + u) next in omega arith) ∙ (omega arith)

long_replicate : (n a : ℕ) → length (replicate n a) ≡ n
long_replicate zero a = refl
long_replicate (suc n) a = ap suc (long_replicate n a)

pub filled_long : (c : Cube) (t : ℕ) → length (filled c t) ≡ c.places * c.places
filled_long c zero = long_replicate (c.places * c.places) 0
filled_long c (suc t) = fill_long (filled c t) (t * c.places) (first_number c t) (outs_of c t)
    ∙ filled_long c t

module _ (c : Cube) (near : (t v : ℕ) → has_number v (outs_of c t) ≡ true → t < c.places
    → v < c.places) (once : (t : ℕ) → t < c.places → IsDistinct (outs_of c t)) where
  number_of : (vs : List ℕ) (j v : ℕ) → get_elem? vs j ≡ some v → has_number v vs ≡ true
  number_of [] j v e = absurd (some-ne-none v (sym e))
  number_of (u ∷ vs) zero v e = let q : v ≡ u = sym (some-injective u v e) in rw (q, eq_self u) refl
  number_of (u ∷ vs) (suc j) v e = ⊎_elim (λ (q : v ≡ u). rw (q, eq_self u) refl)
      (λ (q : v ≢ u). rw (eq_other v u q) (number_of vs j v e)) (cases_eq v u)

  -- a place in the table
  pub row_in : (t v : ℕ) → t < c.places → v < c.places → t * c.places + v < c.places * c.places
  row_in t v l m = let a : suc t * c.places ≤ c.places * c.places = mul-le-mul_right c.places l in
      let b : suc t * c.places ≡ t * c.places + c.places = grind arith in omega arith

  pub filled_has : (n : ℕ) → n ≤ c.places → (t j v : ℕ) → t < n → get_elem? (outs_of c t) j ≡ some v
      → get_or (filled c n) (t * c.places + v) 0 ≡ first_number c t + j
  filled_has zero b t j v l e = absurd (omega arith)
  filled_has (suc n) b t j v l e = ⊎_elim
      (λ (q : t ≡ n).
      let m : v < c.places = near t v (number_of (outs_of c t) j v e) (omega arith) in
      let long = filled_long c n in
      let row = row_in t v (omega arith) m in
      subst (λ k. get_or (fill (filled c n) (k * c.places) (first_number c k) (outs_of c k))
      (t * c.places + v) 0 ≡ first_number c t + j) q
      (fill_here (filled c n) (t * c.places) (first_number c t) (outs_of c t) (once t (omega arith))
      j v e (omega arith)))
      (λ (q : t ≢ n).
      let m : v < c.places = near t v (number_of (outs_of c t) j v e) (omega arith) in
      let s : suc t * c.places ≤ n * c.places = mul-le-mul_right c.places (omega arith) in
      let z : suc t * c.places ≡ t * c.places + c.places = grind arith in
      fill_else (filled c n) (n * c.places) (first_number c n) (outs_of c n) (t * c.places + v)
      (λ u h y. omega arith)
      ∙ filled_has n (omega arith) t j v (omega arith) e)
      (cases_eq t n)

map_append : {C D : Type 0} (f : C → D) (xs ys : List C) → map f (xs ++ ys) ≡ map f xs ++ map f ys
map_append f [] ys = refl
map_append f (x ∷ xs) ys = ap (λ l. f x ∷ l) (map_append f xs ys)

map_join : {C D : Type 0} (f : C → D) (n : ℕ) (g : ℕ → List C)
    → map f (join_to n g) ≡ join_to n (λ t. map f (g t))
map_join f zero g = refl
map_join f (suc n) g = map_append f (join_to n g) (g n)
    ∙ ap (λ l. l ++ map f (g n)) (map_join f n g)

join_same : {C : Type 0} (n : ℕ) (f g : ℕ → List C) → ((t : ℕ) → t < n → f t ≡ g t)
    → join_to n f ≡ join_to n g
join_same zero f g h = refl
join_same (suc n) f g h = λ i. join_same n f g (λ t l. h t (omega arith)) i ++ h n (omega arith) i

replicate_more : (m n a : ℕ) → replicate m a ++ replicate n a ≡ replicate (m + n) a
replicate_more zero n a = let e : n ≡ 0 + n = omega arith in ap (λ k. replicate k a) e
replicate_more (suc m) n a = let e : suc (m + n) ≡ suc m + n = omega arith in
    ap (λ l. a ∷ l) (replicate_more m n a) ∙ ap (λ k. replicate k a) e

module _ (w : EdgeName → ℕ) (steal : (n : EdgeName) → n.kind ≡ kind.Steal → w n ≡ 0) where
  one_steal : (t v : ℕ) → map w (steal_name t v) ≡ replicate (length (steal_name t v)) 0
  one_steal t v = ⊎_elim
      (λ (e : t ≡ v). let q : (t == v) ≡ true = rw (e, eq_self v) refl in rw q refl)
      (λ (e : t ≢ v). rw (eq_other t v e) (λ i. steal (name_of kind.Steal t v) refl i ∷ []))
      (cases_eq t v)

  row_steals : (t n : ℕ) → map w (join_to n (steal_name t)) ≡ replicate
      (length (join_to n (steal_name t))) 0
  row_steals t zero = refl
  row_steals t (suc n) =
      map_append w (join_to n (steal_name t)) (steal_name t n)
      ∙ (λ i. row_steals t n i ++ one_steal t n i)
      ∙ replicate_more (length (join_to n (steal_name t))) (length (steal_name t n)) 0
      ∙ ap (λ k. replicate k 0) (sym (length-append (join_to n (steal_name t)) (steal_name t n)))

  all_steals : (s : Setup) (n : ℕ) → map w (join_to n (steals_of s)) ≡ replicate
      (length (join_to n (steals_of s))) 0
  all_steals s zero = refl
  all_steals s (suc n) =
      map_append w (join_to n (steals_of s)) (steals_of s n)
      ∙ (λ i. all_steals s n i ++ row_steals n s.places i)
      ∙ replicate_more (length (join_to n (steals_of s))) (length (steals_of s n)) 0
      ∙ ap (λ k. replicate k 0) (sym (length-append (join_to n (steals_of s)) (steals_of s n)))

-- the steal edges of a thief, and of all
one_name : (t u : ℕ) → (length (steal_name t u) ≡ 1) ⊎ ((t ≡ u) × (length (steal_name t u) ≡ 0))
one_name t u = ⊎_elim
    (λ (e : t ≡ u). inr (e, let q : (t == u) ≡ true = rw (e, eq_self u) refl in rw q refl))
    (λ (e : t ≢ u). inl (rw (eq_other t u e) refl))
    (cases_eq t u)

low_row : (t n : ℕ) → n ≤ t → length (join_to n (steal_name t)) ≡ n
low_row t zero l = refl
low_row t (suc n) l = let a = low_row t n (omega arith) in let b =
    length-append (join_to n (steal_name t)) (steal_name t n) in ⊎_elim
    (λ (e : length (steal_name t n) ≡ 1). omega arith)
    (λ (e : (t ≡ n) × (length (steal_name t n) ≡ 0)). absurd (omega (arith, e.0)))
    (one_name t n)

high_row : (t n : ℕ) → t < n → length (join_to n (steal_name t)) + 1 ≡ n
high_row t zero l = absurd (omega arith)
high_row t (suc n) l = let b = length-append (join_to n (steal_name t)) (steal_name t n) in ⊎_elim
    (λ (q : t ≡ n). let f : length (steal_name t n) ≡ 0 = self q in let a =
    low_row t n (omega arith) in omega arith)
    (λ (q : t ≢ n). let a = high_row t n (omega arith) in let f : length (steal_name t n) ≡ 1 =
    ap length (other q) in omega arith)
    (cases_eq t n)
  where
    self : t ≡ n → length (steal_name t n) ≡ 0
    self q = let z : (t == n) ≡ true = rw (q, eq_self n) refl in rw z refl

    other : t ≢ n → steal_name t n ≡ name_of kind.Steal t n ∷ []
    other q = rw (eq_other t n q) refl

steal_count : (s : Setup) (n : ℕ) → n ≤ s.places
    → length (join_to n (steals_of s)) + n ≡ n * s.places
steal_count s zero l = omega arith
steal_count s (suc n) l =
    let a = steal_count s n (omega arith) in
    let b = length-append (join_to n (steals_of s)) (steals_of s n) in
    let d = high_row n s.places (omega arith) in
    let f : suc n * s.places ≡ n * s.places + s.places = grind arith in
    omega arith

pub steals_are : (s : Setup) → length (join_to s.places (steals_of s)) ≡ s.places * (s.places - 1)
steals_are s = let a = steal_count s s.places (omega arith) in
    by s.places (length (join_to s.places (steals_of s))) a
  where
    by : (p n : ℕ) → n + p ≡ p * p → n ≡ p * (p - 1)
    by zero n e = omega arith
    by (suc p) n e = let q : suc p * suc p ≡ suc p * p + suc p = grind arith in
        let z : suc p - 1 ≡ p = omega arith in rw z (omega arith)

-- the words of lines
word_lines : (w : EdgeName → ℕ) (t a : ℕ) (xs : List ℕ) → ((v : ℕ) → w (name_of kind.Line t v) ≡ a)
    → map w (map (name_of kind.Line t) xs) ≡ replicate (length xs) a
word_lines w t a [] h = refl
word_lines w t a (v ∷ xs) h = λ i. h v i ∷ word_lines w t a xs h i

pub words_are : (s : Setup) (c : Cube) → s.places ≡ c.places
    → ((t : ℕ) → t < c.places → s.outs t ≡ outs_of c t) → (w : EdgeName → ℕ)
    → ((n : EdgeName) → n.kind ≡ kind.Steal → w n ≡ 0)
    → ((t v : ℕ) → w (name_of kind.Line t v) ≡ cond (s.awake t) 0 2)
    → map w (names s) ≡ edge_words c s.awake
words_are s c p outs w steal line =
    map_append w (join_to s.places (steals_of s)) (join_to s.places (lines_of s))
    ∙ (λ i. (all_steals w steal s s.places ∙ ap (λ k. replicate k 0) (steals_are s
    ∙ ap (λ k. k * (k - 1)) p)) i
    ++ (map_join w s.places (lines_of s) ∙ ap (λ n. join_to n (λ t. map w (lines_of s t))) p
    ∙ join_same c.places (λ t. map w (lines_of s t)) (line_words c s.awake) (λ t l.
    word_lines w t (cond (s.awake t) 0 2) (s.outs t) (line t)
    ∙ ap (λ xs. replicate (length xs) (cond (s.awake t) 0 2)) (outs t l))) i)
