-- Seats that are split and joined keep each record, and no two have one place.
use Rattle.std.proofs.Common.{◌≡◌, ◌≢◌, ℕ, zero, suc, ◌+◌, ◌<◌, ◌⊎◌, List, [], ◌∷◌, ◌++◌, set, length, refl, sym, ap, ◌∙◌, subst, inl, inr, ⊎_elim, arith}
use mathlib.Core.Option.{some, some-injective, some-ne-none}
use lib.ListN.{get_elem?}
use mathlib.Core.Logic.{dite}
use native.Mathlib.Decide.{ℕ_discrete}
use Rattle.atomic_table.proofs.Lists.{at_set, set_else, at_longer, at_last}
use Rattle.glb_cells.specs.declared.view.View.{View}
use Rattle.glb_cells.proofs.StepLemmas.ListFacts.{only, set_at}

at_end : {A : Type 0} (l : List A) (a b : A) (j : ℕ) → get_elem? (l ++ a ∷ []) j ≡ some b
    → (get_elem? l j ≡ some b) ⊎ ((j ≡ length l) × (a ≡ b))
at_end [] a b zero e = inr (refl, some-injective a b e)
at_end [] a b (suc j) e = absurd (some-ne-none b (sym e))
at_end (x ∷ xs) a b zero e = inl e
at_end (x ∷ xs) a b (suc j) e = ⊎_elim (λ (h : get_elem? xs j ≡ some b). inl h)
    (λ (h : (j ≡ length xs) × (a ≡ b)). inr (ap suc h.0, h.1)) (at_end xs a b j e)

-- a member of two lists joined
at_join : {A : Type 0} (l m : List A) (b : A) (j : ℕ) → get_elem? (l ++ m) j ≡ some b
    → (get_elem? l j ≡ some b) ⊎ ((k : ℕ) × (j ≡ length l + k) × (get_elem? m k ≡ some b))
at_join [] m b j e = inr (j, omega arith, e)
at_join (x ∷ xs) m b zero e = inl e
at_join (x ∷ xs) m b (suc j) e = ⊎_elim (λ (h : get_elem? xs j ≡ some b). inl h)
    (λ (h : (k : ℕ) × (j ≡ length xs + k) × (get_elem? m k ≡ some b)). inr (h.0, omega arith, h.2))
    (at_join xs m b j e)

abbrev pub Rs : Type 0 → Type 0 → Type 0
Rs Q I = List (View Q I)

module _ {Q I : Type 0} (recs : Rs Q I) where
  abbrev pub Seats : List (Rs Q I) → Type 0
  Seats views = (i : ℕ) (v : Rs Q I) (k : ℕ) (r : View Q I) → get_elem? views i ≡ some v
      → get_elem? v k ≡ some r → get_elem? recs r.own.place ≡ some r

module _ {Q I : Type 0} where
  abbrev pub Apart : List (Rs Q I) → Type 0
  Apart views = (i j : ℕ) (v w : Rs Q I) (k l : ℕ) (r u : View Q I) → get_elem? views i ≡ some v
      → get_elem? views j ≡ some w → get_elem? v k ≡ some r → get_elem? w l ≡ some u
      → r.own.place ≡ u.own.place → (i ≡ j) × (k ≡ l)

  -- where a record stood before: seat and place in its view
  abbrev pub Stood : List (Rs Q I) → ℕ → ℕ → View Q I → Type 0
  Stood views i k r = (v : Rs Q I) × (get_elem? views i ≡ some v) × (get_elem? v k ≡ some r)

  -- each record stood somewhere before, and two that stood at one place are one
  pub moved_seats : (recs : Rs Q I) (was now : List (Rs Q I)) → Seats recs was
      → ((i : ℕ) (v : Rs Q I) (k : ℕ) (r : View Q I) → get_elem? now i ≡ some v
      → get_elem? v k ≡ some r → (i₀ : ℕ) × (k₀ : ℕ) × Stood was i₀ k₀ r) → Seats recs now
  moved_seats recs was now seats from i v k r e f = let o = from i v k r e f in
      seats o.0 o.2.0 o.1 r o.2.1 o.2.2

  -- the two ways in which a split seat's record stood
  abbrev From : (was : List (Rs Q I)) (id n i k : ℕ) (r : View Q I) → Type 0
  From was id n i k r = ((i ≢ id) × (i ≢ n) × Stood was i k r)
      ⊎ (((i ≡ id) × Stood was id (suc k) r) ⊎ ((i ≡ n) × (k ≡ 0) × Stood was id 0 r))

  split_from : (was : List (Rs Q I)) (id : ℕ) (x : View Q I) (xs : Rs Q I)
      → get_elem? was id ≡ some (x ∷ xs)
      → (i : ℕ) (v : Rs Q I) (k : ℕ) (r : View Q I)
      → get_elem? (set was id xs ++ (x ∷ []) ∷ []) i ≡ some v → get_elem? v k ≡ some r
      → From was id (length was) i k r
  split_from was id x xs at i v k r e f = ⊎_elim
      (λ (h : get_elem? (set was id xs) i ≡ some v). ⊎_elim
      (λ (t : (i ≡ id) × (xs ≡ v)). inr (inl (
        t.0,
        (x ∷ xs, at, subst (λ (l : Rs Q I). get_elem? l k ≡ some r) (sym t.1) f),
      )))
      (λ (t : (i ≢ id) × (get_elem? was i ≡ some v)). inl
      (t.0, (λ q. let b : i < length was = below was i v t.1 in omega arith), (v, t.1, f)))
      (at_set was id i xs v h))
      (λ (h : (i ≡ length (set was id xs)) × (x ∷ [] ≡ v)). let o =
      only x r k (subst (λ (l : Rs Q I). get_elem? l k ≡ some r) (sym h.1) f) in
      inr (inr (h.0 ∙ long was id xs, o.0, (x ∷ xs, at, ap some o.1))))
      (at_end (set was id xs) (x ∷ []) v i e)
    where
      below : (l : List (Rs Q I)) (i : ℕ) (v : Rs Q I) → get_elem? l i ≡ some v → i < length l
      below [] i v e = absurd (some-ne-none v (sym e))
      below (y ∷ l) zero v e = omega arith
      below (y ∷ l) (suc i) v e = let b : i < length l = below l i v e in omega arith

      long : (l : List (Rs Q I)) (i : ℕ) (v : Rs Q I) → length (set l i v) ≡ length l
      long [] i v = refl
      long (y ∷ l) zero v = refl
      long (y ∷ l) (suc i) v = ap suc (long l i v)

  pub split_seats : (recs : Rs Q I) (was : List (Rs Q I)) (id : ℕ) (x : View Q I) (xs : Rs Q I)
      → get_elem? was id ≡ some (x ∷ xs) → Seats recs was
      → Seats recs (set was id xs ++ (x ∷ []) ∷ [])
  split_seats recs was id x xs at seats i v k r e f =
      ⊎_elim
      (λ (a : (i ≢ id) × (i ≢ length was) × Stood was i k r). seats i a.2.0 k r a.2.1 a.2.2)
      (λ (a : ((i ≡ id) × Stood was id (suc k) r)
      ⊎ ((i ≡ length was) × (k ≡ 0) × Stood was id 0 r)). ⊎_elim
      (λ (b : (i ≡ id) × Stood was id (suc k) r). seats id b.1.0 (suc k) r b.1.1 b.1.2)
      (λ (b : (i ≡ length was) × (k ≡ 0) × Stood was id 0 r). seats id b.2.0 0 r b.2.1 b.2.2)
      a)
      (split_from was id x xs at i v k r e f)

  met : (was : List (Rs Q I)) → Apart was → (i j k l : ℕ) (r u : View Q I) → Stood was i k r
      → Stood was j l u → r.own.place ≡ u.own.place → (i ≡ j) × (k ≡ l)
  met was apart i j k l r u a b q = apart i j a.0 b.0 k l r u a.1 b.1 a.2 b.2 q

  pub split_apart : (was : List (Rs Q I)) (id : ℕ) (x : View Q I) (xs : Rs Q I)
      → get_elem? was id ≡ some (x ∷ xs) → Apart was → Apart (set was id xs ++ (x ∷ []) ∷ [])
  split_apart was id x xs at apart i j v w k l r u e f m n q =
      both (split_from was id x xs at i v k r e m) (split_from was id x xs at j w l u f n)
    where
      both : From was id (length was) i k r → From was id (length was) j l u → (i ≡ j) × (k ≡ l)
      both (inl a) (inl b) = met was apart i j k l r u a.2 b.2 q
      both (inl a) (inr (inl b)) = absurd (a.0 ((met was apart i id k (suc l) r u a.2 b.1 q).0))
      both (inl a) (inr (inr b)) = absurd (a.0 ((met was apart i id k 0 r u a.2 b.2 q).0))
      both (inr (inl a)) (inl b) = absurd (b.0
          (sym ((met was apart id j (suc k) l r u a.1 b.2 q).0)))
      both (inr (inl a)) (inr (inl b)) = let h : suc k ≡ suc l =
          (met was apart id id (suc k) (suc l) r u a.1 b.1 q).1 in (a.0 ∙ sym b.0, omega arith)
      both (inr (inl a)) (inr (inr b)) = let h : suc k ≡ 0 =
          (met was apart id id (suc k) 0 r u a.1 b.2 q).1 in absurd (omega arith)
      both (inr (inr a)) (inl b) = absurd (b.0 (sym ((met was apart id j 0 l r u a.2 b.2 q).0)))
      both (inr (inr a)) (inr (inl b)) = let h : 0 ≡ suc l =
          (met was apart id id 0 (suc l) r u a.2 b.1 q).1 in absurd (omega arith)
      both (inr (inr a)) (inr (inr b)) = (a.0 ∙ sym b.0, a.1 ∙ sym b.1)

  -- the ways in which a joined seat's record stood
  abbrev Came : (was : List (Rs Q I)) (id other n i k : ℕ) (r : View Q I) → Type 0
  Came was id other n i k r = ((i ≢ id) × (i ≢ other) × Stood was i k r)
      ⊎ (((i ≡ id) × Stood was id k r) ⊎ ((i ≡ id) × ((l : ℕ) × (k ≡ n + l) × Stood was other l r)))

  join_from : (was : List (Rs Q I)) (id other : ℕ) (x y : Rs Q I) → get_elem? was id ≡ some x
      → other ≢ id → get_elem? was other ≡ some y
      → (i : ℕ) (v : Rs Q I) (k : ℕ) (r : View Q I)
      → get_elem? (set (set was id (x ++ y)) other []) i ≡ some v → get_elem? v k ≡ some r
      → Came was id other (length x) i k r
  join_from was id other x y at differ there i v k r e f = ⊎_elim
      (λ (t : (i ≡ other) × ([] ≡ v)). absurd (some-ne-none r
      (sym (subst (λ (l : Rs Q I). get_elem? l k ≡ some r) (sym t.1) f))))
      (λ (t : (i ≢ other) × (get_elem? (set was id (x ++ y)) i ≡ some v)). ⊎_elim
      (λ (z : (i ≡ id) × (x ++ y ≡ v)). ⊎_elim
      (λ (h : get_elem? x k ≡ some r). inr (inl (z.0, (x, at, h))))
      (λ (h : (l : ℕ) × (k ≡ length x + l) × (get_elem? y l ≡ some r)). inr
      (inr (z.0, (h.0, h.1, (y, there, h.2)))))
      (at_join x y r k (subst (λ (l : Rs Q I). get_elem? l k ≡ some r) (sym z.1) f)))
      (λ (z : (i ≢ id) × (get_elem? was i ≡ some v)). inl (z.0, t.0, (v, z.1, f)))
      (at_set was id i (x ++ y) v t.1))
      (at_set (set was id (x ++ y)) other i [] v e)

  pub join_seats : (recs : Rs Q I) (was : List (Rs Q I)) (id other : ℕ) (x y : Rs Q I)
      → get_elem? was id ≡ some x → other ≢ id → get_elem? was other ≡ some y
      → Seats recs was → Seats recs (set (set was id (x ++ y)) other [])
  join_seats recs was id other x y at differ there seats i v k r e f =
      told (join_from was id other x y at differ there i v k r e f)
    where
      told : Came was id other (length x) i k r → get_elem? recs r.own.place ≡ some r
      told (inl a) = seats i a.2.0 k r a.2.1 a.2.2
      told (inr (inl a)) = seats id a.1.0 k r a.1.1 a.1.2
      told (inr (inr a)) = seats other a.1.2.0 a.1.0 r a.1.2.1 a.1.2.2

  pub join_apart : (was : List (Rs Q I)) (id other : ℕ) (x y : Rs Q I) → get_elem? was id ≡ some x
      → other ≢ id → get_elem? was other ≡ some y
      → Apart was → Apart (set (set was id (x ++ y)) other [])
  join_apart was id other x y at differ there apart i j v w k l r u e f m n q =
      both (join_from was id other x y at differ there i v k r e m)
      (join_from was id other x y at differ there j w l u f n)
    where
      both : Came was id other (length x) i k r → Came was id other (length x) j l u → (i ≡ j)
          × (k ≡ l)
      both (inl a) (inl b) = met was apart i j k l r u a.2 b.2 q
      both (inl a) (inr (inl b)) = absurd (a.0 ((met was apart i id k l r u a.2 b.1 q).0))
      both (inl a) (inr (inr b)) = absurd (a.1 ((met was apart i other k b.1.0 r u a.2 b.1.2 q).0))
      both (inr (inl a)) (inl b) = absurd (b.0 (sym ((met was apart id j k l r u a.1 b.2 q).0)))
      both (inr (inl a)) (inr (inl b)) = (a.0 ∙ sym b.0, (met was apart id id k l r u a.1 b.1 q).1)
      both (inr (inl a)) (inr (inr b)) = absurd
          (differ (sym ((met was apart id other k b.1.0 r u a.1 b.1.2 q).0)))
      both (inr (inr a)) (inl b) = absurd (b.1
          (sym ((met was apart other j a.1.0 l r u a.1.2 b.2 q).0)))
      both (inr (inr a)) (inr (inl b)) = absurd
          (differ ((met was apart other id a.1.0 l r u a.1.2 b.1 q).0))
      both (inr (inr a)) (inr (inr b)) = let h : a.1.0 ≡ b.1.0 =
          (met was apart other other a.1.0 b.1.0 r u a.1.2 b.1.2 q).1 in
          (a.0 ∙ sym b.0, omega arith)

  -- each record of these is with a seat
  abbrev pub AllSeated : Rs Q I → List (Rs Q I) → Type 0
  AllSeated recs views = (p : ℕ) (r : View Q I) → get_elem? recs p ≡ some r → (i : ℕ) × (v : Rs Q I)
      × (k : ℕ) × (get_elem? views i ≡ some v) × (get_elem? v k ≡ some r)

  pub split_all : (recs : Rs Q I) (was : List (Rs Q I)) (id : ℕ) (x : View Q I) (xs : Rs Q I)
      → get_elem? was id ≡ some (x ∷ xs) → AllSeated recs was
      → AllSeated recs (set was id xs ++ (x ∷ []) ∷ [])
  split_all recs was id x xs at all p r e = by (all p r e)
    where
      moved : (k : ℕ) → get_elem? (x ∷ xs) k ≡ some r → (i : ℕ) × (v : Rs Q I) × (k : ℕ)
          × (get_elem? (set was id xs ++ (x ∷ []) ∷ []) i ≡ some v) × (get_elem? v k ≡ some r)
      moved zero f = (
        length (set was id xs),
        x ∷ [],
        0,
        at_last (set was id xs) (x ∷ [])
            (length (set was id xs)) refl,
        f,
      )
      moved (suc k) f = (
        id,
        xs,
        k,
        at_longer (set was id xs) ((x ∷ []) ∷ []) id xs
            (set_at was id (x ∷ xs) xs at),
        f,
      )

      by : ((i : ℕ) × (v : Rs Q I) × (k : ℕ) × (get_elem? was i ≡ some v)
          × (get_elem? v k ≡ some r)) → (i : ℕ) × (v : Rs Q I) × (k : ℕ)
          × (get_elem? (set was id xs ++ (x ∷ []) ∷ []) i ≡ some v) × (get_elem? v k ≡ some r)
      by o = dite (ℕ_discrete o.0 id)
          (λ d. moved o.2 (ap (λ l. get_elem? l o.2)
          (some-injective (x ∷ xs) o.1 (sym at ∙ ap (λ j. get_elem? was j) (sym d) ∙ o.3))
          ∙ o.4))
          (λ n. (
            o.0,
            o.1,
            o.2,
            at_longer (set was id xs) ((x ∷ []) ∷ []) o.0 o.1
                (set_else was id o.0 xs n ∙ o.3),
            o.4,
          ))

  get_left : (l m : Rs Q I) (k : ℕ) (r : View Q I) → get_elem? l k ≡ some r
      → get_elem? (l ++ m) k ≡ some r
  get_left l m k r e = at_longer l m k r e

  get_right : (l m : Rs Q I) (k : ℕ) (r : View Q I) → get_elem? m k ≡ some r
      → get_elem? (l ++ m) (length l + k) ≡ some r
  get_right [] m k r e = let z : 0 + k ≡ k = omega arith in ap (λ j. get_elem? m j) z ∙ e
  get_right (y ∷ l) m k r e = let z : suc (length l) + k ≡ suc (length l + k) = omega arith in
      ap (λ j. get_elem? (y ∷ (l ++ m)) j) z ∙ get_right l m k r e

  pub join_all : (recs : Rs Q I) (was : List (Rs Q I)) (id other : ℕ) (x y : Rs Q I)
      → get_elem? was id ≡ some x → other ≢ id → get_elem? was other ≡ some y
      → AllSeated recs was → AllSeated recs (set (set was id (x ++ y)) other [])
  join_all recs was id other x y at differ there all p r e = by (all p r e)
    where
      both_at : get_elem? (set (set was id (x ++ y)) other []) id ≡ some (x ++ y)
      both_at = set_else (set was id (x ++ y)) other id [] (λ q. differ (sym q))
          ∙ set_at was id x (x ++ y) at

      by : ((i : ℕ) × (v : Rs Q I) × (k : ℕ) × (get_elem? was i ≡ some v)
          × (get_elem? v k ≡ some r)) → (i : ℕ) × (v : Rs Q I) × (k : ℕ)
          × (get_elem? (set (set was id (x ++ y)) other []) i ≡ some v) × (get_elem? v k ≡ some r)
      by o = dite (ℕ_discrete o.0 id)
          (λ d. (
            id,
            x ++ y,
            o.2,
            both_at,
            get_left x y o.2 r
                (ap (λ l. get_elem? l o.2) (some-injective x o.1 (sym at
                ∙ ap (λ j. get_elem? was j) (sym d) ∙ o.3)) ∙ o.4),
          ))
          (λ n. dite (ℕ_discrete o.0 other)
          (λ d. (
            id,
            x ++ y,
            length x + o.2,
            both_at,
            get_right x y o.2 r
                (ap (λ l. get_elem? l o.2) (some-injective y o.1 (sym there
                ∙ ap (λ j. get_elem? was j) (sym d) ∙ o.3)) ∙ o.4),
          ))
          (λ m. (
            o.0,
            o.1,
            o.2,
            set_else (set was id (x ++ y)) other o.0 [] m
                ∙ set_else was id o.0 (x ++ y) n ∙ o.3,
            o.4,
          )))
