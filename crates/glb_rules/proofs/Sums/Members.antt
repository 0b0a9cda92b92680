-- Members of lists.
use mathlib.Core.Option.{some, some-injective, some-ne-none}
use lib.ListN.{get_elem?}
use Rattle.std.proofs.Common.{◌≡◌, ◌≢◌, ℕ, zero, suc, ◌<◌, ◌⊎◌, List, [], ◌∷◌, ◌++◌, map, refl, sym}
use Rattle.std.proofs.Common.{ap, subst, inl, inr, ⊎_elim, arith}
use Rattle.std.proofs.lemmas.Bool.{cases_eq}
use Rattle.glb_rules.specs.Joins.{join_to}
use Rattle.glb_rules.specs.Sight.{IsIn}

-- no member stands twice
abbrev pub AllApart : {A : Type 0} → List A → Type 0
AllApart [] = Unit {0}
AllApart (x ∷ xs) = (IsIn x xs → ⊥) × AllApart xs

module _ {A : Type 0} where
  pub in_at : (xs : List A) (x : A) → IsIn x xs → (i : ℕ) × (get_elem? xs i ≡ some x)
  in_at [] x h = absurd h
  in_at (y ∷ ys) x h =
      ⊎_elim (λ (e : x ≡ y). (0, ap some (sym e)))
      (λ (g : IsIn x ys). let q = in_at ys x g in (suc q.0, q.1)) h

  pub at_in : (xs : List A) (i : ℕ) (x : A) → get_elem? xs i ≡ some x → IsIn x xs
  at_in [] i x e = absurd (some-ne-none x (sym e))
  at_in (y ∷ ys) zero x e = inl (sym (some-injective y x e))
  at_in (y ∷ ys) (suc i) x e = inr (at_in ys i x e)

  pub distinct_one : (xs : List A) → AllApart xs → (i j : ℕ) (x : A) → get_elem? xs i ≡ some x
      → get_elem? xs j ≡ some x → i ≡ j
  distinct_one [] d i j x a b = absurd (some-ne-none x (sym a))
  distinct_one (y ∷ ys) d zero zero x a b = refl
  distinct_one (y ∷ ys) d zero (suc j) x a b =
      absurd (d.0 (subst (λ z. IsIn z ys) (sym (some-injective y x a)) (at_in ys j x b)))
  distinct_one (y ∷ ys) d (suc i) zero x a b =
      absurd (d.0 (subst (λ z. IsIn z ys) (sym (some-injective y x b)) (at_in ys i x a)))
  distinct_one (y ∷ ys) d (suc i) (suc j) x a b = ap suc (distinct_one ys d.1 i j x a b)

  pub in_append : (xs ys : List A) (x : A) → IsIn x (xs ++ ys) → IsIn x xs ⊎ IsIn x ys
  in_append [] ys x h = inr h
  in_append (z ∷ xs) ys x h =
      ⊎_elim (λ (e : x ≡ z). inl (inl e))
      (λ (g : IsIn x (xs ++ ys)).
      ⊎_elim (λ (l : IsIn x xs). inl (inr l)) (λ (r : IsIn x ys). inr r) (in_append xs ys x g)) h

  pub in_left : (xs ys : List A) (x : A) → IsIn x xs → IsIn x (xs ++ ys)
  in_left [] ys x h = absurd h
  in_left (z ∷ xs) ys x h = ⊎_elim (λ (e : x ≡ z). inl e) (λ (g : IsIn x xs). inr (in_left xs ys x g)) h

  pub in_right : (xs ys : List A) (x : A) → IsIn x ys → IsIn x (xs ++ ys)
  in_right [] ys x h = h
  in_right (z ∷ xs) ys x h = inr (in_right xs ys x h)

  pub distinct_append : (xs ys : List A) → AllApart xs → AllApart ys
      → ((x : A) → IsIn x xs → IsIn x ys → ⊥) → AllApart (xs ++ ys)
  distinct_append [] ys d e a = e
  distinct_append (z ∷ xs) ys d e a = (
    (λ h. ⊎_elim (λ (l : IsIn z xs). d.0 l) (λ (r : IsIn z ys). a z (inl refl) r)
        (in_append xs ys z h)),
    distinct_append xs ys d.1 e (λ x l r. a x (inr l) r),
  )

  pub in_join : (n : ℕ) (f : ℕ → List A) (x : A) → IsIn x (join_to n f) → (j : ℕ) × (j < n)
      × IsIn x (f j)
  in_join zero f x h = absurd h
  in_join (suc n) f x h = ⊎_elim
      (λ (l : IsIn x (join_to n f)). let q = in_join n f x l in (q.0, (let b = q.1 in omega arith), q.2))
      (λ (r : IsIn x (f n)). (n, omega arith, r))
      (in_append (join_to n f) (f n) x h)

  pub join_in : (n : ℕ) (f : ℕ → List A) (x : A) (j : ℕ) → j < n → IsIn x (f j)
      → IsIn x (join_to n f)
  join_in zero f x j l h = absurd (omega arith)
  join_in (suc n) f x j l h = ⊎_elim
      (λ (e : j ≡ n). in_right (join_to n f) (f n) x (subst (λ k. IsIn x (f k)) e h))
      (λ (e : j ≢ n). in_left (join_to n f) (f n) x (join_in n f x j (omega arith) h))
      (cases_eq j n)

  pub distinct_join : (n : ℕ) (f : ℕ → List A) → ((j : ℕ) → j < n → AllApart (f j))
      → ((i j : ℕ) (x : A) → i < n → j < n → IsIn x (f i) → IsIn x (f j) → i ≡ j)
      → AllApart (join_to n f)
  distinct_join zero f d a = tt
  distinct_join (suc n) f d a =
      distinct_append (join_to n f) (f n)
      (distinct_join n f (λ j l. d j (omega arith)) (λ i j x l m. a i j x (omega arith) (omega arith)))
      (d n (omega arith))
      (λ x l r. let q = in_join n f x l in let b = q.1 in
      let e : q.0 ≡ n = a q.0 n x (omega arith) (omega arith) q.2 r in omega arith)

module _ {A C : Type 0} (f : A → C) where
  pub in_map : (xs : List A) (y : C) → IsIn y (map f xs) → (x : A) × IsIn x xs × (y ≡ f x)
  in_map [] y h = absurd h
  in_map (x ∷ xs) y h =
      ⊎_elim (λ (e : y ≡ f x). (x, inl refl, e))
      (λ (g : IsIn y (map f xs)). let q = in_map xs y g in (q.0, inr q.1, q.2)) h

  pub map_in : (xs : List A) (x : A) → IsIn x xs → IsIn (f x) (map f xs)
  map_in [] x h = absurd h
  map_in (z ∷ xs) x h = ⊎_elim (λ (e : x ≡ z). inl (ap f e)) (λ (g : IsIn x xs). inr (map_in xs x g)) h

  pub distinct_map : ((a b : A) → f a ≡ f b → a ≡ b) → (xs : List A) → AllApart xs
      → AllApart (map f xs)
  distinct_map i [] d = tt
  distinct_map i (x ∷ xs) d = (
    (λ h. let q = in_map xs (f x) h in d.0 (subst (λ z. IsIn z xs) (sym (i x q.0 q.2)) q.1)),
    distinct_map i xs d.1,
  )
