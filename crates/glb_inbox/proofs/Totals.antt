-- Sums, joined lists and facts of each member, in any order of the members; and what becomes of all
-- members of all views where one view is replaced, split in two or joined into another.
use mathlib.Core.Option.{some, some-injective, some-ne-none}
use lib.ListN.{get_elem?}
use Rattle.std.proofs.Common.{◌≡◌, ◌≢◌, ℕ, zero, suc, ◌+◌, ◌≤◌, List, [], ◌∷◌, ◌++◌, set, refl, sym}
use Rattle.std.proofs.Common.{ap, subst, ◌∙◌, arith, append_assoc, append-nil, IsPermutation}
use Rattle.std.specs.List.{flat_map}
use Rattle.std.proofs.lemmas.Grind.{flat_map-append}
use Rattle.std.proofs.lemmas.List.Sorted.{IsPermutation-refl, IsPermutation-trans}
use Rattle.std.proofs.lemmas.List.Sorted.{IsPermutation-append_left, IsPermutation-append_right}
use Rattle.std.proofs.lemmas.List.Sorted.{IsPermutation-append_comm}
use Rattle.glb_laws.proofs.Shuffles.{along_permutation}
use Rattle.glb_inbox.specs.inner.Members.{total, Each}

module _ {A : Type 0} where
  pub total_permutation : (f : A → ℕ) (xs ys : List A) → IsPermutation xs ys
      → total f xs ≡ total f ys
  total_permutation f =
      along_permutation (λ xs ys. total f xs ≡ total f ys) refl (λ x xs ys h. ap (λ n. f x + n) h)
      (λ x y xs. omega arith) (λ xs ys zs g h. g ∙ h)

  pub total_append : (f : A → ℕ) (xs ys : List A) → total f (xs ++ ys) ≡ total f xs + total f ys
  total_append f [] ys = omega arith
  total_append f (x ∷ xs) ys = let e = total_append f xs ys in omega arith

  pub total_le : (f g : A → ℕ) (F : A → Type 0) → ((x : A) → F x → f x ≤ g x) → (xs : List A)
      → Each F xs → total f xs ≤ total g xs
  total_le f g F le [] h = omega arith
  total_le f g F le (x ∷ xs) h = let a = le x h.0 in let b = total_le f g F le xs h.1 in omega arith

  pub each_permutation : (F : A → Type 0) (xs ys : List A) → IsPermutation xs ys → Each F xs
      → Each F ys
  each_permutation F =
      along_permutation (λ xs ys. Each F xs → Each F ys) (λ e. e) (λ x xs ys h e. (e.0, h e.1))
      (λ x y xs e. (e.1.0, (e.0, e.1.1))) (λ xs ys zs g h e. h (g e))

  pub each_append : (F : A → Type 0) (xs ys : List A) → Each F xs → Each F ys → Each F (xs ++ ys)
  each_append F [] ys a b = b
  each_append F (x ∷ xs) ys a b = (a.0, each_append F xs ys a.1 b)

  pub each_left : (F : A → Type 0) (xs ys : List A) → Each F (xs ++ ys) → Each F xs
  each_left F [] ys h = tt
  each_left F (x ∷ xs) ys h = (h.0, each_left F xs ys h.1)

  pub each_right : (F : A → Type 0) (xs ys : List A) → Each F (xs ++ ys) → Each F ys
  each_right F [] ys h = h
  each_right F (x ∷ xs) ys h = each_right F xs ys h.1

  pub each_map : (F G : A → Type 0) → ((x : A) → F x → G x) → (xs : List A) → Each F xs → Each G xs
  each_map F G f [] h = tt
  each_map F G f (x ∷ xs) h = (f x h.0, each_map F G f xs h.1)

  then : {xs ys zs : List A} → IsPermutation xs ys → IsPermutation ys zs → IsPermutation xs zs
  then {xs = xs} {ys = ys} {zs = zs} p q = IsPermutation-trans xs ys zs p q

  -- the first two of three lists change places
  flip_first : (a b c : List A) → IsPermutation (a ++ (b ++ c)) (b ++ (a ++ c))
  flip_first a b c =
      let e = append_assoc a b c in
      let f = append_assoc b a c in
      subst (λ l. IsPermutation l (b ++ (a ++ c))) e
      (subst (λ l. IsPermutation ((a ++ b) ++ c) l) f
      (IsPermutation-append_left c (a ++ b) (b ++ a) (IsPermutation-append_comm a b)))

  -- one of the lists is replaced, by any other
  pub any_replaced : (rs : List (List A)) (i : ℕ) (a : List A) → get_elem? rs i ≡ some a
      → (rest : List A) × IsPermutation (flat_map (λ v. v) rs) (a ++ rest)
      × ((b : List A) → IsPermutation (flat_map (λ v. v) (set rs i b)) (b ++ rest))
  any_replaced [] i a e = absurd (some-ne-none a (sym e))
  any_replaced (x ∷ rs) zero a e = (
    flat_map (λ v. v) rs,
    subst (λ l. IsPermutation (x ++ flat_map (λ v. v) rs) (l ++ flat_map (λ v. v) rs))
        (some-injective x a e)
        (IsPermutation-refl _),
    λ b. IsPermutation-refl _,
  )
  any_replaced (x ∷ rs) (suc i) a e =
      let n = any_replaced rs i a e in (
        x ++ n.0,
        then (IsPermutation-append_right x _ _ n.1) (flip_first x a n.0),
        λ b. then (IsPermutation-append_right x _ _ (n.2 b)) (flip_first x b n.0),
      )

  pub replaced : (rs : List (List A)) (i : ℕ) (a b : List A) → get_elem? rs i ≡ some a
      → (rest : List A) × IsPermutation (flat_map (λ v. v) rs) (a ++ rest)
      × IsPermutation (flat_map (λ v. v) (set rs i b)) (b ++ rest)
  replaced rs i a b e = let n = any_replaced rs i a e in (n.0, n.1, n.2 b)

  -- one of the lists is replaced by two
  pub split_up : (rs : List (List A)) (i : ℕ) (a b c : List A) → get_elem? rs i ≡ some a
      → (rest : List A) × IsPermutation (flat_map (λ v. v) rs) (a ++ rest)
      × IsPermutation (flat_map (λ v. v) (set rs i b ++ c ∷ [])) ((b ++ c) ++ rest)
  split_up rs i a b c e =
      let n = replaced rs i a b e in
      let f : flat_map (λ v. v) (set rs i b ++ c ∷ []) ≡ flat_map (λ v. v) (set rs i b) ++ c =
      flat_map-append (λ v. v) (set rs i b) (c ∷ [])
      ∙ ap (λ l. flat_map (λ v. v) (set rs i b) ++ l) (append-nil c) in (
        n.0,
        n.1,
        subst (λ l. IsPermutation l ((b ++ c) ++ n.0)) (sym f)
            (then (IsPermutation-append_left c _ _ n.2)
            (subst (λ l. IsPermutation l ((b ++ c) ++ n.0)) (sym (append_assoc b n.0 c))
            (subst (λ l. IsPermutation (b ++ (n.0 ++ c)) l) (sym (append_assoc b c n.0))
            (IsPermutation-append_right b _ _ (IsPermutation-append_comm n.0 c))))),
      )

  -- two of the lists are replaced
  pub two_replaced : (rs : List (List A)) (i j : ℕ) (a b c d : List A) → i ≢ j
      → get_elem? rs i ≡ some a
      → get_elem? rs j ≡ some b
      → (rest : List A) × IsPermutation (flat_map (λ v. v) rs) (a ++ (b ++ rest))
      × IsPermutation (flat_map (λ v. v) (set (set rs i c) j d)) (c ++ (d ++ rest))
  two_replaced [] i j a b c d n e f = absurd (some-ne-none a (sym e))
  two_replaced (x ∷ rs) zero zero a b c d n e f = absurd (n refl)
  two_replaced (x ∷ rs) zero (suc j) a b c d n e f =
      let m = replaced rs j b d f in (
        m.0,
        subst (λ l. IsPermutation (x ++ flat_map (λ v. v) rs) (l ++ (b ++ m.0)))
            (some-injective x a e)
            (IsPermutation-append_right x _ _ m.1),
        IsPermutation-append_right c _ _ m.2,
      )
  two_replaced (x ∷ rs) (suc i) zero a b c d n e f =
      let m = replaced rs i a c e in (
        m.0,
        subst (λ l. IsPermutation (x ++ flat_map (λ v. v) rs) (a ++ (l ++ m.0)))
            (some-injective x b f)
            (then (IsPermutation-append_right x _ _ m.1) (flip_first x a m.0)),
        then (IsPermutation-append_right d _ _ m.2) (flip_first d c m.0),
      )
  two_replaced (x ∷ rs) (suc i) (suc j) a b c d n e f =
      let m = two_replaced rs i j a b c d (λ q. n (ap suc q)) e f in (
        x ++ m.0,
        then (IsPermutation-append_right x _ _ m.1)
            (then (flip_first x a (b ++ m.0))
            (IsPermutation-append_right a _ _ (flip_first x b m.0))),
        then (IsPermutation-append_right x _ _ m.2)
            (then (flip_first x c (d ++ m.0))
            (IsPermutation-append_right c _ _ (flip_first x d m.0))),
      )
