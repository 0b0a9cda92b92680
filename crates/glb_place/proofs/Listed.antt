-- sums and joined lists of records, where one record is replaced, split in two or joined into another
use Rattle.std.proofs.Common.{◌≡◌, ℕ, zero, suc, ◌+◌, ◌<◌, List, [], ◌∷◌, ◌++◌, length, get_or, set, sym, subst, ◌∙◌, ap, arith, append_assoc, append-nil}
use Rattle.std.specs.List.{flat_map, sum_by, remove}
use Rattle.std.specs.List.Sorted.{IsPermutation}
use Rattle.std.proofs.lemmas.Grind.{flat_map-append}
use Rattle.std.proofs.lemmas.List.Sums.{sum_by-set, sum_by-append, sum_by-cons}
use Rattle.std.proofs.lemmas.List.Sorted.{IsPermutation-refl, IsPermutation-sym, IsPermutation-trans, IsPermutation-append_left, IsPermutation-append_right, IsPermutation-append_comm, IsPermutation-remove, sum_by-IsPermutation}
use Rattle.glb_laws.proofs.Shuffles.{IsPermutation-flat_map}

module _ {I : Type 0} where
  -- the first two of three lists change places
  pub flip_first : (a b c : List I) → IsPermutation (a ++ (b ++ c)) (b ++ (a ++ c))
  flip_first a b c =
      let e = append_assoc a b c in
      let f = append_assoc b a c in
      subst (λ l. IsPermutation l (b ++ (a ++ c))) e
      (subst (λ l. IsPermutation ((a ++ b) ++ c) l) f
      (IsPermutation-append_left c (a ++ b) (b ++ a) (IsPermutation-append_comm a b)))

module _ {R I : Type 0} (g : R → List I) where
  -- the lists of the others stay where one member is replaced
  pub lists_replaced : (rs : List R) (i : ℕ) (r d : R) → i < length rs → (rest : List I)
      × IsPermutation (flat_map g rs) (g (get_or rs i d) ++ rest)
      × IsPermutation (flat_map g (set rs i r)) (g r ++ rest)
  lists_replaced [] i r d h = absurd (omega arith)
  lists_replaced (x ∷ rs) zero r d h = (flat_map g rs, IsPermutation-refl _, IsPermutation-refl _)
  lists_replaced (x ∷ rs) (suc i) r d h =
      let n = lists_replaced rs i r d (omega arith) in (
        g x ++ n.0,
        IsPermutation-trans _ _ _ (IsPermutation-append_right (g x) _ _ n.1)
            (flip_first (g x) (g (get_or rs i d)) n.0),
        IsPermutation-trans _ _ _ (IsPermutation-append_right (g x) _ _ n.2)
            (flip_first (g x) (g r) n.0),
      )

  -- the new list of one record is that of the old, and more
  pub lists_grown : (rs : List R) (i : ℕ) (r d : R) (more : List I) → i < length rs
      → IsPermutation (g r) (more ++ g (get_or rs i d))
      → IsPermutation (flat_map g (set rs i r)) (more ++ flat_map g rs)
  lists_grown rs i r d more h s =
      let n = lists_replaced rs i r d h in
      IsPermutation-trans _ _ _ n.2
      (IsPermutation-trans _ _ _ (IsPermutation-append_left n.0 _ _ s)
      (subst (λ l. IsPermutation l (more ++ flat_map g rs))
      (sym (append_assoc more (g (get_or rs i d)) n.0))
      (IsPermutation-append_right more _ _ (IsPermutation-sym _ _ n.1))))

  -- the joined lists stay where one member is split in two
  pub lists_split : (rs : List R) (i : ℕ) (left right d : R) → i < length rs
      → IsPermutation (g (get_or rs i d)) (g left ++ g right)
      → IsPermutation (flat_map g rs) (flat_map g (set rs i left ++ right ∷ []))
  lists_split rs i left right d h s =
      let n = lists_replaced rs i left d h in
      let e : flat_map g (set rs i left ++ right ∷ []) ≡ flat_map g (set rs i left) ++ g right =
      flat_map-append g (set rs i left) (right ∷ [])
      ∙ ap (λ l. flat_map g (set rs i left) ++ l) (append-nil (g right)) in
      subst (λ l. IsPermutation (flat_map g rs) l) (sym e)
      (IsPermutation-trans _ _ _ n.1
      (IsPermutation-trans _ _ _ (IsPermutation-append_left n.0 _ _ s)
      (IsPermutation-trans _ _ _ (subst (λ l. IsPermutation ((g left ++ g right) ++ n.0) l)
      (sym (append_assoc (g left) n.0 (g right)))
      (subst (λ l. IsPermutation l (g left ++ (n.0 ++ g right)))
      (sym (append_assoc (g left) (g right) n.0))
      (IsPermutation-append_right (g left) _ _ (IsPermutation-append_comm (g right) n.0))))
      (IsPermutation-append_left (g right) _ _ (IsPermutation-sym _ _ n.2)))))

  -- record j was taken out, and joined into what then stands at i
  pub lists_joined : (rs : List R) (j i : ℕ) (both taken d : R) → j < length rs → taken
      ≡ get_or rs j taken → i < length (remove rs j)
      → IsPermutation (g both) (g taken ++ g (get_or (remove rs j) i d))
      → IsPermutation (flat_map g rs) (flat_map g (set (remove rs j) i both))
  lists_joined rs j i both taken d k e h s =
      let m : IsPermutation (flat_map g rs) (g taken ++ flat_map g (remove rs j)) =
      IsPermutation-flat_map g _ _ (IsPermutation-remove rs j taken k e) in
      IsPermutation-trans _ _ _ m (IsPermutation-sym _ _
      (lists_grown (remove rs j) i both d (g taken) h s))

module _ {R : Type 0} (f : R → ℕ) where
  -- and so does a sum
  pub sums_split : (rs : List R) (i : ℕ) (left right d : R) → i < length rs → f (get_or rs i d)
      ≡ f left + f right → sum_by f (set rs i left ++ right ∷ []) ≡ sum_by f rs
  sums_split rs i left right d h e =
      let a = sum_by-set f rs i left d h in
      let b = sum_by-append f (set rs i left) (right ∷ []) in
      let c : sum_by f (right ∷ []) ≡ f right + 0 = sum_by-cons f right [] in
      omega arith

  -- a sum stays where one member is joined into another
  pub sums_joined : (rs : List R) (j i : ℕ) (both taken d : R) → j < length rs → taken
      ≡ get_or rs j taken → i < length (remove rs j) → f both
      ≡ f taken + f (get_or (remove rs j) i d) → sum_by f (set (remove rs j) i both) ≡ sum_by f rs
  sums_joined rs j i both taken d k e h s =
      let a = sum_by-set f (remove rs j) i both d h in
      let b = sum_by-IsPermutation f _ _ (IsPermutation-remove rs j taken k e) in
      let c = sum_by-cons f taken (remove rs j) in
      omega arith
