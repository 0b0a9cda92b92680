-- Sums, greatest values and claimed numbers of all views, where one view is replaced, split in two
-- or joined into another.
use mathlib.Core.Option.{some, some-injective, some-ne-none}
use lib.ListN.{get_elem?}
use Rattle.std.proofs.Common.{◌≡◌, ◌≢◌, ℕ, zero, suc, ◌+◌, ◌≤◌, List, [], ◌∷◌, ◌++◌, set, refl, sym}
use Rattle.std.proofs.Common.{max}
use Rattle.std.proofs.Common.{ap, subst, ◌∙◌, arith, append_assoc, append-nil, IsPermutation}
use Rattle.std.proofs.lemmas.List.Sorted.{IsPermutation-refl, IsPermutation-trans}
use Rattle.std.proofs.lemmas.List.Sorted.{IsPermutation-append_left, IsPermutation-append_right}
use Rattle.std.proofs.lemmas.List.Sorted.{IsPermutation-append_comm, IsPermutation-sym}
use Rattle.glb_bound.specs.declared.view.View.{View}
use Rattle.glb_bound.specs.inner.Rule.{total, greatest, claims}

-- one view is replaced by another that counts for more
pub total_set : (f : View → ℕ) (vs : List View) (i : ℕ) (v w : View) → get_elem? vs i ≡ some v
    → total f (set vs i w) + f v ≡ total f vs + f w
total_set f [] i v w e = absurd (some-ne-none v (sym e))
total_set f (x ∷ vs) zero v w e =
    let same : f x ≡ f v = ap f (some-injective x v e) in omega arith
total_set f (x ∷ vs) (suc i) v w e = let h = total_set f vs i v w e in omega arith

pub total_push : (f : View → ℕ) (vs : List View) (w : View)
    → total f (vs ++ w ∷ []) ≡ total f vs + f w
total_push f [] w = omega arith
total_push f (x ∷ vs) w = let h = total_push f vs w in omega arith

-- a view counts for no more than all
pub total_at : (f : View → ℕ) (vs : List View) (i : ℕ) (v : View) → get_elem? vs i ≡ some v
    → f v ≤ total f vs
total_at f [] i v e = absurd (some-ne-none v (sym e))
total_at f (x ∷ vs) zero v e = let same : f x ≡ f v = ap f (some-injective x v e) in omega arith
total_at f (x ∷ vs) (suc i) v e = let h = total_at f vs i v e in omega arith

pub greatest_set : (f : View → ℕ) (vs : List View) (i : ℕ) (v w : View) (n : ℕ)
    → get_elem? vs i ≡ some v → f w ≡ max (f v) n
    → greatest f (set vs i w) ≡ max (greatest f vs) n
greatest_set f [] i v w n e h = absurd (some-ne-none v (sym e))
greatest_set f (x ∷ vs) zero v w n e h =
    let same : f x ≡ f v = ap f (some-injective x v e) in omega arith
greatest_set f (x ∷ vs) (suc i) v w n e h =
    let g = greatest_set f vs i v w n e h in omega arith

pub greatest_push : (f : View → ℕ) (vs : List View) (w : View)
    → greatest f (vs ++ w ∷ []) ≡ max (greatest f vs) (f w)
greatest_push f [] w = omega arith
greatest_push f (x ∷ vs) w = let h = greatest_push f vs w in omega arith

pub greatest_at : (f : View → ℕ) (vs : List View) (i : ℕ) (v : View) → get_elem? vs i ≡ some v
    → f v ≤ greatest f vs
greatest_at f [] i v e = absurd (some-ne-none v (sym e))
greatest_at f (x ∷ vs) zero v e =
    let same : f x ≡ f v = ap f (some-injective x v e) in omega arith
greatest_at f (x ∷ vs) (suc i) v e = let h = greatest_at f vs i v e in omega arith

-- one view takes in what another had, which has none any more
pub greatest_join : (f : View → ℕ) (vs : List View) (i j : ℕ) (v w both spent : View) → i ≢ j
    → get_elem? vs i ≡ some v → get_elem? vs j ≡ some w → f both ≡ max (f v) (f w) → f spent ≡ 0
    → greatest f (set (set vs i both) j spent) ≡ greatest f vs
greatest_join f [] i j v w both spent n e g b s = absurd (some-ne-none v (sym e))
greatest_join f (x ∷ vs) zero zero v w both spent n e g b s = absurd (n refl)
greatest_join f (x ∷ vs) zero (suc j) v w both spent n e g b s =
    let same : f x ≡ f v = ap f (some-injective x v e) in
    let h = greatest_spent f vs j w spent g s in omega arith
  where
    greatest_spent : (f : View → ℕ) (vs : List View) (j : ℕ) (w spent : View)
        → get_elem? vs j ≡ some w → f spent ≡ 0
        → max (f w) (greatest f (set vs j spent)) ≡ greatest f vs
    greatest_spent f [] j w spent g s = absurd (some-ne-none w (sym g))
    greatest_spent f (y ∷ vs) zero w spent g s =
        let same : f y ≡ f w = ap f (some-injective y w g) in omega arith
    greatest_spent f (y ∷ vs) (suc j) w spent g s =
        let h = greatest_spent f vs j w spent g s in omega arith
greatest_join f (x ∷ vs) (suc i) zero v w both spent n e g b s =
    let same : f x ≡ f w = ap f (some-injective x w g) in
    let h = greatest_set f vs i v both (f w) e b in omega arith
greatest_join f (x ∷ vs) (suc i) (suc j) v w both spent n e g b s =
    let h = greatest_join f vs i j v w both spent (λ q. n (ap suc q)) e g b s in omega arith

-- the first two of three lists change places
pub flip_first : {A : Type 0} (a b c : List A) → IsPermutation (a ++ (b ++ c)) (b ++ (a ++ c))
flip_first a b c =
    subst (λ l. IsPermutation l (b ++ (a ++ c))) (append_assoc a b c)
    (subst (λ l. IsPermutation ((a ++ b) ++ c) l) (append_assoc b a c)
    (IsPermutation-append_left c (a ++ b) (b ++ a) (IsPermutation-append_comm a b)))

pub then : {A : Type 0} {xs ys zs : List A} → IsPermutation xs ys → IsPermutation ys zs
    → IsPermutation xs zs
then {xs = xs} {ys = ys} {zs = zs} p q = IsPermutation-trans xs ys zs p q

-- one view is taken out
pub claims_set : (vs : List View) (i : ℕ) (v : View) → get_elem? vs i ≡ some v
    → (rest : List ℕ) × IsPermutation (claims vs) (v.claimed ++ rest)
    × ((w : View) → IsPermutation (claims (set vs i w)) (w.claimed ++ rest))
claims_set [] i v e = absurd (some-ne-none v (sym e))
claims_set (x ∷ vs) zero v e = (
  claims vs,
  subst (λ (y : View). IsPermutation (x.claimed ++ claims vs) (y.claimed ++ claims vs))
      (some-injective x v e) (IsPermutation-refl _),
  λ w. IsPermutation-refl _,
)
claims_set (x ∷ vs) (suc i) v e =
    let n = claims_set vs i v e in (
      x.claimed ++ n.0,
      then (IsPermutation-append_right x.claimed _ _ n.1) (flip_first x.claimed v.claimed n.0),
      λ w. then (IsPermutation-append_right x.claimed _ _ (n.2 w))
          (flip_first x.claimed w.claimed n.0),
    )

pub claims_push : (vs : List View) (w : View) → claims (vs ++ w ∷ []) ≡ claims vs ++ w.claimed
claims_push [] w = append-nil w.claimed
claims_push (x ∷ vs) w = ap (λ l. x.claimed ++ l) (claims_push vs w)
    ∙ sym (append_assoc x.claimed (claims vs) w.claimed)

-- one view takes in the numbers of another, which has none any more
pub claims_join : (vs : List View) (i j : ℕ) (v w both spent : View) → i ≢ j
    → get_elem? vs i ≡ some v → get_elem? vs j ≡ some w → both.claimed ≡ v.claimed ++ w.claimed
    → spent.claimed ≡ [] → IsPermutation (claims (set (set vs i both) j spent)) (claims vs)
claims_join [] i j v w both spent n e g b s = absurd (some-ne-none v (sym e))
claims_join (x ∷ vs) zero zero v w both spent n e g b s = absurd (n refl)
claims_join (x ∷ vs) zero (suc j) v w both spent n e g b s =
    let m = claims_set vs j w g in
    let rest : List ℕ = m.0 in
    let left : IsPermutation (claims (set vs j spent)) rest =
    subst (λ l. IsPermutation (claims (set vs j spent)) (l ++ rest)) s (m.2 spent) in
    let right : IsPermutation (v.claimed ++ (w.claimed ++ rest)) (v.claimed ++ claims vs) =
    IsPermutation-append_right v.claimed _ _ (IsPermutation-sym _ _ m.1) in
    let same : x.claimed ≡ v.claimed = ap (λ (y : View). y.claimed) (some-injective x v e) in
    subst (λ l. IsPermutation (both.claimed ++ claims (set vs j spent)) (l ++ claims vs)) (sym same)
    (subst (λ l. IsPermutation (l ++ claims (set vs j spent)) (v.claimed ++ claims vs)) (sym b)
    (then (IsPermutation-append_right (v.claimed ++ w.claimed) _ _ left)
    (subst (λ l. IsPermutation l (v.claimed ++ claims vs))
    (sym (append_assoc v.claimed w.claimed rest)) right)))
claims_join (x ∷ vs) (suc i) zero v w both spent n e g b s =
    let m = claims_set vs i v e in
    let rest : List ℕ = m.0 in
    let left : IsPermutation (claims (set vs i both)) ((v.claimed ++ w.claimed) ++ rest) =
    subst (λ l. IsPermutation (claims (set vs i both)) (l ++ rest)) b (m.2 both) in
    let right : IsPermutation (w.claimed ++ (v.claimed ++ rest)) (w.claimed ++ claims vs) =
    IsPermutation-append_right w.claimed _ _ (IsPermutation-sym _ _ m.1) in
    let same : x.claimed ≡ w.claimed = ap (λ (y : View). y.claimed) (some-injective x w g) in
    subst (λ l. IsPermutation (spent.claimed ++ claims (set vs i both)) (l ++ claims vs)) (sym same)
    (subst (λ l. IsPermutation (l ++ claims (set vs i both)) (w.claimed ++ claims vs)) (sym s)
    (then left (then
    (subst (λ l. IsPermutation l (w.claimed ++ (v.claimed ++ rest)))
    (sym (append_assoc v.claimed w.claimed rest)) (flip_first v.claimed w.claimed rest)) right)))
claims_join (x ∷ vs) (suc i) (suc j) v w both spent n e g b s =
    IsPermutation-append_right x.claimed _ _
    (claims_join vs i j v w both spent (λ q. n (ap suc q)) e g b s)

-- the view counts for nothing
abbrev pub IsIdle : View → Type 0
IsIdle v = (v.claimed ≡ []) × (v.raised ≡ 0) × (v.code ≡ 0) × (v.counted ≡ 0)

-- views that stand for no place count for nothing
pub idle_views : (vs : List View)
    → ((i : ℕ) (v : View) → get_elem? vs i ≡ some v → v.places ≡ 0 → IsIdle v)
    → total (λ v. v.places) vs ≡ 0
    → (claims vs ≡ []) × (greatest (λ v. v.raised) vs ≡ 0) × (greatest (λ v. v.code) vs ≡ 0)
    × (total (λ v. v.counted) vs ≡ 0)
idle_views [] f e = (refl, refl, refl, refl)
idle_views (v ∷ vs) f e =
    let a = f 0 v refl (omega arith) in
    let h = idle_views vs (λ i w g. f (suc i) w g) (omega arith) in (
      ap (λ l. l ++ claims vs) a.0 ∙ h.0,
      omega (arith, a.1, h.1),
      omega (arith, a.2, h.2),
      omega (arith, a.3, h.3),
    )

-- where one view stands for all places, the others count for nothing
pub alone : (vs : List View) (i : ℕ) (v : View)
    → ((i : ℕ) (v : View) → get_elem? vs i ≡ some v → v.places ≡ 0 → IsIdle v)
    → get_elem? vs i ≡ some v → total (λ v. v.places) vs ≡ v.places
    → (claims vs ≡ v.claimed) × (greatest (λ v. v.raised) vs ≡ v.raised)
    × (greatest (λ v. v.code) vs ≡ v.code) × (total (λ v. v.counted) vs ≡ v.counted)
alone [] i v f e t = absurd (some-ne-none v (sym e))
alone (x ∷ vs) zero v f e t =
    let same : x ≡ v = some-injective x v e in
    let p : x.places ≡ v.places = ap (λ (y : View). y.places) same in
    let h = idle_views vs (λ i w g. f (suc i) w g) (omega arith) in
    let r : x.raised ≡ v.raised = ap (λ (y : View). y.raised) same in
    let c : x.code ≡ v.code = ap (λ (y : View). y.code) same in
    let n : x.counted ≡ v.counted = ap (λ (y : View). y.counted) same in (
      ap (λ l. x.claimed ++ l) h.0 ∙ append-nil x.claimed ∙ ap (λ (y : View). y.claimed) same,
      omega (arith, h.1),
      omega (arith, h.2),
      omega (arith, h.3),
    )
alone (x ∷ vs) (suc i) v f e t =
    let least = total_at (λ v. v.places) vs i v e in
    let a = f 0 x refl (omega arith) in
    let h = alone vs i v (λ j w g. f (suc j) w g) e (omega arith) in (
      ap (λ l. l ++ claims vs) a.0 ∙ h.0,
      omega (arith, a.1, h.1),
      omega (arith, a.2, h.2),
      omega (arith, a.3, h.3),
    )
