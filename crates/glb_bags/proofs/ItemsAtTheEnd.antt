-- How a list changes where an item is added, held aside, or taken at its end.
use Rattle.std.proofs.Common.{◌≡◌, ◌++◌, ◌∷◌, [], List, sym, subst}
use Rattle.std.specs.Prelude.{Option, None, Some}
use Rattle.std.specs.List.Sorted.{IsPermutation}
use Rattle.std.proofs.lemmas.List.Sorted.{IsPermutation-sym, IsPermutation-to_front, IsPermutation-append_left, IsPermutation-append_comm}
use Rattle.glb_laws.specs.Expansion.{Expands}
use Rattle.glb_laws.proofs.Expansions.{batch_one}
use Rattle.glb_bags.specs.ListBag.{with_held}
use Rattle.glb_bags.specs.inner.LastItem.{TakesLast}

-- an item that is pushed is among the items
pub pushed : {X : Type 0} (xs ys : List X) (held : Option X) (x : X) → ys ≡ xs ++ x ∷ []
    → IsPermutation (x ∷ with_held xs held) (with_held ys held)
pushed xs ys None x e =
    subst (IsPermutation (x ∷ xs)) (sym e) (IsPermutation-sym _ _ (IsPermutation-to_front xs x))
pushed xs ys (Some y) x e =
    let front : IsPermutation (x ∷ xs) (xs ++ x ∷ []) = IsPermutation-sym _ _
    (IsPermutation-to_front xs x) in
    let beside = IsPermutation-append_left (y ∷ []) (x ∷ xs) (xs ++ x ∷ []) front in
    subst (λ l. IsPermutation (x ∷ (xs ++ y ∷ [])) (l ++ y ∷ [])) (sym e) beside

module _ {X V : Type 0} (children : X → List X) (value : X → V) (combine : V → V → V) where
  -- where the last item is taken, one item was expanded
  pub taken_last : (before after : List X) (start gain : V)
      → TakesLast children value combine before start after gain
      → Expands children value combine before start 1 after gain
  taken_last before after start gain t =
      let front =
      subst (λ l. IsPermutation l (t.item ∷ t.rest)) (sym t.before_is)
      (IsPermutation-to_front t.rest t.item)
      in
      let below : List X = children t.item in
      let back =
      subst (IsPermutation (below ++ t.rest)) (sym t.after_is)
      (IsPermutation-append_comm below t.rest)
      in
      subst (Expands children value combine before start 1 after) (sym t.gain_is)
      (batch_one children value combine before t.rest after t.item start front back)
