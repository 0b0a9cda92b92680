-- How a stack changes where an item is put on it, or taken off.
use Rattle.std.proofs.Common.{◌≡◌, ◌++◌, ◌∷◌, [], List, length, sym, ap, subst, arith}
use Rattle.std.specs.Prelude.{true, ◌↔◌, ℕ}
use Rattle.std.specs.List.Sorted.{IsPermutation}
use Rattle.std.proofs.lemmas.List.{nil_from_length}
use Rattle.std.proofs.lemmas.List.Sorted.{IsPermutation-sym, IsPermutation-to_front}
use Rattle.std.proofs.lemmas.List.Sorted.{IsPermutation-append_comm, length_permutation}
use Rattle.glb_laws.specs.Expansion.{Expands}
use Rattle.glb_laws.proofs.Expansions.{batch_one, batch_still, batch_empty}
use Rattle.glb_uses.specs.inner.Tops.{TakesTop}

-- an item that is pushed is among the items
pub pushed : {X : Type 0} (xs ys : List X) (x : X) → ys ≡ xs ++ x ∷ []
    → IsPermutation (x ∷ xs) ys
pushed xs ys x e =
    subst (IsPermutation (x ∷ xs)) (sym e) (IsPermutation-sym _ _ (IsPermutation-to_front xs x))

module _ {X V : Type 0} (children : X → List X) (value : X → V) (combine : V → V → V) where
  -- where the last item is taken, one item was expanded
  pub taken_top : (before after : List X) (start gain : V)
      → TakesTop children value combine before start true after gain
      → Expands children value combine before start 1 after gain
  taken_top before after start gain (rest, item, before_is, after_is, gain_is) =
      let front =
      subst (λ l. IsPermutation l (item ∷ rest)) (sym before_is) (IsPermutation-to_front rest item)
      in
      let below : List X = children item in
      let back =
      subst (IsPermutation (below ++ rest)) (sym after_is) (IsPermutation-append_comm below rest)
      in
      subst (Expands children value combine before start 1 after) (sym gain_is)
      (batch_one children value combine before rest after item start front back)

  -- nothing was expanded exactly where there was nothing
  pub none_taken : (before after : List X) (start gain : V) (k : ℕ)
      → Expands children value combine before start k after gain → after ≡ []
      → (k ≡ 0) ↔ (before ≡ [])
  none_taken before after start gain k e none = (
    λ zero. nil_from_length _ (omega (
      arith,
      ap length none,
      length_permutation _ _ (batch_still _ _ _ _ _ _ _ _ e zero),
    )),
    λ empty. batch_empty _ _ _ _ _ _ _ _ e empty,
  )
