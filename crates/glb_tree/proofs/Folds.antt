-- What a run counted and combined is the number of the nodes and the combination of their values.
use Rattle.std.proofs.Common.{◌≡◌, ℕ, ◌+◌, ◌<◌, ◌≤◌, List, [], length, sym, ap, subst, ◌∙◌, arith}
use Rattle.std.specs.List.Sorted.{IsPermutation}
use Rattle.std.proofs.lemmas.List.Sorted.{length_permutation}
use Rattle.glb_laws.specs.Monoid.{MonoidLaws}
use Rattle.glb_laws.specs.Tree.{IsSmall, nodes}
use Rattle.glb_laws.specs.Expansion.{Expands, combined}
use Rattle.glb_laws.proofs.Shuffles.{combined_permutation}
use Rattle.glb_laws.proofs.Expansions.{batch_append, batch_expansion}
use Rattle.glb_tree.specs.Runs.{IsOutcome, IsTooMany}
use Rattle.glb_tree.proofs.Forests.{nodes_same, small_more}
use Rattle.glb_tree.proofs.Orders.{ended_small, ended_nodes}
use Rattle.glb_tree.proofs.Sizes.{never_more}

module _ {X V : Type 0} (children : X → List X) (value : X → V) {IsProper : V → Type 0}
    {unit : V} {combine : V → V → V} (laws : MonoidLaws IsProper unit combine)
    (proper : (x : X) → IsProper (value x)) where
  -- a run that took all items has the outcome
  pub outcome_of : (roots : List X) (limit items : ℕ) (v : V)
      → Expands children value combine roots unit items [] v → items ≤ limit
      → IsOutcome children value unit combine roots limit (record { items = items; value = v })
  outcome_of roots limit items v b h =
      let e = batch_expansion children value combine roots [] unit v items b in
      let number : ℕ = length b.taken in
      let enough : number ≤ limit = omega (arith, b.number) in
      let small : IsSmall children roots number = ended_small children roots b.taken e in
      let same : nodes children roots limit ≡ nodes children roots number =
      nodes_same children roots number limit enough small
      in
      let order : IsPermutation (nodes children roots number) b.taken =
      ended_nodes children roots b.taken e in
      let fold = combined_permutation laws value proper _ _ order unit laws.unit_proper in
      record {
        small = small_more children roots number limit enough small;
        items = omega (arith, b.number, length_permutation _ _ order, ap length same);
        value_is = b.value_is ∙ sym fold ∙ ap (combined value combine unit) (sym same);
      }

  -- the last batch found nothing to take
  pub outcome_at_end : (roots mid after : List X) (v w : V) (limit items k : ℕ)
      → Expands children value combine roots unit items mid v
      → Expands children value combine mid v k after w
      → k ≡ 0 → (k ≡ 0 → after ≡ []) → items ≤ limit
      → IsOutcome children value unit combine roots limit (record { items = items; value = w })
  outcome_at_end roots mid after v w limit items k b last zero empty h =
      let none : after ≡ [] = empty zero in
      let total : items + k ≡ items = omega arith in
      let all = batch_append children value combine roots mid after unit v w items k b last in
      let counted = subst (λ m. Expands children value combine roots unit m after w) total all in
      let ended = subst (λ l. Expands children value combine roots unit items l w) none counted in
      outcome_of roots limit items w ended h

module _ {X V : Type 0} (children : X → List X) (value : X → V) (combine : V → V → V) where
  -- a run that passed the limit took more items than small trees have
  pub too_many : (roots left : List X) (s v : V) (limit items : ℕ)
      → Expands children value combine roots s items left v → limit < items
      → IsTooMany children roots limit items
  too_many roots left s v limit items b above =
      let e = batch_expansion children value combine roots left s v items b in
      record {
        above = above;
        large = λ small. omega
            (arith, never_more children roots b.taken left limit e small, b.number);
        expanded = (b.taken, left, e, b.number);
      }
