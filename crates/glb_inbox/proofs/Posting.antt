-- Each call on an inbox keeps its rule.
use Rattle.std.proofs.Common.{◌≡◌, ℕ, zero, suc, List, [], ◌∷◌, ◌++◌, set, Option, Some, None, refl}
use Rattle.std.proofs.Common.{sym, ap, ◌∙◌, subst, ⊎_elim}
use mathlib.Core.Option.{some, some-injective, some-ne-none}
use lib.ListN.{get_elem?}
use Rattle.atomic_table.proofs.Lists.{at_set, at_snoc, set_again}
use Rattle.crossbeam_queue.specs.Fifo.{Pushes, Pops, Forks}
use Rattle.glb_inbox.specs.declared.message.Tie.{Tie}
use Rattle.glb_inbox.specs.declared.message.Message.{Message}
use Rattle.glb_inbox.specs.inner.Posted.{IsGoodAt, IsGood, PostedAt, Posted}

module _ {B Q I : Type 0} (items : B → List I) (fits : B → Q → Type 0) where
  abbrev Rule : List (Message B I) → List (Option (Tie Q)) → Type 0
  Rule = Posted items fits

  -- where a pass is tied, the inbox is tied so
  tied : (t : Option (Tie Q)) (tie : Tie Q) (xs : List (Message B I))
      (views : List (Option (Tie Q))) (i : ℕ) → PostedAt items fits t xs views
      → get_elem? views i ≡ some (Some tie) → t ≡ Some tie
  tied None tie xs views i h at = at_none i (ap (λ l. get_elem? l i) (sym h.1) ∙ at)
    where
      at_none : (i : ℕ) → get_elem? (None ∷ []) i ≡ some (Some tie) → None ≡ Some tie
      at_none zero e = some-injective None (Some tie) e
      at_none (suc i) e = absurd (some-ne-none (Some tie) (sym e))
  tied (Some u) tie xs views i h at = sym (h.1 i (Some tie) at)

  at_tie : (tie : Tie Q) (xs : List (Message B I)) (views : List (Option (Tie Q))) (i : ℕ)
      → Rule xs views → get_elem? views i ≡ some (Some tie)
      → PostedAt items fits (Some tie) xs views
  at_tie tie xs views i h at = subst (λ t. PostedAt items fits t xs views)
      (tied h.0 tie xs views i h.1 at) h.1

  pub pushes : (n i : ℕ) (v : Option (Tie Q)) (x : Message B I) → IsGood items fits v x
      → Pushes Rule n i v x (λ w. (w ≡ v) × IsGood items fits v x)
  pushes n i None x good xs views room h at = absurd good
  pushes n i (Some tie) x good xs views room h at =
      let p = at_tie tie xs views i h at in (
        Some tie,
        (
          Some tie,
          (
            λ k y e. ⊎_elim (λ (was : get_elem? xs k ≡ some y). p.0 k y was)
                (λ (is : x ≡ y). subst (IsGoodAt items fits tie) is good) (at_snoc xs x y k e),
            subst (λ (l : List (Option (Tie Q))). (j : ℕ) (w : Option (Tie Q))
                → get_elem? l j ≡ some w → w ≡ Some tie) (sym (set_again views i (Some tie) at))
                p.1,
          ),
        ),
        (refl, good),
      )

  pub pops : (i : ℕ) (v : Option (Tie Q)) → ((t : Tie Q) × (v ≡ Some t))
      → Pops Rule i v (λ x w. (w ≡ v) × IsGood items fits v x)
  pops i v is = subst (λ (u : Option (Tie Q)).
      Pops Rule i u (λ x w. (w ≡ u) × IsGood items fits u x)) (sym is.1) (λ x xs views h at.
      let p = at_tie is.0 (x ∷ xs) views i h at in (
        Some is.0,
        (
          Some is.0,
          (
            (λ k y e. p.0 (suc k) y e),
            subst (λ (l : List (Option (Tie Q))). (j : ℕ) (w : Option (Tie Q))
                → get_elem? l j ≡ some w → w ≡ Some is.0)
                (sym (set_again views i (Some is.0) at)) p.1,
          ),
        ),
        (refl, p.0 0 x refl),
      ))

  pub copies : (i : ℕ) (v : Option (Tie Q)) → ((t : Tie Q) × (v ≡ Some t)) → Forks Rule i v v v
  copies i v is = subst (λ (u : Option (Tie Q)). Forks Rule i u u u) (sym is.1) (λ xs views h at.
      let p = at_tie is.0 xs views i h at in (
        Some is.0,
        (
          p.0,
          λ j w e.
              ⊎_elim (λ (was : get_elem? (set views i (Some is.0)) j ≡ some w).
              p.1 j w (subst (λ (l : List (Option (Tie Q))). get_elem? l j ≡ some w)
              (set_again views i (Some is.0) at) was)) (λ (same : Some is.0 ≡ w). sym same)
              (at_snoc (set views i (Some is.0)) (Some is.0) w j e),
        ),
      ))

  pub names : (i : ℕ) (v w : Option (Tie Q)) → v ≡ None → ((t : Tie Q) × (w ≡ Some t))
      → Forks Rule i v w w
  names i v w none is = subst (λ (z : Option (Tie Q) × Option (Tie Q)). Forks Rule i z.0 z.1 z.1)
      (λ k. (sym none k, sym is.1 k)) (λ xs views h at. (Some is.0, first h.0 xs views h.1 at))
    where
      first : (t : Option (Tie Q)) (xs : List (Message B I)) (views : List (Option (Tie Q)))
          → PostedAt items fits t xs views → get_elem? views i ≡ some None
          → PostedAt items fits (Some is.0) xs (set views i (Some is.0) ++ Some is.0 ∷ [])
      first (Some u) xs views h at = let e : None ≡ Some u = h.1 i None at in cc
      first None xs views h at = (
        (λ k x e. absurd (some-ne-none x (sym (ap (λ l. get_elem? l k) (sym h.0) ∙ e)))),
        λ j y e. ⊎_elim
            (λ (was : get_elem? (set views i (Some is.0)) j ≡ some y). ⊎_elim
            (λ (a : (j ≡ i) × (Some is.0 ≡ y)). sym a.1)
            (λ (a : (j ≡ i → ⊥) × (get_elem? views j ≡ some y)). absurd
            (a.0 (zero_at j y (ap (λ l. get_elem? l j) (sym h.1) ∙ a.1)
            ∙ sym (zero_at i None (ap (λ l. get_elem? l i) (sym h.1) ∙ at)))))
            (at_set views i j (Some is.0) y was))
            (λ (same : Some is.0 ≡ y). sym same)
            (at_snoc (set views i (Some is.0)) (Some is.0) y j e),
      )
        where
          zero_at : (j : ℕ) (y : Option (Tie Q)) → get_elem? (None ∷ []) j ≡ some y → j ≡ 0
          zero_at zero y e = refl
          zero_at (suc j) y e = absurd (some-ne-none y (sym e))
