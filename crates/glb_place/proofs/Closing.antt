-- The three cases of a run at its close.
use Rattle.std.proofs.Common.{◌≡◌, ◌≢◌, ℕ, suc, ◌<◌, ◌≤◌, ⊎_elim, List, [], ◌∷◌, ◌++◌, length, refl, sym, ap, subst, ◌∙◌, arith}
use Rattle.std.specs.Prelude.{fold, All, map, Bool}
use Rattle.std.specs.List.{flat_map}
use Rattle.std.proofs.lemmas.List.Sorted.{length_permutation}
use Rattle.glb_laws.specs.Monoid.{MonoidLaws}
use Rattle.glb_laws.specs.Tree.{IsSmall}
use Rattle.glb_laws.specs.Expansion.{Expansion, combined}
use Rattle.glb_laws.proofs.Shuffles.{combined_permutation, combined_proper}
use Rattle.glb_laws.proofs.Expansions.{combined-append}
use Rattle.glb_tree.specs.Runs.{IsOutcome}
use Rattle.glb_tree.proofs.Orders.{ended_small, ended_nodes}
use Rattle.glb_tree.proofs.Sizes.{never_more}
use Rattle.glb_tree.proofs.Forests.{nodes_same, small_more}
use Rattle.glb_place.specs.declared.record.Record.{Record}
use Rattle.glb_place.specs.Close.{Closes, counters_in, done_of, bag_of, HasLeft}
use Rattle.glb_stats.specs.Balances.{IsBalanced}
use Rattle.glb_place.proofs.HoldsFacts.{combined_after}

module _ {X V : Type 0} {IsProper : V → Type 0} {unit : V} {combine : V → V → V}
    (laws : MonoidLaws IsProper unit combine) (value : X → V)
    (proper : (x : X) → IsProper (value x)) where
  -- the values of all places, joined, are the combination over all that they did
  pub joined_values : {R : Type 0} (done : R → List X) (value_of : R → V) (rs : List R) (s : V)
      → IsProper s
      → All (λ r. value_of r ≡ combined value combine unit (done r)) rs
      → fold (λ a r. combine a (value_of r)) s rs ≡ combined value combine s (flat_map done rs)
  joined_values done value_of [] s p h = refl
  joined_values done value_of (r ∷ rs) s p h =
      let e : combine s (value_of r) ≡ combined value combine s (done r) =
      ap (combine s) (h 0 r (omega arith)) ∙ combined_after laws value proper (done r) s p in
      ap (λ a. fold (λ a r. combine a (value_of r)) a rs) e
      ∙ joined_values done value_of rs (combined value combine s (done r))
      (combined_proper laws value proper (done r) s p) (λ k d l. h (suc k) d (omega arith))
      ∙ sym (combined-append (λ x. []) value combine (done r) (flat_map done rs) s)

  module _ (children : X → List X) (degrees : List ℕ) (awake : List Bool) (limit : ℕ)
      (roots : List X) (rs : List (Record X)) (live items stop : ℕ)
      (C : Closes children degrees awake limit roots rs live items stop) where
    -- nobody ran out of memory and the limit holds: then live is 0
    pub closed_live : All HasLeft rs → stop ≢ 2 → items ≤ limit → live ≡ 0
    closed_live gone n h =
        ⊎_elim (λ e. e)
        (λ d. absurd (
        let one : stop ≢ 1 = λ e. omega (arith, C.cause e) in
        let c = C.codes in
        omega arith))
        (C.ended gone)

    pub closed_ok : All HasLeft rs → stop ≢ 2 → items ≤ limit → (v : V)
        → v ≡ combined value combine unit (flat_map done_of rs)
        → IsOutcome children value unit combine roots limit (record { items = items; value = v })
        × IsBalanced (map counters_in rs) items degrees awake
    closed_ok gone n h v e =
        let z = closed_live gone n h in
        let q = C.quiet z in
        let x : Expansion children roots (flat_map done_of rs) [] =
        subst (λ l. Expansion children roots (flat_map done_of rs) (l ++ [])) q.0
        (subst (λ l. Expansion children roots (flat_map done_of rs) (flat_map bag_of rs ++ l))
        q.1 C.expansion) in
        let k : length (flat_map done_of rs) ≤ limit = omega (arith, C.count) in
        let small = ended_small children roots (flat_map done_of rs) x in
        let same = nodes_same children roots (length (flat_map done_of rs)) limit k small in
        let s = ended_nodes children roots (flat_map done_of rs) x in (
          record {
            small = small_more children roots (length (flat_map done_of rs)) limit k small;
            items = omega (arith, C.count, length_permutation _ _ s, ap length same);
            value_is = e ∙ sym (combined_permutation laws value proper _ _ s unit laws.unit_proper)
                ∙ ap (combined value combine unit) (sym same);
          },
          C.balanced z,
        )

    pub closed_too_many : limit < items → IsSmall children roots limit → ⊥
    closed_too_many h small =
        omega (
          arith,
          never_more children roots (flat_map done_of rs) (flat_map bag_of rs ++ C.way)
              limit C.expansion
              small,
          C.count,
        )
