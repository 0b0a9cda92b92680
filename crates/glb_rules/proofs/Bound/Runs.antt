-- How long runs without Halt can be.
use Rattle.std.proofs.Common.{◌≡◌, ◌≢◌, ℕ, zero, suc, ◌+◌, ◌*◌, ◌<◌, ◌≤◌, ◌⊎◌, List, [], ◌∷◌, ◌++◌}
use Rattle.std.proofs.Common.{length, refl, ◌∙◌, inl, inr, ⊎_elim, arith, length-append}
use Rattle.std.proofs.Math.Nat.{mul-le-mul_right}
use Rattle.glb_laws.specs.Sums.{sum_to}
use Rattle.glb_rules.specs.Joins.{join_to}
use Rattle.glb_rules.specs.World.{Setup, World}
use Rattle.glb_rules.specs.Setups.{IsProper}
use Rattle.glb_rules.specs.Lawful.{IsLawful, IsLawfulFrom, sum_of_places, all_done}
use Rattle.glb_rules.specs.History.{start, Run, NoHalt, AwakeBy}
use Rattle.glb_rules.specs.Bound.{bound}
use Rattle.glb_rules.proofs.Invariant.Start.{start_lawful}
use Rattle.glb_rules.proofs.Invariant.Steps.{run_keeps}
use Rattle.glb_rules.proofs.Expansion.Kept.{start_expands, run_expands}
use Rattle.glb_rules.proofs.Bound.Rises.{rank_le, run_rises}
use Rattle.glb_rules.specs.declared.event.Event.{Event}

-- all items done, counted
pub done_count : {I : Type 0} (s : Setup) (w : World I) → IsLawful s w
    → length (all_done s w) ≡ sum_of_places s w (λ a. a.count.items)
done_count {I} s w L = go s.places (λ p l. (L.inner p l).items)
  where
    go : (n : ℕ) → ((p : ℕ) → p < n → (w.place p).count.items ≡ length (w.place p).done)
        → length (join_to n (λ p. (w.place p).done)) ≡ sum_to n (λ p. (w.place p).count.items)
    go zero h = refl
    go (suc n) h = let a = go n (λ p l. h p (omega arith)) in let b = h n (omega arith) in
        let c = length-append (join_to n (λ p. (w.place p).done)) (w.place n).done in omega arith

module _ {I : Type 0} (children : I → List I) (s : Setup) (bags : ℕ → List I) (P : IsProper s)
    (A : AwakeBy s bags) where
  pub run_lawful : (es : List Event) (w : World I) → Run children s (start s bags) es w
      → IsLawful s w
  run_lawful es w r = run_keeps children s (start s bags) es w P (start_lawful s bags A) r

  pub run_lawful_from : (es : List Event) (w : World I) → Run children s (start s bags) es w
      → IsLawfulFrom children (join_to s.places bags) s w
  run_lawful_from es w r = (
    run_lawful es w r,
    run_expands children (join_to s.places bags) s (start s bags) es w r (start_expands children s bags),
  )

  pub run_bounded : (es : List Event) (w : World I) → NoHalt es → Run children s (start s bags) es w
      → length es ≤ bound s (sum_of_places s w (λ a. a.count.items))
  run_bounded es w n r =
      let L = run_lawful es w r in
      let a = rank_le s w P L P.some in
      let b = run_rises children s (start s bags) es w P (start_lawful s bags A) n r in
      omega arith
