-- What runs over places tell of the tree of the one root that they begin with.
use Rattle.std.proofs.Common.{◌≡◌, ℕ, zero, suc, ◌≤◌, List, [], ◌∷◌, ◌++◌, ap, ◌∙◌, subst, arith}
use Rattle.std.proofs.Common.{Result}
use Rattle.std.specs.Prelude.{IfErr}
use Rattle.glb_tree.specs.Runs.{IsOutcome, HasCause}
use Rattle.glb_tree.specs.declared.run.RunFault.{RunFault}
use Rattle.glb_stats.specs.declared.counters.Counters.{Counters}
use Rattle.glb_rules.specs.Joins.{join_to}
use Rattle.glb_rules.specs.World.{Setup}
use Rattle.glb_rules.specs.declared.params.Params.{Params}
use Rattle.glb_core.specs.Reports.{IsPlacesReport}
use Rattle.glb_words.specs.declared.settings.FabricKind.{FabricKind}
use Rattle.glb_words.specs.declared.settings.FabricKind.TheVariants as fabric
use Rattle.glb_run.specs.ThreadedRuns.{IsPlayed, IsThreadsReport}
use Rattle.glb_uses.specs.inner.Starts.{at_first}

-- the roots of all places are the root
pub join_first : {I : Type 0} (root : I) (lists : ℕ → List I)
    → ((p : ℕ) → lists p ≡ at_first root p)
    → (places : ℕ) → 1 ≤ places → join_to places lists ≡ root ∷ []
join_first root lists is zero some = absurd (omega (arith, some))
join_first root lists is (suc zero) some = ap (λ l. [] ++ l) (is 0)
join_first root lists is (suc (suc n)) some =
    ap (λ l. l ++ lists (suc n)) (join_first root lists is (suc n) (omega arith))
    ∙ ap (λ l. (root ∷ []) ++ l) (is (suc n))

module _ {I V : Type 0} (children : I → List I) (value : I → V) (combine : V → V → V) (unit : V)
    (root : I) (q : Params) (some : 1 ≤ q.places) (lists : ℕ → List I)
    (is : (p : ℕ) → lists p ≡ at_first root p) where
  -- what every run over places reports of its roots is told of the root
  pub outcome_of_root : (s : Setup) (items : ℕ) (answer : V) (counters : List Counters)
      → IsPlacesReport children value combine unit q lists s items answer counters
      → IsOutcome children value unit combine (root ∷ []) q.limit
      (record { items = items; value = answer })
  outcome_of_root s items answer counters report =
      subst
      (λ roots. IsOutcome children value unit combine roots q.limit
      (record { items = items; value = answer }))
      (join_first root lists is q.places some) report.outcome

  -- over every fabric what every run on threads reports
  threads_report : (f : FabricKind) (items : ℕ) (answer : V) (counters : List Counters)
      → IsPlayed f children value combine unit q lists items answer counters
      → IsThreadsReport children value combine unit q lists items answer counters
  threads_report fabric.Inbox items answer counters r = r
  threads_report fabric.Cells items answer counters r = r.threads

  -- the same of a run on threads
  pub outcome_on_threads : (f : FabricKind) (items : ℕ) (answer : V) (counters : List Counters)
      → IsPlayed f children value combine unit q lists items answer counters
      → IsOutcome children value unit combine (root ∷ []) q.limit
      (record { items = items; value = answer })
  outcome_on_threads f items answer counters r =
      outcome_of_root _ items answer counters (threads_report f items answer counters r).report

  -- the cause of a fault is told of the root
  pub fault_of_root : {T : Type 0} (result : Result T RunFault)
      → IfErr result (HasCause children (join_to q.places lists) q.limit)
      → IfErr result (HasCause children (root ∷ []) q.limit)
  fault_of_root result cause =
      subst (λ roots. IfErr result (HasCause children roots q.limit))
      (join_first root lists is q.places some) cause
