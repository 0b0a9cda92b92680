-- What a run on threads of lists of roots tells of the order that starts with them.
use Rattle.std.proofs.Common.{◌≡◌, ℕ, ◌≤◌, List, [], ◌∷◌, length, refl, sym, ap, ◌∙◌, subst, map, arith}
use Rattle.std.specs.Prelude.{IsPermutation}
use Rattle.std.specs.List.{range_with_len}
use Rattle.std.proofs.lemmas.List.FromFn.{length-map-range_with_len}
use Rattle.std.proofs.lemmas.List.Sorted.{IsPermutation-refl}
use Rattle.glb_tree.specs.Runs.{IsOutcome, IsTooMany, HasCause}
use Rattle.glb_tree.specs.declared.run.RunFault.{RunFault}
use Rattle.glb_tree.specs.declared.run.RunFault.TheVariants as run_fault
use Rattle.glb_stats.specs.Balances.{IsBalanced}
use Rattle.glb_stats.specs.declared.counters.Counters.{Counters}
use Rattle.glb_cube.specs.Lines.{Cube}
use Rattle.glb_rules.specs.Joins.{join_to}
use Rattle.glb_rules.specs.World.{has_line}
use Rattle.glb_rules.specs.Setups.{has_items}
use Rattle.glb_rules.specs.declared.params.Params.{Params}
use Rattle.glb_core.specs.Lifelines.{setup_for}
use Rattle.glb_core.specs.Counters.{all_degrees, all_awake}
use Rattle.glb_words.specs.declared.settings.Driver.TheVariants as driver
use Rattle.glb_words.specs.declared.settings.FabricKind.{FabricKind}
use Rattle.glb_words.specs.declared.settings.FabricKind.TheVariants as fabric
use Rattle.glb_run.specs.ThreadedRuns.{IsPlayed, IsThreadsReport}
use Rattle.glb_run.specs.Roots.{roots_of, all_roots, numbers_of, numbers_by}
use Rattle.glb_run.specs.Runs.{AreCounters, PassesByBatch}
use Rattle.glb_run.specs.inner.Stops.{StopsRun}
use Rattle.glb_run.specs.inner.Answers.{IsAnswer}
use Rattle.glb_run.specs.declared.order.Order.{Order}
use Rattle.glb_run.proofs.RootFacts.{starts_by_roots}
use Rattle.glb_run.proofs.TurnsFacts.{same_roots}

-- functions that agree give the same list
map_same : {A B : Type 0} (f g : A → B) → ((x : A) → f x ≡ g x) → (xs : List A)
    → map f xs ≡ map g xs
map_same f g h [] = refl
map_same f g h (x ∷ xs) = ap (λ y. y ∷ map f xs) (h x) ∙ ap (λ ys. g x ∷ ys) (map_same f g h xs)

-- over every fabric a run reports what every run on threads reports
pub every_report : {I V : Type 0} {children : I → List I} {value : I → V} {combine : V → V → V}
    {unit : V} {q : Params} {roots : ℕ → List I} {items : ℕ} {answer : V} {counters : List Counters}
    (f : FabricKind)
    → IsPlayed f children value combine unit q roots items answer counters
    → IsThreadsReport children value combine unit q roots items answer counters
every_report fabric.Inbox r = r
every_report fabric.Cells r = r.threads

module _ {I V : Type 0} (children : I → List I) (value : I → V) (combine : V → V → V) (unit : V)
    (root : I) (order : Order) (lists : ℕ → List I)
    (lists_are : (p : ℕ) → lists p ≡ roots_of children order root p)
    (threads : order.driver ≡ driver.Threads)
  where
    -- the lists are the roots of the order
    roots_same : join_to order.params.places lists ≡ all_roots children order root
    roots_same = same_roots children value combine unit root order lists lists_are

    -- why a run of such lists on threads ended early
    pub stops_fault : (fault : RunFault)
        → HasCause children (join_to order.params.places lists) order.params.limit fault
        → StopsRun children root order fault
    stops_fault (run_fault.TooMany items) cause = record {
      many = subst (λ roots. IsTooMany children roots order.params.limit items) roots_same cause;
      last_batch = subst (λ d. PassesByBatch d order.params items) (sym threads) tt;
    }
    stops_fault run_fault.NoMemory cause = tt

    -- the same places were awake at the start
    awake_same : (c : Cube)
        → all_awake (setup_for c order.params lists)
        ≡ all_awake (setup_for c order.params (roots_of children order root))
    awake_same c =
        map_same (λ p. has_items (lists p)) (λ p. has_items (roots_of children order root p))
        (λ p. ap has_items (lists_are p)) (range_with_len 0 c.places)

    module _ (items : ℕ) (answer : V) (counters : List Counters)
        (r : IsThreadsReport children value combine unit order.params lists items answer counters)
      where
        -- the report is that of the order's roots
        report_first : IsThreadsReport children value combine unit order.params
            (roots_of children order root) items answer counters
        unfolding has_line
        report_first = record {
          cube = r.cube;
          graph = r.graph;
          report = record {
            outcome = subst
                (λ roots. IsOutcome children value unit combine roots order.params.limit
                (record { items = items; value = answer }))
                roots_same r.report.outcome;
            many = r.report.many;
            small = r.report.small;
            balance = subst
                (IsBalanced counters items (all_degrees (setup_for r.cube order.params lists)))
                (awake_same r.cube) r.report.balance;
            asks = r.report.asks;
            line_asks = r.report.line_asks;
          };
          small = r.small;
          starts = starts_by_roots r.cube order.params (roots_of children order root)
              (roots_of children order root) r.graph.places (λ p low. IsPermutation-refl _);
        }

    -- what a run of such lists reports is told of the order's roots, by the fabric
    played_first : (items : ℕ) (answer : V) (counters : List Counters) (f : FabricKind)
        → IsPlayed f children value combine unit order.params lists items answer counters
        → IsPlayed f children value combine unit order.params (roots_of children order root) items
        answer counters
    played_first items answer counters fabric.Inbox r = report_first items answer counters r
    played_first items answer counters fabric.Cells r = record {
      cube = r.cube;
      graph = r.graph;
      bags = r.bags;
      same = λ p l. subst (λ l. IsPermutation l (r.bags p)) (lists_are p) (r.same p l);
      history = r.history;
      threads = report_first items answer counters r.threads;
    }

    -- the run of such lists on threads is that of the order
    pub threads_answer : (items : ℕ) (answer : V) (counters : List Counters) (roots : List ℕ)
        → IsPlayed order.fabric children value combine unit order.params lists items answer counters
        → roots ≡ numbers_of order.params.places (roots_of children order root)
        → order.params.places ≤ 64
        → IsAnswer children value combine unit root order items answer counters roots
    threads_answer items answer counters roots r roots_are few =
        let first = played_first items answer counters order.fabric r in
        let told = every_report order.fabric first in
        record {
          run = record {
            outcome = told.report.outcome;
            counted = subst
                (λ d. AreCounters children value combine unit (roots_of children order root)
                order.params d order.fabric items answer counters)
                (sym threads) first;
          };
          roots_are = subst
              (λ d. roots ≡ numbers_by d order.params.places (roots_of children order root))
              (sym threads) roots_are;
          many = ap length roots_are
              ∙ length-map-range_with_len (λ p. length (roots_of children order root p)) 0
              order.params.places
              ∙ sym told.report.many;
          few = omega (arith, few, told.report.many);
          units = told.report.small;
        }
