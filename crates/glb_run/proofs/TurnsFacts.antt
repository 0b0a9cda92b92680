-- What runs of lists of roots tell of the order that starts with them.
use Rattle.std.proofs.Common.{◌≡◌, ℕ, zero, suc, ◌≤◌, List, [], ◌∷◌, ◌++◌, length, refl, sym, ap}
use Rattle.std.proofs.Common.{◌∙◌, subst, arith}
use Rattle.std.proofs.lemmas.List.FromFn.{length-map-range_with_len}
use Rattle.std.specs.Prelude.{All, Bool, nat_lt, IsPermutation}
use Rattle.glb_tree.specs.Runs.{IsOutcome, IsTooMany, HasCause, PassesByAtMost}
use Rattle.glb_tree.specs.declared.run.RunFault.{RunFault}
use Rattle.glb_tree.specs.declared.run.RunFault.TheVariants as run_fault
use Rattle.glb_stats.specs.Balances.{HasSmallUnits}
use Rattle.glb_stats.specs.declared.counters.Counters.{Counters}
use Rattle.glb_rules.specs.Joins.{join_to}
use Rattle.glb_rules.specs.Schedules.{ScheduledRun}
use Rattle.glb_rules.specs.History.{start}
use Rattle.glb_core.specs.Lifelines.{setup_for}
use Rattle.glb_turns.specs.ScheduledRuns.{first_numbers, IsTurnsReport}
use Rattle.glb_words.specs.declared.settings.Driver.TheVariants as driver
use Rattle.glb_run.specs.Roots.{roots_of, all_roots, numbers_of, numbers_by}
use Rattle.glb_run.specs.Runs.{lone_counters, rounds, AreCounters, AreLoneCounters}
use Rattle.glb_run.specs.Runs.{PassesByBatch, IsRun}
use Rattle.glb_run.specs.inner.Stops.{StopsRun}
use Rattle.glb_run.specs.inner.Answers.{IsAnswer}
use Rattle.glb_run.specs.declared.order.Order.{Order}
use Rattle.glb_run.proofs.RootFacts.{joined_alike, starts_by_roots, lone_told, lone_small}

-- the same numbers make the same list
same_numbers : (will numbers : ℕ → ℕ) → ((k : ℕ) → will k ≡ numbers k) → (n : ℕ)
    → first_numbers will n ≡ first_numbers numbers n
same_numbers will numbers is zero = refl
same_numbers will numbers is (suc n) =
    ap (λ l. l ++ will n ∷ []) (same_numbers will numbers is n)
    ∙ ap (λ k. first_numbers numbers n ++ k ∷ []) (is n)

module _ {I V : Type 0} (children : I → List I) (value : I → V) (combine : V → V → V) (unit : V)
    (root : I) (order : Order) where
  -- a run in one bag of the roots of all places is that of the order
  run_alone : (roots : List I) (items : ℕ) (answer : V) (counters : List Counters)
      → roots ≡ all_roots children order root → order.driver ≡ driver.One
      → IsOutcome children value unit combine roots order.params.limit
      (record { items = items; value = answer })
      → AreLoneCounters roots items counters
      → IsRun children value combine unit root order items answer counters
  run_alone roots items answer counters all one outcome counted = record {
    outcome = subst
        (λ l. IsOutcome children value unit combine l order.params.limit
        (record { items = items; value = answer }))
        all outcome;
    counted = subst
        (λ d. AreCounters children value combine unit (roots_of children order root) order.params d
        order.fabric items answer counters)
        (sym one) (subst (λ l. AreLoneCounters l items counters) all counted);
  }

  -- and an answer of it
  pub one_answer : (roots : List I) (items : ℕ) (answer : V) (counters : List Counters)
      (numbers : List ℕ) (awake : Bool) → roots ≡ all_roots children order root
      → order.driver ≡ driver.One
      → IsOutcome children value unit combine roots order.params.limit
      (record { items = items; value = answer })
      → awake ≡ nat_lt 0 (length roots) → counters ≡ lone_counters awake items ∷ []
      → numbers ≡ length roots ∷ []
      → IsAnswer children value combine unit root order items answer counters numbers
  one_answer roots items answer counters numbers awake all one outcome has told given = record {
    run = run_alone roots items answer counters all one outcome
        (subst (AreLoneCounters roots items) (sym told) (lone_told roots awake items has));
    roots_are = subst
        (λ d. numbers ≡ numbers_by d order.params.places (roots_of children order root)) (sym one)
        (given ∙ ap (λ (l : List I). length l ∷ []) all);
    many = ap length given ∙ sym (ap length told);
    few = omega (arith, ap length told);
    units = subst (All HasSmallUnits) (sym told) (lone_small awake items);
  }

  -- why such a run ended early
  pub stops_one : (roots : List I) → roots ≡ all_roots children order root
      → order.driver ≡ driver.One → (fault : RunFault)
      → HasCause children roots order.params.limit fault
      → PassesByAtMost order.params.batch order.params.limit fault
      → StopsRun children root order fault
  stops_one roots all one (run_fault.TooMany items) cause last = record {
    many = subst (λ l. IsTooMany children l order.params.limit items) all cause;
    last_batch = subst (λ d. PassesByBatch d order.params items) (sym one) last;
  }
  stops_one roots all one run_fault.NoMemory cause last = tt

  module _ (lists : ℕ → List I)
      (lists_are : (p : ℕ) → lists p ≡ roots_of children order root p) where
    -- the lists are the roots of the order
    pub same_roots : join_to order.params.places lists ≡ all_roots children order root
    same_roots = joined_alike order.params.places order.params.places lists
        (roots_of children order root) refl lists_are

    -- why a run of such lists by turns ended early
    pub stops_turns : order.driver ≡ driver.Turns → (fault : RunFault)
        → HasCause children (join_to order.params.places lists) order.params.limit fault
        → PassesByAtMost order.params.batch order.params.limit fault
        → StopsRun children root order fault
    stops_turns turns (run_fault.TooMany items) cause last = record {
      many = subst (λ roots. IsTooMany children roots order.params.limit items) same_roots cause;
      last_batch = subst (λ d. PassesByBatch d order.params items) (sym turns) last;
    }
    stops_turns turns run_fault.NoMemory cause last = tt

    module _ (will : ℕ → ℕ) (will_is : (k : ℕ) → will k ≡ rounds k)
        (items : ℕ) (answer : V) (counters : List Counters)
        (r : IsTurnsReport children value combine unit order.params lists will items answer
        counters) where
      -- the report is that of the order's roots, and of the rounds
      report_first : IsTurnsReport children value combine unit order.params
          (roots_of children order root) rounds items answer counters
      report_first =
          let s = setup_for r.cube order.params r.bags in
          record {
            cube = r.cube;
            graph = r.graph;
            bags = r.bags;
            same = λ p l. subst (λ l. IsPermutation l (r.bags p)) (lists_are p) (r.same p l);
            ends = record {
              turns = r.ends.turns;
              history = r.ends.history;
              run = subst
                  (λ numbers. ScheduledRun children s order.params.seed (start s r.bags) numbers
                  r.ends.history.events r.ends.history.last)
                  (same_numbers will rounds will_is r.ends.turns) r.ends.run;
            };
            report = record {
              outcome = subst
                  (λ roots. IsOutcome children value unit combine roots order.params.limit
                  (record { items = items; value = answer }))
                  same_roots r.report.outcome;
              many = r.report.many;
              small = r.report.small;
              balance = r.report.balance;
              asks = r.report.asks;
              line_asks = r.report.line_asks;
            };
          }

      -- the run of such lists by turns is that of the order
      run_first : order.driver ≡ driver.Turns
          → IsRun children value combine unit root order items answer counters
      unfolding report_first
      run_first turns = record {
        outcome = report_first.report.outcome;
        counted = subst
            (λ d. AreCounters children value combine unit (roots_of children order root)
            order.params d order.fabric items answer counters)
            (sym turns) (record {
              turns = report_first;
              starts = starts_by_roots r.cube order.params (roots_of children order root) r.bags
                  r.graph.places report_first.same;
            });
      }

      -- and an answer of it
      pub turns_answer : (roots : List ℕ)
          → roots ≡ numbers_of order.params.places (roots_of children order root)
          → order.driver ≡ driver.Turns → order.params.places ≤ 64
          → IsAnswer children value combine unit root order items answer counters roots
      turns_answer roots roots_are turns few = record {
        run = run_first turns;
        roots_are = subst
            (λ d. roots ≡ numbers_by d order.params.places (roots_of children order root))
            (sym turns) roots_are;
        many = ap length roots_are
            ∙ length-map-range_with_len (λ p. length (roots_of children order root p)) 0
            order.params.places
            ∙ sym r.report.many;
        few = omega (arith, few, r.report.many);
        units = r.report.small;
      }
