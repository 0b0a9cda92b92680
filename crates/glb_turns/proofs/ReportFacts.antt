-- What the report of a play to the end tells.
use Rattle.std.proofs.Common.{◌≡◌, ℕ, zero, suc, ◌<◌, ◌≤◌, List, [], ◌++◌}
use Rattle.std.proofs.Common.{get_or, refl, sym, ap, subst, ◌∙◌, arith}
use Rattle.std.specs.List.Sorted.{IsPermutation}
use Rattle.glb_laws.specs.Monoid.{MonoidLaws}
use Rattle.glb_laws.specs.Expansion.{Expansion, combined}
use Rattle.glb_laws.proofs.Expansions.{moves_before}
use Rattle.glb_tree.specs.Runs.{HasCause}
use Rattle.glb_tree.specs.declared.run.RunFault.{RunFault}
use Rattle.glb_tree.specs.declared.run.RunFault.TheVariants as fault
use Rattle.glb_tree.proofs.Sizes.{never_more}
use Rattle.glb_stats.specs.declared.counters.Counters.{Counters}
use Rattle.glb_rules.specs.World.{Setup, World}
use Rattle.glb_rules.specs.History.{start}
use Rattle.glb_rules.specs.Joins.{join_to}
use Rattle.glb_core.specs.Counters.{all_counters}
use Rattle.glb_core.specs.Tables.{WorldView}
use Rattle.glb_core.specs.Standing.{StartsAt}
use Rattle.glb_rules.proofs.CallerLemmas.{run_stop, run_lawful_from, sum_zero}
use Rattle.glb_rules.specs.declared.params.Params.{Params}
use Rattle.glb_rules.specs.Lawful.{IsLawful}
use Rattle.glb_core.specs.Lifelines.{IsGraphOf, setup_for}
use Rattle.glb_core.proofs.CallerLemmas.{places_report}
use Rattle.glb_turns.specs.ScheduledRuns.{EndsSchedule, IsTurnsReport}
use Rattle.glb_turns.specs.inner.Turns.{Begins, PlaysToEnd}
use Rattle.glb_turns.proofs.PlayFacts.{history, no_halt}

-- the cause of a fault is one for the same roots in another order
pub cause_moved : {I : Type 0} (children : I → List I) (a b : List I) (limit : ℕ) (e : RunFault)
    → IsPermutation b a
    → HasCause children a limit e → HasCause children b limit e
cause_moved children a b limit fault.NoMemory s h = tt
cause_moved children a b limit (fault.TooMany items) s h =
    let x : Expansion children a h.expanded.0 h.expanded.1 = h.expanded.2 in
    let moved : Expansion children b h.expanded.0 h.expanded.1 =
    record {
      taken = x.taken;
      order = x.order;
      moves = moves_before children b a x.taken h.expanded.1 s
          x.moves;
    }
    in
    record {
      above = h.above;
      large = λ small. let a = never_more children b h.expanded.0 h.expanded.1 limit moved small in let
          n = h.expanded.3 in let m = h.above in omega arith;
      expanded = (h.expanded.0, h.expanded.1, moved, h.expanded.3);
    }

-- where nothing is done, nothing is combined
join_none : {I : Type 0} (n : ℕ) (f : ℕ → List I) → ((p : ℕ) → p < n → f p ≡ []) → join_to n f ≡ []
join_none zero f h = refl
join_none (suc n) f h =
    ap (λ l. l ++ f n) (join_none n f (λ p l. h p (omega arith))) ∙ h n (omega arith)

-- tables that stand for the start of the bags begin with them
pub starts_begin : {B I V : Type 0} (items : B → List I) (value : I → V) (combine : V → V
    → V) (unit : V)
    (x : WorldView B V) (q : Params) (lists : List (List I)) → StartsAt items unit q lists x
    → Begins items value combine unit x (λ p. get_or lists p [])
starts_begin {I = I} items value combine unit x q lists h =
    let none : join_to {I = I} x.cube.places (λ p. []) ≡ [] =
    join_none x.cube.places (λ p. []) (λ p l. refl) in
    record { stands = h.2; fold = h.1 ∙ ap (combined value combine unit) (sym none) }

-- at the start nothing is done
pub begins_none : {B I V : Type 0} (items : B → List I) (value : I → V) (combine : V → V
    → V) (unit : V)
    (x : WorldView B V)
    (bags : ℕ → List I) → Begins items value combine unit x bags → x.total ≡ 0
begins_none items value combine unit x bags G =
    G.stands.total ∙ sum_zero x.cube.places (λ p. 0) (λ p l. refl)

module _ {B I V : Type 0} (items : B → List I) (children : I → List I) (value : I → V)
    {IsProperValue : V → Type 0} {combine : V → V → V} {unit : V}
    (laws : MonoidLaws IsProperValue unit combine) (proper : (x : I) → IsProperValue (value x))
    (first : WorldView B V) (bags : ℕ → List I) (will : ℕ → ℕ)
    (G : Begins items value combine unit first bags)
    (x : WorldView B V) (e : PlaysToEnd items children value combine unit first bags will x) where
  abbrev s : Setup
  s = setup_for first.cube first.params bags

  abbrev w : World I
  w = e.plays.world

  halted_not : w.stop ≡ 0
  halted_not = run_stop children s (start s bags) e.plays.events w
      (no_halt items children value combine unit first bags will G e.turns x e.plays)
      (history items children value combine unit first bags will G e.turns x e.plays)

  lawful : IsLawful s w
  lawful = (run_lawful_from children s bags G.stands.proper (λ q l. refl) e.plays.events w
      (history items children value combine unit first bags will G e.turns x e.plays)).0

  -- the report is that of the end of the schedule's run
  report_ends : EndsSchedule children value combine unit s first.params.seed bags will x.total
      x.value (all_counters s w)
  report_ends = record {
    turns = e.turns;
    history = record {
      events = e.plays.events;
      last = w;
      run = history items children value combine unit first bags will G e.turns x e.plays;
      all_gone = e.all_gone;
      finished = lawful.gone 0 G.stands.proper.some (e.all_gone 0 G.stands.proper.some) halted_not;
      items_done = e.plays.stands.total;
      answer_done = e.plays.fold;
      counted = refl;
    };
    run = e.plays.run;
  }

  -- all of it, where the report has what the tables tell
  report_told : (roots : ℕ → List I) → ((p : ℕ) → IsPermutation (roots p) (bags p))
      → x.total ≤ first.params.limit
      → IsTurnsReport children value combine unit first.params roots will x.total x.value
      (all_counters s w)
  report_told roots same within =
      let graph : IsGraphOf first.cube first.params = record
      { cube = G.stands.shows.cube; places = G.stands.shows.places; base = G.stands.shows.base } in
      record {
        cube = first.cube;
        graph = graph;
        bags = bags;
        same = λ p l. same p;
        ends = report_ends;
        report = places_report children value laws proper first.cube first.params roots bags
            G.stands.shows.limits graph same x.total x.value (all_counters s w) report_ends.history within;
      }

  pub report_of : (q : Params) (roots : ℕ → List I) (n : ℕ) (v : V) (counters : List Counters)
      → first.params ≡ q
      → ((p : ℕ) → IsPermutation (roots p) (bags p)) → x.total ≤ q.limit
      → n ≡ x.total → v ≡ x.value → counters ≡ all_counters s w
      → IsTurnsReport children value combine unit q roots will n v counters
  report_of q roots n v counters e same within i j k =
      let limited : x.total ≤ first.params.limit =
      subst (λ (r : Params). x.total ≤ r.limit) (sym e) within
      in
      subst (λ r. IsTurnsReport children value combine unit r roots will n v counters) e
      (subst (λ m. IsTurnsReport children value combine unit first.params roots will m v counters)
      (sym i)
      (subst (λ u. IsTurnsReport children value combine unit first.params roots will x.total u counters)
      (sym j)
      (subst (IsTurnsReport children value combine unit first.params roots will x.total x.value) (sym k)
      (report_told roots same limited))))
