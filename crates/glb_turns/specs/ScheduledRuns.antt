-- What a run by turns reports: the end of the run of its schedule.
use Rattle.std.specs.Prelude.{ℕ, zero, suc, ◌<◌, List, [], ◌∷◌, ◌++◌, IsPermutation}
use Rattle.glb_stats.specs.declared.counters.Counters.{Counters}
use Rattle.glb_cube.specs.Lines.{Cube}
use Rattle.glb_rules.specs.World.{Setup}
use Rattle.glb_rules.specs.History.{start}
use Rattle.glb_rules.specs.Schedules.{ScheduledRun}
use Rattle.glb_rules.specs.declared.params.Params.{Params}
use Rattle.glb_core.specs.Lifelines.{IsGraphOf, setup_for}
use Rattle.glb_core.specs.Reports.{EndsHistory, IsPlacesReport}

-- the first numbers of a schedule
abbrev pub first_numbers : (ℕ → ℕ) → ℕ → List ℕ
first_numbers will zero = []
first_numbers will (suc n) = first_numbers will n ++ will n ∷ []

-- the items, the answer and the counters are those at the end of the run of a schedule's numbers,
-- which begins with the bags and ends in the first world in which every place is Gone
pub record EndsSchedule {I V : Type 0} (children : I → List I) (value : I → V) (combine : V → V → V)
    (unit : V) (s : Setup) (seed : ℕ) (bags : ℕ → List I) (will : ℕ → ℕ)
    (items : ℕ) (answer : V) (counters : List Counters) : Type 0 where
  pub turns : ℕ
  pub history : EndsHistory children value combine unit s bags items answer counters
  pub run : ScheduledRun children s seed (start s bags)
      (first_numbers will turns) history.events history.last

-- what a run by turns reports: what every run over places reports, as it stands at the end of the
-- run of the schedule
pub record IsTurnsReport {I V : Type 0} (children : I → List I) (value : I → V) (combine : V → V
    → V)
    (unit : V) (q : Params) (roots : ℕ → List I) (will : ℕ → ℕ)
    (items : ℕ) (answer : V) (counters : List Counters) : Type 0 where
  pub cube : Cube
  pub graph : IsGraphOf cube q
  pub bags : ℕ → List I
  pub same : (p : ℕ) → p < q.places → IsPermutation (roots p) (bags p)
  pub ends : EndsSchedule children value combine unit (setup_for cube q bags) q.seed bags will
      items answer counters
  pub report : IsPlacesReport children value combine unit q roots (setup_for cube q bags)
      items answer counters
