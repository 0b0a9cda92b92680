-- What a run over cells begins with, and how it closes.
use Rattle.std.specs.Prelude.{◌≡◌, ℕ, ◌<◌, List, length, get_or}
use Rattle.glb_cube.specs.Lines.{Cube}
use Rattle.glb_stats.specs.declared.counters.Counters.{Counters}
use Rattle.glb_rules.specs.declared.params.Params.{Params}
use Rattle.glb_core.specs.Lifelines.{setup_for}
use Rattle.glb_cells.specs.Berths.{BerthView, CellsView, IsFirstBerth}
use Rattle.glb_cells.specs.Ends.{IsLastOf}
use Rattle.glb_run.specs.inner.Plays.{IsClosed}

-- the cells were made with these, and the berths are those of their places at the start
pub record AreFirstBerths {Q I : Type 0} (c : CellsView Q I) (program : Q) (params : Params)
    (lines : Cube) (bags : List (List I)) (bs : List (BerthView Q I)) : Type 0 where
  pub made : c ≡ record {
    object = c.object;
    program = program;
    params = params;
    lines = lines;
    bags = bags;
  }
  pub many : length bs ≡ lines.places
  pub each : (p : ℕ) (d : BerthView Q I) → p < length bs → IsFirstBerth c p (get_or bs p d)

-- the run has closed, and its words and records are those of the last world of a history that
-- begins with its bags
pub record IsClosedHistory {I V : Type 0} (children : I → List I) (value : I → V)
    (combine : V → V → V) (unit : V) (q : Params) (roots : ℕ → List I) (items stop : ℕ) (total : V)
    (counters : List Counters)
    : Type 0 where
  pub closed : IsClosed children value combine unit q roots items stop total counters
  pub ends : IsLastOf children (setup_for closed.cube q closed.bags) closed.bags closed.live items
      stop closed.records
