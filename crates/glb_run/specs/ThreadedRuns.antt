-- What a run on threads reports.
use Rattle.std.specs.Prelude.{ℕ, ◌^◌, ◌<◌, List, All, IsPermutation}
use Rattle.glb_stats.specs.Balances.{HasSmallUnits, StartsByRoots}
use Rattle.glb_stats.specs.declared.counters.Counters.{Counters}
use Rattle.glb_cube.specs.Lines.{Cube}
use Rattle.glb_rules.specs.declared.params.Params.{Params}
use Rattle.glb_core.specs.Counters.{all_awake}
use Rattle.glb_core.specs.Lifelines.{IsGraphOf, setup_for}
use Rattle.glb_core.specs.Reports.{EndsHistory, IsPlacesReport}
use Rattle.glb_words.specs.declared.settings.FabricKind.{FabricKind}
use Rattle.glb_words.specs.declared.settings.FabricKind.TheVariants as fabric
use Rattle.glb_run.specs.Roots.{numbers_of}

-- the counters of a place are far from the last values of their types
pub record HasSmallCounters (c : Counters) : Type 0 where
  pub items : c.items < 2 ^ 57
  pub asks : c.asks < 2 ^ 57
  pub shrugs : c.shrugs < 2 ^ 57
  pub denied : c.denied < 2 ^ 57
  pub given : c.given < 2 ^ 57
  pub got : c.got < 2 ^ 57
  pub line_asks : c.line_asks < 2 ^ 57
  pub line_given : c.line_given < 2 ^ 57
  pub line_got : c.line_got < 2 ^ 57
  pub sleeps : c.sleeps < 2 ^ 57
  pub wakes : c.wakes < 2 ^ 57
  -- the units sent and got, below 2^121
  pub units : HasSmallUnits c

-- what every run over places reports, for places that begin with these roots, and small counters
pub record IsThreadsReport {I V : Type 0} (children : I → List I) (value : I → V)
    (combine : V → V → V) (unit : V) (q : Params) (roots : ℕ → List I) (items : ℕ) (answer : V)
    (counters : List Counters) : Type 0 where
  pub cube : Cube
  pub graph : IsGraphOf cube q
  pub report : IsPlacesReport children value combine unit q roots (setup_for cube q roots)
      items answer counters
  pub small : All HasSmallCounters counters
  -- each place was awake at the start exactly where it had roots
  pub starts : StartsByRoots (all_awake (setup_for cube q roots)) (numbers_of q.places roots)

-- what a run over cells reports: what every run on threads reports, as it stands at the end of a
-- history that begins with the bags
pub record IsCellsReport {I V : Type 0} (children : I → List I) (value : I → V)
    (combine : V → V → V) (unit : V) (q : Params) (roots : ℕ → List I) (items : ℕ) (answer : V)
    (counters : List Counters) : Type 0 where
  pub cube : Cube
  pub graph : IsGraphOf cube q
  -- the bags of the places at the start: their roots, in some order
  pub bags : ℕ → List I
  pub same : (p : ℕ) → p < q.places → IsPermutation (roots p) (bags p)
  pub history : EndsHistory children value combine unit (setup_for cube q bags) bags
      items answer counters
  pub threads : IsThreadsReport children value combine unit q roots items answer counters

-- what a run on threads reports, by what its places share
abbrev pub IsPlayed : {I V : Type 0} → FabricKind → (I → List I) → (I → V) → (V → V → V) → V
    → Params → (ℕ → List I) → ℕ → V → List Counters → Type 0
IsPlayed fabric.Inbox children value combine unit q roots items answer counters =
    IsThreadsReport children value combine unit q roots items answer counters
IsPlayed fabric.Cells children value combine unit q roots items answer counters =
    IsCellsReport children value combine unit q roots items answer counters
