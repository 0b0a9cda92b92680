-- What the places of a run begin with on threads, and what they leave.
use Rattle.std.specs.Prelude.{◌≡◌, ℕ, ◌<◌, Bool, List, [], length, get_or, map, All, IsPermutation}
use Rattle.std.specs.List.{flat_map}
use Rattle.glb_laws.specs.Expansion.{combined}
use Rattle.glb_cube.specs.Lines.{Cube}
use Rattle.glb_stats.specs.declared.counters.Counters.{Counters}
use Rattle.glb_rules.specs.Joins.{join_to}
use Rattle.glb_rules.specs.declared.params.Params.{Params}
use Rattle.glb_core.specs.Counters.{all_awake, all_degrees}
use Rattle.glb_core.specs.Lifelines.{IsGraphOf, setup_for}
use Rattle.glb_place.specs.declared.record.Record.{Record}
use Rattle.glb_place.specs.Calls.{SameObject}
use Rattle.glb_place.specs.Close.{Closes, HasLeft, counters_in, done_of}
use Rattle.glb_place.specs.Records.{IsFirst}

-- each record is that of its place, by number, at the start with its bag
pub record AreFirst {I : Type 0} (lines : Cube) (params : Params) (bags : List (List I))
    (rs : List (Record I)) : Type 0 where
  pub each : (p : ℕ) (d : Record I) → p < length rs
      → IsFirst lines params p (get_or bags p []) (get_or rs p d)

-- each record is that of its place, by number
pub record AreNumbered {I : Type 0} (lines : Cube) (params : Params) (rs : List (Record I))
    : Type 0 where
  pub many : length rs ≡ params.places
  pub place : (p : ℕ) (d : Record I) → p < length rs → (get_or rs p d).place ≡ p
  pub params_are : (p : ℕ) (d : Record I) → p < length rs → (get_or rs p d).params ≡ params
  pub lines_are : (p : ℕ) (d : Record I) → p < length rs → (get_or rs p d).lines ≡ lines

-- the fabrics are as many, and each has the program, the home and the refusals of its number
pub record AreSameObjects {F H Q : Type 0} (program : F → Q) (home : F → H) (refuses : F → Bool)
    (old new : List F) : Type 0 where
  pub many : length new ≡ length old
  pub each : (p : ℕ) (d : F) → p < length old
      → SameObject program home refuses (get_or old p d) (get_or new p d)

-- every place has left; the value is the combination over all items done, and the counters are
-- those of the records, by number
pub record AreLeft {I V : Type 0} (value : I → V) (combine : V → V → V) (unit : V)
    (rs : List (Record I)) (total : V) (counters : List Counters) : Type 0 where
  pub left : All HasLeft rs
  pub total_is : total ≡ combined value combine unit (flat_map done_of rs)
  pub counters_are : counters ≡ map counters_in rs

-- a run of places that began with these roots has closed: all have left, and live, items and stop
-- were read at the end
pub record IsClosed {I V : Type 0} (children : I → List I) (value : I → V) (combine : V → V → V)
    (unit : V) (q : Params) (roots : ℕ → List I) (items stop : ℕ) (total : V)
    (counters : List Counters)
    : Type 0 where
  pub cube : Cube
  pub graph : IsGraphOf cube q
  -- the bags of the places at the start
  pub bags : ℕ → List I
  pub same : (p : ℕ) → IsPermutation (roots p) (bags p)
  pub records : List (Record I)
  pub live : ℕ
  pub closes : Closes children (all_degrees (setup_for cube q bags))
      (all_awake (setup_for cube q bags)) q.limit (join_to cube.places bags) records live items stop
  pub numbered : AreNumbered cube q records
  pub left : AreLeft value combine unit records total counters
