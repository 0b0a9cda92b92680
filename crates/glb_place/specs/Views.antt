-- What contracts see of a place.
use Rattle.std.specs.Prelude.{◌≡◌, ◌≢◌, Bool, true, false, Option, Some, None}
use Rattle.glb_place.specs.declared.turn.Turn.{Turn}
use Rattle.glb_place.specs.declared.turn.Turn.TheVariants.{Went, Polled, Closed}
use Rattle.glb_place.specs.declared.turn.Ended.{Ended}
use Rattle.glb_place.specs.declared.turn.Ended.TheVariants.{Over, Halted}
use Rattle.glb_place.specs.declared.record.Record.{Record}

-- its fabric, its bag, the part that it split off and has not given or could not merge, the
-- combination of the values of its items done, and how it ended, if it did
pub record PlaceView (B F V : Type 0) : Type 0 where
  pub fabric : F
  pub bag : B
  pub spare : Option B
  pub value : V
  pub ended : Option Ended

-- whether the place is told that it is impatient: none is
abbrev pub is_impatient : {B F V : Type 0} → PlaceView B F V → Bool
is_impatient a = false

-- what the place read that closed it
abbrev pub HasRead : {I : Type 0} → Ended → Record I → Type 0
HasRead Over r = r.over ≡ true
HasRead (Halted c) r = (c ≢ 0) × (r.code ≡ c)

-- how a place has ended after a turn with this answer
abbrev pub ended_by : Turn → Option Ended
ended_by Went = None
ended_by Polled = None
ended_by (Closed e) = Some e
