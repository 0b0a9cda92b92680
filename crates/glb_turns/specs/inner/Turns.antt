-- What the steps of the driver promise, of each world for which its tables stand.
use Rattle.std.specs.Prelude.{◌≡◌, ◌≢◌, ℕ, ◌+◌, ◌%◌, ◌<◌, ◌≤◌, ◌⊎◌, List, length, Some, None}
use Rattle.std.specs.Prelude.{Option}
use Rattle.glb_rules.specs.World.{Setup, World}
use Rattle.glb_rules.specs.Schedules.{decision, Passes, ScheduledTurn, ScheduledRun}
use Rattle.glb_rules.specs.History.{start}
use Rattle.glb_rules.specs.Finish.{AllGone as AreGone}
use Rattle.glb_core.specs.Tables.{WorldView}
use Rattle.glb_core.specs.Standing.{Represents, HasFold, AllFit, MemoryFails}
use Rattle.glb_turns.specs.inner.Watches.{HasWatches}
use Rattle.glb_turns.specs.declared.watch.Watch.{Watch}
use Rattle.glb_rules.specs.Schedules.{MintersKnowWhoAsks}
use Rattle.glb_rules.specs.declared.kinds.Phase.TheVariants as phase
use Rattle.glb_rules.specs.declared.event.Event.{Event}
use Rattle.glb_rules.specs.declared.event.Action.TheVariants.{Do}
use Rattle.glb_core.specs.Lifelines.{setup_for}
use Rattle.glb_turns.specs.ScheduledRuns.{first_numbers}
use Rattle.glb_tree.specs.declared.run.RunFault.{RunFault}
use Rattle.glb_tree.specs.declared.run.RunFault.TheVariants as fault
use Rattle.glb_turns.specs.declared.driver.Turned.{Turned}
use Rattle.glb_turns.specs.declared.driver.Turned.TheVariants.{AllGone, Went, NoMemory}

-- decisions alone have led to a world for which the tables stand
abbrev pub IsPlayed : {B I V : Type 0} → (B → List I) → WorldView B V → Type 0
IsPlayed {I = I} items x = (s : Setup) × (w : World I) × Represents items s x w
    × MintersKnowWhoAsks s w

-- between two turns: each place has its watch, decisions alone have led here, and every bag fits
-- the program
pub record IsInPlay {B I P V : Type 0} (items : B → List I) (fits : B → P → Type 0) (program : P)
    (x : WorldView B V) (watches : List Watch) : Type 0 where
  pub many : length watches ≡ x.cube.places
  pub watched : HasWatches items x watches
  pub played : IsPlayed items x
  pub fit : AllFit fits x program

-- the lifeline graph and the parameters stay
pub record IsSameRun {B V : Type 0} (old new : WorldView B V) : Type 0 where
  pub cube : new.cube ≡ old.cube
  pub params : new.params ≡ old.params

-- what a place decides: nothing, or an event
abbrev pub DecidesAt : {I : Type 0} → ℕ → Setup → World I → ℕ → Option Event → Type 0
DecidesAt seed s w p None = Passes seed s w p
DecidesAt seed s w p (Some e) = ((w.place p).phase ≢ phase.Gone) × (decision seed s w p ≡ Do e)

-- the first place from number n upwards and round that has something to do, and what it does
pub record FindsPlace {I : Type 0} (seed : ℕ) (s : Setup) (w : World I) (n place : ℕ) (e : Event)
    : Type 0 where
  pub ahead : ℕ
  pub within : ahead < s.places
  pub passed : (j : ℕ) → j < ahead → Passes seed s w ((n + j) % s.places)
  pub place_is : place ≡ (n + ahead) % s.places
  pub here : (w.place place).phase ≢ phase.Gone
  pub decides : decision seed s w place ≡ Do e

-- the turn of this number leads from the world to one for which the new tables stand
pub record TakesTurn {B I V : Type 0} (items : B → List I) (children : I → List I) (value : I → V)
    (combine : V → V → V) (unit : V) (old new : WorldView B V) (n : ℕ) (s : Setup) (w : World I)
    : Type 0 where
  pub next : World I
  pub event : Event
  pub turn : ScheduledTurn children s old.params.seed w n event next
  pub stands : Represents items s new next
  pub fold : HasFold value combine unit s old w → HasFold value combine unit s new next

-- what a turn came to
abbrev pub TurnsTo : {B I V : Type 0} → (B → List I) → (I → List I) → (I → V) → (V → V → V) → V
    → WorldView B V → WorldView B V → ℕ → Turned → Type 0
TurnsTo {I = I} items children value combine unit old new n AllGone =
    (s : Setup) (w : World I) → Represents items s old w → MintersKnowWhoAsks s w → AreGone s w
    × (new ≡ old)
TurnsTo {I = I} items children value combine unit old new n (Went p) =
    (s : Setup) (w : World I) → Represents items s old w → MintersKnowWhoAsks s w
    → TakesTurn items children value combine unit old new n s w
TurnsTo {I = I} items children value combine unit old new n (NoMemory p) =
    (e : Event) × ((s : Setup) (w : World I) → Represents items s old w → MintersKnowWhoAsks s w
    → FindsPlace old.params.seed s w n p e)
    × MemoryFails items children value combine unit old e new

-- the place of the turn, if it had one, is there
abbrev pub IsTurnOf : ℕ → Turned → Type 0
IsTurnOf places AllGone = Unit {0}
IsTurnOf places (Went p) = p < places
IsTurnOf places (NoMemory p) = p < places

-- the tables stand for the start with these bags
pub record Begins {B I V : Type 0} (items : B → List I) (value : I → V) (combine : V → V
    → V) (unit : V)
    (x : WorldView B V) (bags : ℕ → List I) : Type 0 where
  pub stands : Represents items (setup_for x.cube x.params bags) x
      (start (setup_for x.cube x.params bags) bags)
  pub fold : HasFold value combine unit (setup_for x.cube x.params bags) x
      (start (setup_for x.cube x.params bags) bags)

-- so many turns of the schedule led from the first tables, which stand for the start with these
-- bags, to these tables
pub record Plays {B I V : Type 0} (items : B → List I) (children : I → List I) (value : I → V)
    (combine : V → V → V) (unit : V) (first : WorldView B V) (bags : ℕ → List I) (will : ℕ → ℕ)
    (turns : ℕ) (x : WorldView B V) : Type 0 where
  pub events : List Event
  pub world : World I
  pub run : ScheduledRun children (setup_for first.cube first.params bags) first.params.seed
      (start (setup_for first.cube first.params bags) bags) (first_numbers will turns) events world
  pub stands : Represents items (setup_for first.cube first.params bags) x world
  pub fold : HasFold value combine unit (setup_for first.cube first.params bags) x world

-- and every place is Gone there
pub record PlaysToEnd {B I V : Type 0} (items : B → List I) (children : I → List I) (value : I → V)
    (combine : V → V → V) (unit : V) (first : WorldView B V) (bags : ℕ → List I) (will : ℕ → ℕ)
    (x : WorldView B V) : Type 0 where
  pub turns : ℕ
  pub plays : Plays items children value combine unit first bags will turns x
  pub all_gone : AreGone (setup_for first.cube first.params bags) plays.world

-- every place leaves from here on: the run was halted with at least this code, or it is finished
abbrev pub IsOver : {B V : Type 0} → ℕ → WorldView B V → Type 0
IsOver code x = (code ≤ x.stop) ⊎ (x.live ≡ 0)

-- so, and every place has left
pub record Halted {B I V : Type 0} (items : B
    → List I) (code : ℕ) (x : WorldView B V) : Type 0 where
  pub over : IsOver code x
  pub all_gone : (s : Setup) (w : World I) → Represents items s x w → AreGone s w

-- the code with which a run ends early
abbrev pub code_of : RunFault → ℕ
code_of (fault.TooMany items) = 1
code_of fault.NoMemory = 2
