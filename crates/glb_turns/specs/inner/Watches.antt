-- What is known of the places between the turns.
use Rattle.std.specs.Prelude.{◌≡◌, ℕ, ◌+◌, ◌<◌, ◌⊎◌, true, false, List, length, set, slice_index_or}
use Rattle.glb_cube.specs.Lines.{Cube}
use Rattle.glb_rules.specs.World.{Setup, World}
use Rattle.glb_rules.specs.Effects.{mark_after_look}
use Rattle.glb_rules.specs.Steps.{Step}
use Rattle.glb_rules.specs.Sight.{Sight, sight_at, state_at}
use Rattle.glb_core.specs.Seen.{IsMadeFor, sight}
use Rattle.glb_rules.specs.Decision.{is_unseen}
use Rattle.glb_rules.specs.Schedules.{Passes}
use Rattle.glb_core.specs.Tables.{WorldView}
use Rattle.glb_core.specs.Standing.{Represents}
use Rattle.glb_rules.specs.declared.kinds.Kind.{Kind}
use Rattle.glb_rules.specs.declared.kinds.Phase.TheVariants as phase
use Rattle.glb_rules.specs.declared.kinds.Credit.TheVariants as credit
use Rattle.glb_rules.specs.declared.place_state.PlaceState.{PlaceState}
use Rattle.glb_rules.specs.declared.edges.InEdge.{InEdge}
use Rattle.glb_rules.specs.declared.event.Event.{Event}
use Rattle.glb_turns.specs.declared.watch.Knowledge.{Knowledge}
use Rattle.glb_turns.specs.declared.watch.Knowledge.TheVariants as knowledge
use Rattle.glb_turns.specs.declared.watch.Watch.{Watch}

-- the in-edge at this index is the first one that is Unseen
pub record IsFirstUnseen (ins : List InEdge) (at : ℕ) : Type 0 where
  pub within : at < length ins
  pub before : (i : ℕ) (d : InEdge) → i < at → is_unseen (slice_index_or ins i d) ≡ false
  pub here : (d : InEdge) → is_unseen (slice_index_or ins at d) ≡ true

-- a place in this state that sees this looks next at the in-edge at this index
pub record LooksAt (a : PlaceState) (z : Sight) (at : ℕ) : Type 0 where
  pub works : a.phase ≡ phase.Working
  pub one : a.credit ≡ credit.One
  pub goes_on : z.stop ≡ 0
  pub not_ended : z.ended ≡ false
  pub first : IsFirstUnseen z.ins at

-- what is known of the place in the world, where z is what it has seen: nothing, that this is all
-- that it can see, that it looks next at the in-edge at an index, or that it has nothing to do
abbrev pub Knows : {I : Type 0} → ℕ → Setup → World I → ℕ → Sight → Knowledge → Type 0
Knows seed s w p z knowledge.Stale = Unit {0}
Knows seed s w p z knowledge.Fresh = z ≡ sight_at s w p
Knows seed s w p z (knowledge.Looks at) = (z ≡ sight_at s w p) × LooksAt (state_at seed s w p) z at
Knows seed s w p z knowledge.Passes = Passes seed s w p

-- where a place in this state sees this, so much is known of it
abbrev pub LooksBy : PlaceState → Sight → Knowledge → Type 0
LooksBy a z knowledge.Stale = ⊥
LooksBy a z knowledge.Fresh = Unit {0}
LooksBy a z (knowledge.Looks at) = LooksAt a z at
LooksBy a z knowledge.Passes = ⊥

-- the watch was made for the place, and what it knows holds in each world for which the tables
-- stand
pub record IsWatchOf {B I V : Type 0} (items : B → List I) (x : WorldView B V) (p : ℕ) (z : Watch)
    : Type 0 where
  pub made : IsMadeFor x.cube p (sight z.seen)
  pub known : (s : Setup) (w : World I) → Represents items s x w
      → Knows x.params.seed s w p (sight z.seen) z.knowledge

-- each place has its watch
abbrev pub HasWatches : {B I V : Type 0} → (B → List I) → WorldView B V → List Watch → Type 0
HasWatches items x watches =
    (p : ℕ) (d : Watch) → p < length watches → IsWatchOf items x p (slice_index_or watches p d)

-- the watch, of which nothing is known any more
abbrev pub forgotten : Watch → Watch
forgotten z = record z { knowledge = knowledge.Stale }

-- each place has a watch, of which nothing is known
abbrev pub AreStale : Cube → List Watch → Type 0
AreStale c watches =
    (p : ℕ) (d : Watch) → p < length watches
    → IsMadeFor c p (sight (slice_index_or watches p d).seen)
    × ((slice_index_or watches p d).knowledge ≡ knowledge.Stale)

-- after the look at the in-edge at the index, so much is known: that the place looks next at the
-- one after it, or not
abbrev pub LooksOn : List InEdge → ℕ → Knowledge → Type 0
LooksOn ins at knowledge.Stale = ⊥
LooksOn ins at knowledge.Fresh = Unit {0}
LooksOn ins at (knowledge.Looks i) =
    (i ≡ at + 1) × (i < length ins) × ((d : InEdge) → is_unseen (slice_index_or ins i d) ≡ true)
LooksOn ins at knowledge.Passes = ⊥

-- what is seen after a look at this in-edge, which is the one at the index
abbrev pub looked_at : Sight → ℕ → InEdge → Sight
looked_at z at x = record z { ins = set z.ins at (record x { mark = mark_after_look x.edge }) }

-- the watch of a place that looked at the in-edge of this kind from this thief, which is the one at
-- which it was to look
pub record LookedOn (t : ℕ) (k : Kind) (old new : Watch) : Type 0 where
  pub at : ℕ
  pub looks : old.knowledge ≡ knowledge.Looks at
  pub within : at < length old.seen.ins.items
  pub edge : InEdge
  pub found : edge ≡ slice_index_or old.seen.ins.items at edge
  pub thief : edge.thief ≡ t
  pub kind : edge.kind ≡ k
  pub sees : sight new.seen ≡ looked_at (sight old.seen) at edge
  pub next : LooksOn new.seen.ins.items at new.knowledge

-- so, or nothing is known any more
abbrev pub NotesLook : ℕ → Kind → Watch → Watch → Type 0
NotesLook t k old new = (new ≡ forgotten old) ⊎ LookedOn t k old new

-- the event led from a world for which the old tables stand to one for which the new ones stand
pub record Follows {B I V : Type 0} (items : B → List I) (children : I → List I)
    (old : WorldView B V) (e : Event) (new : WorldView B V) : Type 0 where
  pub setup : Setup
  pub before : World I
  pub next : World I
  pub step : Step children setup before e next
  pub stood : Represents items setup old before
  pub stands : Represents items setup new next
  pub cube : new.cube ≡ old.cube
  pub params : new.params ≡ old.params
