-- Runs in which each event is the decision of a place, and a list of numbers says which place's
-- turn it is.
use Rattle.std.specs.Prelude.{◌≡◌, ◌≢◌, ℕ, ◌+◌, ◌%◌, ◌<◌, true, List, [], ◌∷◌, length, ◌⊎◌}
use Rattle.glb_rules.specs.World.{Setup, World}
use Rattle.glb_rules.specs.Steps.{Step}
use Rattle.glb_rules.specs.Sight.{sight_at, state_at}
use Rattle.glb_rules.specs.Decision.{decide}
use Rattle.glb_rules.specs.declared.kinds.Phase.TheVariants as phase
use Rattle.glb_rules.specs.declared.event.Event.{Event}
use Rattle.glb_rules.specs.declared.event.Event.TheVariants.{Batch}
use Rattle.glb_rules.specs.declared.event.Action.{Action}
use Rattle.glb_rules.specs.declared.event.Action.TheVariants.{Do, Poll}
use Rattle.glb_rules.specs.World.{Refused, has_edge, mark_at}
use Rattle.glb_rules.specs.declared.kinds.Kind.{Kind}
use Rattle.glb_rules.specs.declared.kinds.Kind.TheVariants as kind
use Rattle.glb_rules.specs.declared.kinds.Credit.TheVariants as credit
use Rattle.glb_rules.specs.declared.kinds.Mark.TheVariants as mark

-- the decision of a place, from all that it can see in the world
abbrev pub decision : {I : Type 0} → ℕ → Setup → World I → ℕ → Action
decision seed s w p = decide (state_at seed s w p) (sight_at s w p)

-- the place has nothing to do
abbrev pub Passes : {I : Type 0} → ℕ → Setup → World I → ℕ → Type 0
Passes seed s w p = ((w.place p).phase ≡ phase.Gone) ⊎ (decision seed s w p ≡ Poll)

-- a batch is whole where it has as many expansions as it may, or leaves no item
abbrev pub IsWhole : {I : Type 0} → Setup → Event → List I → List I → Type 0
IsWhole s (Batch p) taken rest = (length taken ≡ s.batch) ⊎ (rest ≡ [])
IsWhole s _ taken rest = Unit {0}

-- the first place, from number n modulo the number of places upwards and round, that has something
-- to do does it, and no batch is cut
pub record ScheduledTurn {I : Type 0} (children : I → List I) (s : Setup) (seed : ℕ)
    (old : World I) (n : ℕ) (e : Event) (new : World I) : Type 0 where
  pub ahead : ℕ
  pub within : ahead < s.places
  pub passed : (j : ℕ) → j < ahead → Passes seed s old ((n + j) % s.places)
  pub here : (old.place ((n + ahead) % s.places)).phase ≢ phase.Gone
  pub decides : decision seed s old ((n + ahead) % s.places) ≡ Do e
  pub step : Step children s old e new
  pub whole : IsWhole s e step.taken step.rest

-- these numbers lead from the old world to the new one, by these events
abbrev pub ScheduledRun :
    {I : Type 0} → (I → List I) → Setup → ℕ → World I → List ℕ → List Event → World I → Type 0
ScheduledRun children s seed old [] [] new = new ≡ old
ScheduledRun children s seed old (n ∷ ns) (e ∷ es) new =
    (mid : World _) × ScheduledTurn children s seed old n e mid
    × ScheduledRun children s seed mid ns es new
ScheduledRun children s seed old [] (e ∷ es) new = ⊥
ScheduledRun children s seed old (n ∷ ns) [] new = ⊥

-- the event is the decision of some place that is not Gone
abbrev pub IsDecided : {I : Type 0} → ℕ → Setup → World I → Event → Type 0
IsDecided seed s w e =
    (p : ℕ) × (p < s.places) × ((w.place p).phase ≢ phase.Gone) × (decision seed s w p ≡ Do e)

-- decisions alone lead from the old world to the new one
abbrev pub DecidedRun : {I : Type 0} → (I → List I) → Setup → ℕ → World I → List Event → World I
    → Type 0
DecidedRun children s seed old [] new = new ≡ old
DecidedRun children s seed old (e ∷ es) new =
    (mid : World _) × IsDecided seed s old e × Step children s old e mid
    × DecidedRun children s seed mid es new

-- somebody wants work of q, and q knows it
abbrev pub KnowsWhoAsks : {I : Type 0} → Setup → World I → ℕ → Type 0
KnowsWhoAsks s w q =
    (k : Kind) × (t : ℕ) × (t < s.places) × (has_edge s k t q ≡ true)
    × ((mark_at (w.place q).marks k t ≡ mark.Pending)
    ⊎ ((k ≡ kind.Line) × (w.edge k t q ≡ Refused)))

-- what holds of worlds that decisions alone have led to: who has minted knows somebody who wants
-- work
abbrev pub MintersKnowWhoAsks : {I : Type 0} → Setup → World I → Type 0
MintersKnowWhoAsks s w = (q : ℕ) → q < s.places → (w.place q).phase ≡ phase.Working
    → (w.place q).credit ≡ credit.Minted → KnowsWhoAsks s w q
