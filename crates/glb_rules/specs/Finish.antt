-- Worlds in which the work is done, or nothing can happen.
use Rattle.std.specs.Prelude.{◌≡◌, ◌≢◌, ℕ, suc, ◌<◌, true, List, length, ◌⊎◌}
use Rattle.glb_rules.specs.World.{Loot, Setup, World, has_line, IsArmed}
use Rattle.glb_rules.specs.Events.{IsInRange}
use Rattle.glb_rules.specs.Steps.{IsEnabled, Step}
use Rattle.glb_rules.specs.declared.kinds.Kind.{Kind}
use Rattle.glb_rules.specs.declared.kinds.Kind.TheVariants as kind
use Rattle.glb_rules.specs.declared.kinds.Phase.TheVariants as phase
use Rattle.glb_rules.specs.declared.event.Event.{Event}
use Rattle.glb_rules.specs.declared.event.Event.TheVariants.{Halt}

-- live is 0
abbrev pub IsFinished : {I : Type 0} → World I → Type 0
IsFinished w = w.live ≡ 0

-- no work is left, and nobody is left who could make some
pub record IsQuiet {I : Type 0} (s : Setup) (w : World I) : Type 0 where
  pub rest : (p : ℕ) → p < s.places → ((w.place p).phase ≡ phase.Asleep)
      ⊎ ((w.place p).phase ≡ phase.Gone)
  pub empty : (p : ℕ) → p < s.places → length (w.place p).bag ≡ 0
  pub no_loot : (k : Kind) (t v : ℕ) → t < s.places → v < s.places → (xs : List I)
      → w.edge k t v ≢ Loot xs

-- every place is Gone
abbrev pub AllGone : {I : Type 0} → Setup → World I → Type 0
AllGone s w = (p : ℕ) → p < s.places → (w.place p).phase ≡ phase.Gone

-- each line of a place that sleeps is armed: the request on it is remembered, or a part waits there
abbrev pub SleepersAreArmed : {I : Type 0} → Setup → World I → Type 0
SleepersAreArmed s w =
    (p v : ℕ) → p < s.places → v < s.places → (w.place p).phase ≡ phase.Asleep
    → has_line s p v ≡ true → IsArmed (w.edge kind.Line p v)

-- some place holds items
abbrev pub SomeItems : {I : Type 0} → Setup → World I → Type 0
SomeItems s w = (b : ℕ) × (b < s.places) × (0 < length (w.place b).bag)

-- some place sleeps
abbrev pub SomeSleeper : {I : Type 0} → Setup → World I → Type 0
SomeSleeper s w = (a : ℕ) × (a < s.places) × ((w.place a).phase ≡ phase.Asleep)

-- some sleeper has an armed line at a place that is Working, Idle or Waiting
abbrev pub SomeSleeperAwaits : {I : Type 0} → Setup → World I → Type 0
SomeSleeperAwaits s w =
    (p : ℕ) × (v : ℕ) × (p < s.places) × (v < s.places) × ((w.place p).phase ≡ phase.Asleep)
    × (has_line s p v ≡ true) × IsArmed (w.edge kind.Line p v)
    × ((w.place v).phase ≢ phase.Asleep) × ((w.place v).phase ≢ phase.Gone)

-- no event but Halt is enabled
abbrev pub IsStuck : {I : Type 0} → Setup → World I → Type 0
IsStuck s w = (e : Event) → ((p n : ℕ) → e ≢ Halt p n) → IsInRange s e → IsEnabled s w e → ⊥

-- the worlds that one event after the other leads to, for as long as one other than Halt is
-- enabled; then the last one stays
pub record RunsOn {I : Type 0} (children : I → List I) (s : Setup) (worlds : ℕ
    → World I) : Type 0 where
  pub goes_on : (i : ℕ) →
      ((e : Event) × ((p n : ℕ) → e ≢ Halt p n) × Step children s (worlds i) e (worlds (suc i)))
      ⊎ (IsStuck s (worlds i) × (worlds (suc i) ≡ worlds i))
