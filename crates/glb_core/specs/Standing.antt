-- What the contracts of a world say: for which worlds it stands, and what an event makes of them.
use Rattle.std.specs.Prelude.{◌≡◌, ℕ, List, length, get_or, [], ◌⊎◌, ◌<◌}
use Rattle.glb_laws.specs.Expansion.{combined}
use Rattle.glb_rules.specs.World.{Setup, World}
use Rattle.glb_rules.specs.Setups.{IsProper}
use Rattle.glb_rules.specs.History.{start}
use Rattle.glb_rules.specs.declared.params.Params.{Params}
use Rattle.glb_rules.specs.Lawful.{IsLawful, sum_of_places, all_done}
use Rattle.glb_rules.specs.Steps.{IsEnabled, Step, expanded}
use Rattle.glb_rules.specs.Schedules.{IsWhole}
use Rattle.glb_rules.specs.declared.event.Event.{Event}
use Rattle.glb_rules.specs.declared.event.Event.TheVariants.{Batch, Give, Take}
use Rattle.glb_rules.specs.declared.event.StepFault.{StepFault}
use Rattle.glb_rules.specs.declared.event.StepFault.TheVariants as fault
use Rattle.glb_core.specs.Tables.{WorldView, Shows}
use Rattle.glb_core.specs.declared.world.rows.PlaceRow.{PlaceRow}
use Rattle.glb_core.specs.declared.world.rows.EdgeRow.{EdgeRow}
use Rattle.glb_core.specs.declared.world.rows.EdgeRow.TheVariants as edge_row
use Rattle.glb_core.specs.Lifelines.{setup_for}

-- the view stands for a lawful world
pub record Represents {B I V : Type 0} (items : B → List I) (s : Setup) (x : WorldView B V)
    (w : World I) : Type 0 where
  pub proper : IsProper s
  pub lawful : IsLawful s w
  pub shows : Shows items s x w
  pub total : x.total ≡ sum_of_places s w (λ a. a.count.items)

-- there is such a world
abbrev pub IsSound : {B I V : Type 0} → (B → List I) → WorldView B V → Type 0
IsSound {I = I} items x = (s : Setup) × (w : World I) × Represents items s x w

-- the values of all items done, combined, are the view's value
abbrev pub HasFold : {B I V : Type 0} → (I → V) → (V → V → V) → V → Setup → WorldView B V
    → World I → Type 0
HasFold value combine unit s x w = x.value ≡ combined value combine unit (all_done s w)

-- from the world w the event leads, with k items expanded, to a world for which the new view stands
pub record SimulatesFrom {B I V : Type 0} (items : B → List I) (children : I → List I) (value : I
    → V)
    (combine : V → V → V) (unit : V)
    (old : WorldView B V) (e : Event) (k : ℕ) (new : WorldView B V) (s : Setup)
    (w : World I) : Type 0 where
  pub next : World I
  pub step : Step children s w e next
  pub number : expanded e step.taken ≡ k
  pub stands : Represents items s new next
  pub fold : HasFold value combine unit s old w → HasFold value combine unit s new next

-- so from each world for which the old view stands, and no batch is cut
abbrev pub SimulatesWholly : {B I V : Type 0} → (B → List I) → (I → List I) → (I → V) → (V → V → V)
    → V → WorldView B V → Event → ℕ → WorldView B V → Type 0
SimulatesWholly {I = I} items children value combine unit old e k new =
    (s : Setup) (w : World I) → Represents items s old w
    → (l : SimulatesFrom items children value combine unit old e k new s w)
    × IsWhole s e l.step.taken l.step.rest

-- the new view stands for each world for which the old one stands, and has the same value
abbrev pub Stutters : {B I V : Type 0} → (B → List I) → WorldView B V → WorldView B V → Type 0
Stutters {I = I} items old new =
    (new.value ≡ old.value) × ((s : Setup) (w : World I) → Represents items s old w
    → Represents items s new w)

-- so from each world for which the old view stands, and the batch is cut
abbrev pub SimulatesCut : {B I V : Type 0} → (B → List I) → (I → List I) → (I → V) → (V → V → V)
    → V → WorldView B V → Event → ℕ → WorldView B V → Type 0
SimulatesCut {I = I} items children value combine unit old e k new =
    (s : Setup) (w : World I) → Represents items s old w
    → (l : SimulatesFrom items children value combine unit old e k new s w)
    × ¬ IsWhole s e l.step.taken l.step.rest

-- the event was done as a cut batch, or nothing was done
abbrev pub SimulatesPartly : {B I V : Type 0} → (B → List I) → (I → List I) → (I → V) → (V → V → V)
    → V → WorldView B V → Event → WorldView B V → Type 0
SimulatesPartly {I = I} items children value combine unit old e new =
    ((k : ℕ) × SimulatesCut items children value combine unit old e k new)
    ⊎ Stutters {I = I} items old new

-- the event has no case in any world for which the view stands
abbrev pub HasNoCase : {B I V : Type 0} → (B → List I) → WorldView B V → Event → Type 0
HasNoCase {I = I} items x e = (s : Setup) (w : World I) → Represents items s x w → IsEnabled s w e
    → ⊥

-- what stands after want of memory: Give and Take change nothing, a Batch is cut or did nothing,
-- and no other event wants any
abbrev pub MemoryFails : {B I V : Type 0} → (B → List I) → (I → List I) → (I → V) → (V → V → V)
    → V → WorldView B V → Event → WorldView B V → Type 0
MemoryFails items children value combine unit old (Batch p) new =
    SimulatesPartly items children value combine unit old (Batch p) new
MemoryFails {I = I} items children value combine unit old (Give q t k) new =
    Stutters {I = I} items old new
MemoryFails {I = I} items children value combine unit old (Take p v k) new =
    Stutters {I = I} items old new
MemoryFails items children value combine unit old _ new = ⊥

-- what a fault tells
abbrev pub Fails : {B I V : Type 0} → (B → List I) → (I → List I) → (I → V) → (V → V → V) → V
    → WorldView B V → Event → WorldView B V → StepFault → Type 0
Fails {I = I} items children value combine unit old e new fault.NotEnabled = HasNoCase {I = I}
    items old e
    × (new ≡ old)
Fails items children value combine unit old e new fault.NoMemory =
    MemoryFails items children value combine unit old e new

-- the view stands for the start of the bags, and its value is the unit
abbrev pub StartsAt : {B I V : Type 0} → (B → List I) → V → Params → List (List I) → WorldView B V
    → Type 0
StartsAt items unit params bags x =
    (x.params ≡ params) × (x.value ≡ unit)
    × Represents items (setup_for x.cube x.params (λ p. get_or bags p [])) x
    (start (setup_for x.cube x.params (λ p. get_or bags p [])) (λ p. get_or bags p []))

-- each bag of the list fits the program
abbrev pub ListsFit : {B P : Type 0} → (B → P → Type 0) → P → List B → Type 0
ListsFit {B = B} fits p bags = (i : ℕ) (d : B) → i < length bags → fits (get_or bags i d) p

-- the part in the row of an edge, if there is one, fits the program
abbrev pub EdgeRowFits : {B P : Type 0} → (B → P → Type 0) → P → EdgeRow B → Type 0
EdgeRowFits fits p edge_row.Idle = Unit {0}
EdgeRowFits fits p edge_row.Asked = Unit {0}
EdgeRowFits fits p edge_row.Refused = Unit {0}
EdgeRowFits fits p (edge_row.Loot b) = fits b p

-- every bag fits the program
pub record AllFit {B P V : Type 0} (fits : B → P → Type 0) (x : WorldView B V)
    (p : P) : Type 0 where
  pub place_rows : (i : ℕ) (d : PlaceRow B) → i < length x.place_rows
      → fits (get_or x.place_rows i d).bag p
  pub edge_rows : (j : ℕ) (d : EdgeRow B) → j < length x.edge_rows
      → EdgeRowFits fits p (get_or x.edge_rows j d)

-- each program that every bag of the old view fits, every bag of the new one fits
pub record KeepAllFit {B P V : Type 0} (fits : B → P → Type 0)
    (old new : WorldView B V) : Type 0 where
  pub kept : (p : P) → AllFit fits old p → AllFit fits new p
