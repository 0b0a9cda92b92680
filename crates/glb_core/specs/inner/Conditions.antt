-- Where each event is enabled, by the rows of the tables.
use Rattle.std.specs.Prelude.{◌<◌, ◌≤◌, ◌≢◌, ◌≡◌, ◌⊎◌, List, length, get_or, ℕ, ◌+◌, ◌-◌}
use Rattle.std.specs.Vec.{with_item}
use Rattle.rand_pcg.specs.Lcg.{next}
use Rattle.rand_pcg.specs.Pcg.{multiplier_64, output_xsh_rr}
use Rattle.glb_rules.specs.declared.kinds.Kind.TheVariants as kind
use Rattle.glb_rules.specs.declared.kinds.Phase.TheVariants as phase
use Rattle.glb_rules.specs.declared.kinds.Credit.TheVariants as credit
use Rattle.glb_rules.specs.declared.kinds.Mark.TheVariants as mark
use Rattle.glb_rules.specs.declared.event.Event.{Event}
use Rattle.glb_core.specs.declared.world.rows.PlaceRow.{PlaceRow}
use Rattle.glb_core.specs.declared.world.rows.EdgeRow.{EdgeRow}
use Rattle.glb_core.specs.declared.world.rows.EdgeRow.TheVariants as edge_row
use Rattle.glb_core.specs.Tables.{mark_index, edge_index}
use Rattle.glb_rules.specs.World.{Setup, World}
use Rattle.glb_rules.specs.Steps.{IsEnabled}
use Rattle.glb_core.specs.Tables.{WorldView}
use Rattle.glb_core.specs.Standing.{Represents}

-- a part travels on the edge's edge
abbrev pub HoldsPart : {B : Type 0} → EdgeRow B → Type 0
HoldsPart edge_row.Idle = ⊥
HoldsPart edge_row.Asked = ⊥
HoldsPart edge_row.Refused = ⊥
HoldsPart (edge_row.Loot b) = Unit {0}

-- somebody asks over the edge of the row, or is remembered there
abbrev pub IsWantedRow : {B : Type 0} → EdgeRow B → Type 0
IsWantedRow edge_row.Idle = ⊥
IsWantedRow edge_row.Asked = Unit {0}
IsWantedRow edge_row.Refused = Unit {0}
IsWantedRow (edge_row.Loot b) = ⊥

-- the request over the edge of the row is remembered, or a part lies there
abbrev pub IsArmedRow : {B : Type 0} → EdgeRow B → Type 0
IsArmedRow edge_row.Idle = ⊥
IsArmedRow edge_row.Asked = ⊥
IsArmedRow edge_row.Refused = Unit {0}
IsArmedRow (edge_row.Loot b) = Unit {0}

-- it holds of each member
abbrev pub EachIn : List ℕ → (ℕ → Type 0) → Type 0
EachIn xs P = (i : ℕ) → i < length xs → P (get_or xs i 0)

-- it holds of each number below n but p
abbrev pub AllOthers : ℕ → ℕ → (ℕ → Type 0) → Type 0
AllOthers n p P = (t : ℕ) → t < n → t ≢ p → P t

-- some other place's steal edge to p is Asked, or one of the thieves' lines to p is Asked or
-- Refused
abbrev pub IsWantedIn : {B : Type 0} → List (EdgeRow B) → ℕ → ℕ → List ℕ → Type 0
IsWantedIn edge_rows n p thieves =
    ((t : ℕ) × (t < n) × (t ≢ p)
    × (get_or edge_rows (edge_index n kind.Steal t p) edge_row.Idle ≡ edge_row.Asked))
    ⊎ ((i : ℕ) × (i < length thieves)
    × IsWantedRow (get_or edge_rows (edge_index n kind.Line (get_or thieves i 0) p) edge_row.Idle))

-- Mint's condition on the tables; the thieves are the places that have a lifeline to p
abbrev pub MayMint : {B I : Type 0} → (B → List I) → PlaceRow B → List (EdgeRow B) → ℕ → ℕ → List ℕ
    → Type 0
MayMint items r edge_rows n p thieves =
    (r.phase ≡ phase.Working) × (r.credit ≡ credit.One) × (1 < length (items r.bag))
    × IsWantedIn edge_rows n p thieves

-- Batch's condition on the tables
abbrev pub MayBatch : {B I : Type 0} → (B → List I) → PlaceRow B → List (EdgeRow B) → ℕ → ℕ → List ℕ
    → Type 0
MayBatch items r edge_rows n p thieves =
    (r.phase ≡ phase.Working) × (r.credit ≡ credit.One)
    × AllOthers n p (λ t. get_or r.marks.items (mark_index n kind.Steal t) mark.Unseen ≡ mark.Clear)
    × EachIn thieves (λ t. get_or r.marks.items (mark_index n kind.Line t) mark.Unseen ≡ mark.Clear)
    × (1 < length (items r.bag) → EachIn thieves
    (λ t. get_or edge_rows (edge_index n kind.Line t p) edge_row.Idle ≢ edge_row.Refused))

-- Sleep's condition on the tables; the victims are those of p's lifelines
abbrev pub MaySleep : {B : Type 0} → PlaceRow B → List (EdgeRow B) → ℕ → ℕ → List ℕ → Type 0
MaySleep r edge_rows n p victims =
    (r.phase ≡ phase.Idle) × (r.tries ≡ 0) × EachIn victims
    (λ v. IsArmedRow (get_or edge_rows (edge_index n kind.Line p v) edge_row.Idle))

-- the event has a case in each world for which the view stands
abbrev pub HasCase : {B I V : Type 0} → (B → List I) → WorldView B V → Event → Type 0
HasCase {I = I} items x e = (s : Setup) (w : World I) → Represents items s x w → IsEnabled s w e

-- the truth value says whether the event has a case
pub record HasCaseExactly {B I V : Type 0} (items : B → List I) (x : WorldView B V) (e : Event)
    (b : Type 0) : Type 0 where
  pub all : b → HasCase items x e
  pub only : (s : Setup) (w : World I) → Represents items s x w → IsEnabled s w e → b
