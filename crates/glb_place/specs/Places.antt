-- What a place decides by its record, and what it keeps beside its bag.
use Rattle.std.specs.Prelude.{◌≡◌, ◌<◌, ◌≤◌, ◌⊎◌, Bool, List, [], length, Option, Some, None}
use Rattle.glb_rules.specs.Sight.{state_at, sight_at}
use Rattle.glb_rules.specs.Decision.{decide}
use Rattle.glb_rules.specs.declared.kinds.Credit.TheVariants as credit
use Rattle.glb_rules.specs.declared.event.Action.{Action}
use Rattle.glb_place.specs.declared.record.Record.{Record}
use Rattle.glb_place.specs.Records.{setup_in, world_in}

-- what the place decides, by its record alone
abbrev pub decision_in : {I : Type 0} → Record I → Action
decision_in r =
    decide (state_at r.params.seed (setup_in r) (world_in r) r.place)
    (sight_at (setup_in r) (world_in r) r.place)

-- what it decides where it is told that it is impatient, or that it is not: no row of the table of
-- decisions asks for that
abbrev pub decision_of : {I : Type 0} → Bool → Record I → Action
decision_of told r = decision_in r

-- the items of a part that was split off and not given
abbrev pub spare_items : {B I : Type 0} → (B → List I) → Option B → List I
spare_items items None = []
spare_items items (Some b) = items b

-- what is kept beside the bag, if anything, meets this
abbrev pub SpareFits : {B : Type 0} → (B → Type 0) → Option B → Type 0
SpareFits Fits None = Unit {0}
SpareFits Fits (Some b) = Fits b

-- a part was split off, and both have items
abbrev pub IsSplit : {B I : Type 0} → (B → List I) → Option B → B → Type 0
IsSplit items None bag = ⊥
IsSplit items (Some b) bag = (0 < length (items b)) × (0 < length (items bag))

-- what is kept beside the bag has items
abbrev pub HasItems : {B I : Type 0} → (B → List I) → Option B → Type 0
HasItems items None = Unit {0}
HasItems items (Some b) = 0 < length (items b)

-- beside the bag of a place whose credit is Minted is the part that was split off; beside any other
-- bag is nothing, but after want of memory the part that could not be merged
pub record KeepsSpare {B I : Type 0} (items : B → List I) (r : Record I) (bag : B)
    (spare : Option B)
    : Type 0 where
  pub split : r.local.credit ≡ credit.Minted → IsSplit items spare bag
  pub alone : (spare ≡ None) ⊎ (r.local.credit ≡ credit.Minted) ⊎ (2 ≤ r.code)
  pub some : HasItems items spare
