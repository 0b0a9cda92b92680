-- What a seat of the table counts for: places, and what messages carry.
use Rattle.std.specs.Prelude.{ℕ, ◌+◌, nat_lt, List, [], ◌∷◌}
use Rattle.glb_laws.specs.Sums.{sum_to}
use Rattle.glb_rules.specs.World.{same_kind, credit_count, units_of}
use Rattle.glb_rules.specs.Setups.{bit}
use Rattle.glb_rules.specs.declared.kinds.Kind.{Kind}
use Rattle.glb_rules.specs.declared.kinds.Kind.TheVariants as kind
use Rattle.glb_rules.specs.declared.kinds.Edge.{Edge}
use Rattle.glb_rules.specs.declared.kinds.Edge.TheVariants as seen
use Rattle.glb_rules.specs.declared.local.Counts.{Counts}
use Rattle.glb_place.specs.declared.record.Record.{Record}
use Rattle.glb_place.specs.Records.{known_at}
use Rattle.glb_inbox.specs.declared.view.Member.{Member}
use Rattle.glb_inbox.specs.declared.view.Member.TheVariants.{Place, Request, Refusal, Parcel}

-- a number for each member of a list, added up
abbrev pub total : {A : Type 0} → (A → ℕ) → List A → ℕ
total f [] = 0
total f (x ∷ xs) = f x + total f xs

-- each member of a list
abbrev pub Each : {A : Type 0} → (A → Type 0) → List A → Type 0
Each F [] = Unit {0}
Each F (x ∷ xs) = F x × Each F xs

-- 1 for an edge whose request its victim keeps
abbrev pub wanted : Kind → Edge → ℕ
wanted k seen.Idle = 0
wanted k seen.Asked = 1
wanted kind.Steal seen.Refused = 0
wanted kind.Line seen.Refused = 1
wanted k seen.Loot = 0

-- 0 for an edge that is Idle, else 1
abbrev pub busy_when : Edge → ℕ
busy_when seen.Idle = 0
busy_when seen.Asked = 1
busy_when seen.Refused = 1
busy_when seen.Loot = 1

-- 1 for an edge that is Idle, else 0
abbrev pub idle_when : Edge → ℕ
idle_when seen.Idle = 1
idle_when seen.Asked = 0
idle_when seen.Refused = 0
idle_when seen.Loot = 0

module _ {I : Type 0} where
  -- how many requests of a kind the place holds: its in-edges that it knows as wanted
  abbrev pub held : Kind → Record I → ℕ
  held k r = sum_to r.lines.places (λ t. wanted k (known_at r.known k t r.place))

  -- a number for each edge of the kind whose thief the place is, as the place knows it, added up
  abbrev pub own_known : (ℕ → Edge → ℕ) → Kind → Record I → ℕ
  own_known g k r = sum_to r.lines.places (λ v. g v (known_at r.known k r.place v))

  -- a number of a place's counters, 0 for what a message carries
  abbrev pub tally : (Counts → ℕ) → Member I → ℕ
  tally f (Place x) = f x.kept.local.count
  tally f (Request j) = 0
  tally f Refusal = 0
  tally f (Parcel j xs) = 0

  abbrev pub places_in : Member I → ℕ
  places_in (Place x) = 1
  places_in (Request j) = 0
  places_in Refusal = 0
  places_in (Parcel j xs) = 0

  -- the requests of a kind, held or in a message
  abbrev pub requests : Kind → Member I → ℕ
  requests k (Place x) = held k x.kept
  requests k (Request j) = bit (same_kind k j)
  requests k Refusal = 0
  requests k (Parcel j xs) = 0

  abbrev pub refusals : Member I → ℕ
  refusals (Place x) = 0
  refusals (Request j) = 0
  refusals Refusal = 1
  refusals (Parcel j xs) = 0

  -- the parts of a kind in messages
  abbrev pub parcels : Kind → Member I → ℕ
  parcels k (Place x) = 0
  parcels k (Request j) = 0
  parcels k Refusal = 0
  parcels k (Parcel j xs) = bit (same_kind k j)

  -- their units
  abbrev pub units_in : Member I → ℕ
  units_in (Place x) = 0
  units_in (Request j) = 0
  units_in Refusal = 0
  units_in (Parcel j xs) = units_of xs

  -- what the member counts in live
  abbrev pub credits : Member I → ℕ
  credits (Place x) = credit_count x.kept.local.credit
  credits (Request j) = 0
  credits Refusal = 0
  credits (Parcel j xs) = 1

  -- a number for each place, by its own number
  abbrev pub by_place : (ℕ → ℕ) → Member I → ℕ
  by_place f (Place x) = f x.kept.place
  by_place f (Request j) = 0
  by_place f Refusal = 0
  by_place f (Parcel j xs) = 0

  -- 1 for a place that has seen a total above the limit
  abbrev pub above : ℕ → Member I → ℕ
  above limit (Place x) = bit (nat_lt limit x.kept.last)
  above limit (Request j) = 0
  above limit Refusal = 0
  above limit (Parcel j xs) = 0

  -- the items done, and those in a bag or travelling
  abbrev pub done_in : Member I → List I
  done_in (Place x) = x.kept.local.done
  done_in (Request j) = []
  done_in Refusal = []
  done_in (Parcel j xs) = []

  abbrev pub left_in : Member I → List I
  left_in (Place x) = x.kept.local.bag
  left_in (Request j) = []
  left_in Refusal = []
  left_in (Parcel j xs) = xs
