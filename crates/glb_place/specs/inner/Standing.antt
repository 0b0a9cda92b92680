-- What a place keeps beside its record, and how the two agree.
use Rattle.std.specs.Prelude.{◌≡◌, ◌≢◌, ℕ, ◌+◌, ◌<◌, ◌≤◌, ◌⊎◌, true, false, List, ◌++◌, length, slice_index_or, Option, Some, None, IsPermutation}
use Rattle.rand_pcg.specs.Lcg.{Lcg, advance, started, increment_of}
use Rattle.rand_pcg.specs.Pcg.{multiplier_64}
use Rattle.glb_laws.specs.Expansion.{combined}
use Rattle.glb_cube.specs.Lines.{IsCube}
use Rattle.glb_rules.specs.World.{mark_at}
use Rattle.glb_rules.specs.Setups.{IsWithinLimits, tries_of}
use Rattle.glb_core.specs.Counters.{counters_of}
use Rattle.glb_rules.specs.Sight.{Sight, IsIn, state_at}
use Rattle.glb_core.specs.Seen.{sight, IsMadeFor}
use Rattle.glb_rules.specs.inner.OwnSide.{OwnSide}
use Rattle.glb_rules.specs.Decision.{is_unseen, is_wanted}
use Rattle.glb_rules.specs.declared.kinds.Kind.{Kind}
use Rattle.glb_rules.specs.declared.kinds.Kind.TheVariants as kind
use Rattle.glb_rules.specs.declared.kinds.Edge.TheVariants as seen
use Rattle.glb_rules.specs.declared.kinds.Mark.TheVariants as mark
use Rattle.glb_rules.specs.declared.kinds.Phase.TheVariants as phase
use Rattle.glb_rules.specs.declared.kinds.Credit.TheVariants as credit
use Rattle.glb_stats.specs.declared.counters.Counters.{Counters}
use Rattle.glb_rules.specs.declared.params.Params.{Params}
use Rattle.glb_rules.specs.declared.place_state.PlaceState.{PlaceState}
use Rattle.glb_rules.specs.declared.edges.InEdge.{InEdge}
use Rattle.glb_rules.specs.declared.edges.OutEdge.{OutEdge}
use Rattle.glb_place.specs.declared.record.Record.{Record}
use Rattle.glb_place.specs.declared.holding.Holding.{Holding}
use Rattle.glb_place.specs.Records.{known_at, setup_in, world_in}
use Rattle.glb_place.specs.declared.turn.Turn.{Turn}
use Rattle.glb_place.specs.declared.turn.Turn.TheVariants.{Went, Polled, Closed}
use Rattle.glb_place.specs.declared.turn.Ended.{Ended}
use Rattle.glb_place.specs.Places.{SpareFits, spare_items, IsSplit, KeepsSpare}
use Rattle.glb_place.specs.Views.{HasRead}

-- a line that the place has not looked at since the start, when it was Idle, is taken for Refused
pub record IsEarly {I : Type 0} (r : Record I) (x : InEdge) : Type 0 where
  pub not_minted : r.local.credit ≢ credit.Minted
  pub mark : x.mark ≡ mark.Unseen
  pub taken_for : x.edge ≡ seen.Refused
  pub known : known_at r.known x.kind x.thief r.place ≡ seen.Idle

-- what is seen of the in-edge is what the record tells of it
pub record TellsIn {I : Type 0} (r : Record I) (x : InEdge) : Type 0 where
  pub mark : mark_at r.local.marks x.kind x.thief ≡ x.mark
  pub edge : (known_at r.known x.kind x.thief r.place ≡ x.edge) ⊎ IsEarly r x

-- of each in-edge that is seen
abbrev pub TellsIns : {I : Type 0} → Record I → List InEdge → Type 0
TellsIns r ins = (x : InEdge) → IsIn x ins → TellsIn r x

-- and of each line that is seen
abbrev pub TellsOuts : {I : Type 0} → Record I → List OutEdge → Type 0
TellsOuts r outs =
    (y : OutEdge) → IsIn y outs → known_at r.known kind.Line r.place y.victim ≡ y.edge

-- the record is one of a run, at a place that has not left
pub record IsRunning {I : Type 0} (r : Record I) : Type 0 where
  pub here : r.local.phase ≢ phase.Gone
  pub within : r.place < r.lines.places
  pub places : r.params.places ≡ r.lines.places
  pub cube : IsCube r.lines
  pub limits : IsWithinLimits r.params
  pub tries : r.local.tries ≤ tries_of r.params
  pub goes_on : r.over ≡ false
  pub not_halted : r.code ≡ 0
  pub last : r.last ≤ r.params.limit

-- what is seen agrees with the record; the in-edges before the one with the number `first` are
-- looked at
pub record Tells {I : Type 0} (r : Record I) (z : Sight) (first : ℕ) : Type 0 where
  pub own : OwnSide (setup_in r) (world_in r) r.place
  pub made : IsMadeFor r.lines r.place z
  pub ins : TellsIns r z.ins
  pub outs : TellsOuts r z.outs
  pub waited : (v : ℕ) (k : Kind) → r.local.phase ≡ phase.Waiting v k
      → z.waited ≡ known_at r.known k r.place v
  pub goes_on : z.ended ≡ false
  pub not_halted : z.stop ≡ 0
  pub looked_until : (i : ℕ) (d : InEdge) → i < first → is_unseen (slice_index_or z.ins i d) ≡ false
  pub wanted : r.local.credit ≡ credit.Minted → (x : InEdge) × IsIn x z.ins × (is_wanted x ≡ true)

-- what a place holds, also when it has left: the record's items, the values of the items done, and
-- the record's counters
pub record Holds {B V I Q : Type 0} (items : B → List I) (fits : B → Q → Type 0) (value : Q → I → V)
    (unit : V) (combine : V → V → V) (q : Q) (r : Record I) (bag : B) (spare : Option B) (sum : V)
    (counters : Counters) : Type 0 where
  pub carried : IsPermutation r.local.bag (spare_items items spare ++ items bag)
  pub folded : sum ≡ combined (value q) combine unit r.local.done
  pub counted : r.local.count.items ≡ length r.local.done
  pub counters_are : counters ≡ counters_of r.local.count
  pub bag_fits : fits bag q
  pub spare_fits : SpareFits (λ b. fits b q) spare

-- what a place knows until it is closed or halts
pub record Agrees {B I : Type 0} (items : B → List I) (r : Record I) (params : Params) (bag : B)
    (spare : Option B) (a : PlaceState) (z : Sight) (first : ℕ) (words : Lcg) : Type 0 where
  pub running : IsRunning r
  pub tells : Tells r z first
  pub is : a ≡ state_at r.params.seed (setup_in r) (world_in r) r.place
  pub draws : 1 < r.lines.places → words ≡ advance 64 multiplier_64 (r.local.count.asks + 1)
      (started 64 multiplier_64 r.params.seed (increment_of 64 r.place))
  pub params_are : params ≡ r.params
  -- a part is split off while the credit is Minted
  pub split : r.local.credit ≡ credit.Minted → IsSplit items spare bag
  pub whole : r.local.credit ≢ credit.Minted → spare ≡ None

-- what a place holds, of all that it has
abbrev pub HoldsAt : {B F V I Q : Type 0} → (B → List I) → (B → Q → Type 0) → (Q → I → V) → V
    → (V → V → V) → (F → Q) → (F → Record I) → Holding B F V → Type 0
HoldsAt items fits value unit combine program kept h =
    Holds items fits value unit combine (program h.fabric) (kept h.fabric)
    h.bag h.spare h.value h.counters

-- what it knows
abbrev pub AgreesAt : {B F V I : Type 0} → (B → List I) → (F → Record I) → Holding B F V → Type 0
AgreesAt items kept h =
    Agrees items (kept h.fabric) h.params h.bag h.spare h.state (sight h.seen) h.first h.words

-- and what it keeps beside its bag
abbrev pub SpareAt : {B F V I : Type 0} → (B → List I) → (F → Record I) → Holding B F V → Type 0
SpareAt items kept h = KeepsSpare items (kept h.fabric) h.bag h.spare

-- what a place that is not closed keeps between its turns
pub record Stands {B F V I Q : Type 0} (items : B → List I) (fits : B → Q → Type 0)
    (value : Q → I → V)
    (unit : V) (combine : V → V → V) (program : F → Q) (kept : F → Record I) (h : Holding B F V)
    : Type 0 where
  pub here : (kept h.fabric).local.phase ≢ phase.Gone
  pub holds : HoldsAt items fits value unit combine program kept h
  pub spare : SpareAt items kept h
  pub agrees : (kept h.fabric).code ≡ 0 → AgreesAt items kept h

-- a turn that closed the place read this
abbrev pub ClosedBy : {I : Type 0} → Turn → Record I → Type 0
ClosedBy Went r = Unit {0}
ClosedBy Polled r = Unit {0}
ClosedBy (Closed e) r = HasRead e r

-- what a place keeps: all that it stands for until it is closed, and what it holds afterwards
abbrev pub IsPlace : {B F V I Q : Type 0} → (B → List I) → (B → Q → Type 0) → (Q → I → V) → V
    → (V → V → V) → (F → Q) → (F → Record I) → Option Ended → Holding B F V → Type 0
IsPlace items fits value unit combine program kept None h =
    Stands items fits value unit combine program kept h
IsPlace items fits value unit combine program kept (Some e) h =
    HoldsAt items fits value unit combine program kept h × SpareAt items kept h
    × ((kept h.fabric).local.phase ≡ phase.Gone) × HasRead e (kept h.fabric)

-- a place that is not closed still stands
abbrev pub Stays : Turn → Type 0 → Type 0
Stays Went P = P
Stays Polled P = P
Stays (Closed e) P = Unit {0}
