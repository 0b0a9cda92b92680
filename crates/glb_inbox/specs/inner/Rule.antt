-- The rule of the table of three words: live, items and stop.
use Rattle.std.specs.Prelude.{◌≡◌, ◌≢◌, ℕ, ◌+◌, ◌*◌, ◌≤◌, ◌<◌, ◌⊎◌, Bool, true, false, cond, List}
use Rattle.std.specs.Prelude.{[], ◌∷◌, length, Option, Some, None}
use Rattle.std.specs.List.{flat_map}
use Rattle.atomic_table.specs.Table.{State}
use Rattle.glb_laws.specs.Expansion.{Expansion}
use Rattle.glb_cube.specs.Lines.{Cube}
use Rattle.glb_rules.specs.World.{Setup, has_edge, has_line, waits_on}
use Rattle.glb_rules.specs.Setups.{IsWithinLimits, IsProper}
use Rattle.glb_core.specs.Lifelines.{setup_of}
use Rattle.glb_rules.specs.Lawful.{Inner, Counted, armed_at_start}
use Rattle.glb_rules.specs.declared.kinds.Kind.{Kind}
use Rattle.glb_rules.specs.declared.kinds.Kind.TheVariants as kind
use Rattle.glb_rules.specs.declared.kinds.Edge.{Edge}
use Rattle.glb_rules.specs.declared.kinds.Edge.TheVariants as seen
use Rattle.glb_rules.specs.declared.kinds.Phase.TheVariants as phase
use Rattle.glb_rules.specs.declared.kinds.Credit.TheVariants as credit
use Rattle.glb_rules.specs.declared.params.Params.{Params}
use Rattle.glb_place.specs.declared.record.Record.{Record}
use Rattle.glb_place.specs.Records.{known_at}
use Rattle.glb_inbox.specs.inner.Members.{total, Each, busy_when, idle_when, own_known, tally}
use Rattle.glb_inbox.specs.inner.Members.{places_in, requests, refusals, parcels, units_in, credits}
use Rattle.glb_inbox.specs.inner.Members.{by_place, above, done_in, left_in}
use Rattle.glb_inbox.specs.declared.view.Member.{Member}
use Rattle.glb_inbox.specs.declared.view.Member.TheVariants.{Place, Request, Refusal, Parcel}

-- what is fixed when the table is made
pub record Job (I : Type 0) : Type 0 where
  pub children : I → List I
  pub lines : Cube
  pub params : Params
  -- which places have items at the start, and all these items
  pub awake : ℕ → Bool
  pub roots : List I

abbrev pub setup : {I : Type 0} → Job I → Setup
setup j = setup_of j.lines j.params j.awake

-- the parameters and the lines are proper
pub record IsGoodJob {I : Type 0} (j : Job I) : Type 0 where
  pub limits : IsWithinLimits j.params
  pub places : j.lines.places ≡ j.params.places
  pub proper : IsProper (setup j)

-- an edge that is Refused or on which a part waits
abbrev pub IsArmedWhen : Edge → Type 0
IsArmedWhen seen.Idle = ⊥
IsArmedWhen seen.Asked = ⊥
IsArmedWhen seen.Refused = Unit {0}
IsArmedWhen seen.Loot = Unit {0}

-- the setup, of the lines and the parameters in the place's record
abbrev pub own_setup : {I : Type 0} → (ℕ → Bool) → Record I → Setup
own_setup awake r = setup_of r.lines r.params awake

-- how many of the place's own steal edges, or of its lines, it knows as other than Idle
abbrev pub own_busy : {I : Type 0} → Kind → Record I → ℕ
own_busy k r = own_known (λ v. busy_when) k r

-- how many of its lines it knows as Idle
abbrev pub own_free : {I : Type 0} → (ℕ → Bool) → Record I → ℕ
own_free awake r =
    own_known (λ v x. cond (has_line (own_setup awake r) r.place v) (idle_when x) 0) kind.Line r

-- what a place's record keeps by itself
pub record Sound {I : Type 0} (awake : ℕ → Bool) (r : Record I) : Type 0 where
  pub near : r.place < r.lines.places
  pub inner : Inner (own_setup awake r) r.place r.local
  pub counted : Counted (own_setup awake r) r.place r.local (own_busy kind.Steal r)
      (own_busy kind.Line r)
      (own_free awake r)
  -- it never knows two of its own steal edges as other than Idle
  pub lone : own_busy kind.Steal r ≤ 1
  -- an edge that is not there is Idle
  pub there : (k : Kind) (v : ℕ) → v < r.lines.places → has_edge (own_setup awake r) k r.place v
      ≡ false
      → known_at r.known k r.place v ≡ seen.Idle
  -- its steal edges are Idle unless it waits on them
  pub steal : (v : ℕ) → v < r.lines.places → r.local.phase ≢ phase.Gone
      → waits_on kind.Steal v r.local.phase ≡ false → known_at r.known kind.Steal r.place v
      ≡ seen.Idle
  -- with credit Zero all its lines are armed, and its steal edges Idle
  pub armed : (v : ℕ) → v < r.lines.places → r.local.credit ≡ credit.Zero
      → has_line (own_setup awake r) r.place v ≡ true
      → IsArmedWhen (known_at r.known kind.Line r.place v)
  pub quiet : (v : ℕ) → v < r.lines.places → r.local.credit ≡ credit.Zero
      → known_at r.known kind.Steal r.place v ≡ seen.Idle
  -- it left because live was 0 or stop was not
  pub gone : r.local.phase ≡ phase.Gone → (r.over ≡ true) ⊎ (r.code ≢ 0)

-- what a record keeps with the three words
pub record Meets {I : Type 0} (live items stop : ℕ) (r : Record I) : Type 0 where
  pub over : r.over ≡ true → live ≡ 0
  pub code : r.code ≤ stop
  pub last : r.last ≤ items

abbrev pub IfBefore : {I : Type 0} → (Record I → Type 0) → Option (Record I) → Type 0
IfBefore F None = Unit {0}
IfBefore F (Some r) = F r

-- the record is one of this job, and keeps what it has to
pub record Fits {I : Type 0} (j : Job I) (live items stop : ℕ) (r : Record I) : Type 0 where
  pub params_are : r.params ≡ j.params
  pub lines_are : r.lines ≡ j.lines
  pub sound : Sound j.awake r
  pub meets : Meets live items stop r

abbrev pub Fine : {I : Type 0} → Job I → ℕ → ℕ → ℕ → Member I → Type 0
Fine j live items stop (Place x) = Fits j live items stop x.kept × IfBefore (Fits j live items stop)
    x.before
Fine j live items stop (Request k) = Unit {0}
Fine j live items stop Refusal = Unit {0}
Fine j live items stop (Parcel k xs) = 0 < length xs

-- what all members keep together
pub record Sums {I : Type 0} (j : Job I) (live items : ℕ) (ms : List (Member I)) : Type 0 where
  pub places : total places_in ms ≡ j.lines.places
  pub asks : total (tally (λ c. c.asks)) ms
      ≡ total (requests kind.Steal) ms + total (tally (λ c. c.denied)) ms + total
      (tally (λ c. c.given)) ms
  pub lines : total (by_place (armed_at_start (setup j))) ms + total (tally (λ c. c.line_asks)) ms
      ≡ total (requests kind.Line) ms + total (tally (λ c. c.line_given)) ms
  pub denied : total (tally (λ c. c.denied)) ms ≡ total refusals ms + total (tally (λ c. c.shrugs))
      ms
  pub given : total (tally (λ c. c.given)) ms ≡ total (parcels kind.Steal) ms + total
      (tally (λ c. c.got)) ms
  pub line_given : total (tally (λ c. c.line_given)) ms
      ≡ total (parcels kind.Line) ms + total (tally (λ c. c.line_got)) ms
  pub units : total (tally (λ c. c.sent_units)) ms ≡ total units_in ms + total
      (tally (λ c. c.got_units)) ms
  pub live_is : live ≡ total credits ms
  pub items_are : items ≡ total (tally (λ c. c.items)) ms

pub record Ruled {I : Type 0} (j : Job I) (live items stop : ℕ) (ms : List (Member I)) : Type 0
  where
    pub good : IsGoodJob j
    pub sums : Sums j live items ms
    pub each : Each (Fine j live items stop) ms
    pub expansion : Expansion j.children j.roots (flat_map done_in ms) (flat_map left_in ms)
    -- a place whose last total was above the limit settles no more
    pub small : items ≤ j.params.limit + j.params.batch * total (above j.params.limit) ms
    pub cause : stop ≡ 1 → j.params.limit < items
    pub codes : stop ≤ 2

-- all members of all views
abbrev pub members : {I : Type 0} → List (List (Member I)) → List (Member I)
members views = flat_map (λ v. v) views

pub record Holds {I : Type 0} (j : Job I) (s : State ℕ (List (Member I))) : Type 0 where
  pub live : ℕ
  pub items : ℕ
  pub stop : ℕ
  pub words : s.words ≡ live ∷ items ∷ stop ∷ []
  pub ruled : Ruled j live items stop (members s.views)
