-- What a turn answers and does.
use Rattle.std.specs.Prelude.{◌≡◌, ◌≢◌, ℕ, ◌<◌, ◌≤◌, ◌⊎◌, Bool, true, List, [], ◌++◌, length}
use Rattle.glb_rules.specs.World.{has_edge, has_line}
use Rattle.glb_rules.specs.Events.{GoesOn}
use Rattle.glb_rules.specs.Events.{name_of}
use Rattle.glb_rules.specs.declared.kinds.Edge.{Edge}
use Rattle.glb_rules.specs.declared.kinds.Edge.TheVariants as seen
use Rattle.glb_rules.specs.declared.kinds.Kind.{Kind}
use Rattle.glb_rules.specs.declared.kinds.Kind.TheVariants as kind
use Rattle.glb_rules.specs.declared.kinds.Phase.TheVariants as phase
use Rattle.glb_rules.specs.declared.kinds.Side.TheVariants as side
use Rattle.glb_rules.specs.declared.local.EdgeName.{EdgeName}
use Rattle.glb_rules.specs.declared.event.Event.{Event}
use Rattle.glb_rules.specs.declared.event.Event.TheVariants as event
use Rattle.glb_rules.specs.declared.event.Action.TheVariants.{Do, Poll}
use Rattle.glb_place.specs.declared.record.Record.{Record}
use Rattle.glb_place.specs.declared.turn.Turn.{Turn}
use Rattle.glb_place.specs.declared.turn.Turn.TheVariants.{Went, Polled, Closed}
use Rattle.glb_place.specs.declared.turn.Ended.TheVariants.{Over, Halted}
use Rattle.glb_place.specs.Records.{setup_in, knows}
use Rattle.glb_place.specs.Rows.{mark_row, mint_row, burn_row, sleep_row, ask_row, deny_row, give_row, take_row, shrug_row, halt_row, known_row, halted_row, over_row}
use Rattle.glb_place.specs.Calls.{Settles, Gives, MayFind}
use Rattle.glb_place.specs.Looks.{Looks, raised}
use Rattle.glb_place.specs.Places.{decision_of}

-- a batch was settled, which is not partial, and where the total passed the limit the place halted
-- with code 1
pub record Batches {I V : Type 0} (children : I → List I) (value : I → V) (unit : V)
    (combine : V → V → V) (old new : Record I) : Type 0 where
  pub done : ℕ
  pub items : List I
  pub gain : V
  pub total : ℕ
  pub settled : Record I
  pub some : 0 < done
  pub most : done ≤ old.params.batch
  pub settles : Settles children value unit combine done items gain total old settled
  pub not_partial : (done ≡ old.params.batch) ⊎ (items ≡ [])
  pub ends : ((total ≤ old.params.limit) × (new ≡ settled))
      ⊎ ((old.params.limit < total) × (new ≡ halt_row 1 settled))

-- the record moved as the fabric's call for this event says
abbrev pub Acts : {I V : Type 0} → (I → List I) → (I → V) → V → (V → V → V) → Event → Record I
    → Record I → Type 0
Acts children value unit combine (event.Look p t k) old new =
    (x : Edge) × MayFind old t k side.Inward x × (new ≡ mark_row t k x old)
Acts children value unit combine (event.Batch p) old new =
    Batches children value unit combine old new
Acts children value unit combine (event.Ask p v k) old new = new ≡ ask_row v k old
Acts children value unit combine (event.Deny p t k) old new = new ≡ deny_row t k old
Acts children value unit combine (event.Mint p) old new = new ≡ mint_row old
Acts {I = I} children value unit combine (event.Give p t k) old new =
    (part : List I) × (0 < length part) × Gives (give_row t k) part old new
Acts {I = I} children value unit combine (event.Take p v k) old new =
    (part : List I) × (0 < length part) × (new ≡ take_row v k part (part ++ old.local.bag) old)
Acts children value unit combine (event.Burn p) old new = new ≡ burn_row old
Acts children value unit combine (event.Shrug p v k) old new =
    (new ≡ shrug_row v k old)
    ⊎ ((k ≡ kind.Line) × (new ≡ known_row (name_of k old.place v) seen.Loot old))
Acts children value unit combine (event.Sleep p) old new = new ≡ sleep_row old
Acts children value unit combine (event.Leave p) old new = ⊥
Acts children value unit combine (event.Halt p c) old new = ⊥

-- memory was wanting for the event, and the place halted with code 2. Of a batch it settled first
-- what was done, if that was not 0; a part that it took it kept. Only a fabric that may refuse
-- refuses a request or a part.
abbrev pub RanOut : {I V : Type 0} → Bool → (I → List I) → (I → V) → V → (V → V → V) → Event
    → Record I → Record I → Type 0
RanOut refuses children value unit combine (event.Look p t k) old new = ⊥
RanOut {I = I} {V = V} refuses children value unit combine (event.Batch p) old new =
    (new ≡ halt_row 2 old)
    ⊎ ((done : ℕ) × (items : List I) × (gain : V) × (total : ℕ) × (settled : Record I)
    × (0 < done) × (done ≤ old.params.batch)
    × Settles children value unit combine done items gain total old settled
    × (new ≡ halt_row 2 settled))
RanOut refuses children value unit combine (event.Ask p v k) old new =
    (refuses ≡ true) × (new ≡ halt_row 2 old)
RanOut refuses children value unit combine (event.Deny p t k) old new =
    (refuses ≡ true) × (new ≡ halt_row 2 old)
RanOut refuses children value unit combine (event.Mint p) old new = new ≡ halt_row 2 old
RanOut refuses children value unit combine (event.Give p t k) old new =
    (refuses ≡ true) × (new ≡ halt_row 2 old)
RanOut {I = I} refuses children value unit combine (event.Take p v k) old new =
    (part : List I) × (0 < length part)
    × (new ≡ halt_row 2 (take_row v k part (part ++ old.local.bag) old))
RanOut refuses children value unit combine (event.Burn p) old new = ⊥
RanOut refuses children value unit combine (event.Shrug p v k) old new = ⊥
RanOut refuses children value unit combine (event.Sleep p) old new = ⊥
RanOut refuses children value unit combine (event.Leave p) old new = ⊥
RanOut refuses children value unit combine (event.Halt p c) old new = ⊥

-- nothing of the record changed but what is known of the place's own edges, and of each of them
-- what a look may find is known
pub record Learns {I : Type 0} (old new : Record I) : Type 0 where
  pub rest : new ≡ record old { known = new.known }
  pub ins : (k : Kind) (t : ℕ) → MayFind old t k side.Inward (knows new (name_of k t old.place))
  pub outs : (k : Kind) (v : ℕ) → MayFind old v k side.Outward (knows new (name_of k old.place v))
  pub others : (n : EdgeName) → n.thief ≢ old.place → n.victim ≢ old.place
      → knows new n ≡ knows old n

-- what a place does that has read neither a stop code nor the end of the run
abbrev pub Goes : {I V : Type 0} → Bool → Bool → (I → List I) → (I → V) → V → (V → V → V) → Turn
    → Record I → Record I → Type 0
Goes refuses told children value unit combine Went old new =
    (e : Event) × (decision_of told old ≡ Do e) × GoesOn e
    × (Acts children value unit combine e old new
    ⊎ RanOut refuses children value unit combine e old new)
Goes refuses told children value unit combine Polled old new =
    (decision_of told old ≡ Poll) × Learns old new
Goes refuses told children value unit combine (Closed e) old new = ⊥

-- what a turn of a place that is not closed answers, and where it leaves the record: of a fabric
-- that may refuse or may not, and of a place that is told that it is impatient or is not
abbrev pub Answers : {I V : Type 0} → Bool → Bool → (I → List I) → (I → V) → V → (V → V → V) → Turn
    → Record I → Record I → Type 0
Answers refuses told children value unit combine Went old new =
    Goes refuses told children value unit combine Went (halted_row 0 old) new
Answers refuses told children value unit combine Polled old new =
    Goes refuses told children value unit combine Polled (halted_row 0 old) new
Answers refuses told children value unit combine (Closed Over) old new =
    (old.local.phase ≡ phase.Asleep) × (new ≡ over_row (halted_row 0 old))
Answers refuses told children value unit combine (Closed (Halted c)) old new =
    (c ≢ 0) × (new ≡ halted_row c old)

-- a place that polled looked once at each in-edge, at the edge that it waits on, and where it
-- sleeps at each of its lines
pub record LooksAround {I : Type 0} (r : Record I) (old new : Looks) : Type 0 where
  pub ins : (k : Kind) (t : ℕ) → t < r.lines.places → has_edge (setup_in r) k t r.place ≡ true
      → new.edge (name_of k t r.place) ≡ raised (old.edge (name_of k t r.place))
  pub waited : (v : ℕ) (k : Kind) → r.local.phase ≡ phase.Waiting v k
      → new.edge (name_of k r.place v) ≡ raised (old.edge (name_of k r.place v))
  pub outs : (v : ℕ) → r.local.phase ≡ phase.Asleep → v < r.lines.places
      → has_line (setup_in r) r.place v ≡ true
      → new.edge (name_of kind.Line r.place v) ≡ raised (old.edge (name_of kind.Line r.place v))

-- what a turn looked at
abbrev pub TurnLooks : {I : Type 0} → Turn → Record I → Looks → Looks → Type 0
TurnLooks Went r old new = Unit {0}
TurnLooks Polled r old new = LooksAround r old new
TurnLooks (Closed e) r old new = Unit {0}

-- the turn went on after it read stop
abbrev pub NotHalted : Turn → Type 0
NotHalted Went = Unit {0}
NotHalted Polled = Unit {0}
NotHalted (Closed Over) = Unit {0}
NotHalted (Closed (Halted c)) = ⊥
