-- How a call moves the record: by the row of its event.
use Rattle.std.specs.Prelude.{ℕ, true, cond, ◌==◌, List, [], ◌∷◌, max}
use Rattle.glb_rules.specs.Events.{name_of}
use Rattle.glb_rules.specs.Effects.{place_after}
use Rattle.glb_rules.specs.Setups.{tries_of}
use Rattle.glb_rules.specs.declared.kinds.Edge.{Edge}
use Rattle.glb_rules.specs.declared.kinds.Edge.TheVariants as seen
use Rattle.glb_rules.specs.declared.kinds.Kind.{Kind}
use Rattle.glb_rules.specs.declared.kinds.Kind.TheVariants as kind
use Rattle.glb_rules.specs.declared.local.EdgeName.{EdgeName}
use Rattle.glb_rules.specs.declared.event.Event.{Event}
use Rattle.glb_rules.specs.declared.event.Event.TheVariants as event
use Rattle.glb_place.specs.declared.record.Record.{Record}

-- the edge is now known to be in this state
abbrev pub known_row : {I : Type 0} → EdgeName → Edge → Record I → Record I
known_row n x r = record r { known = record { name = n; edge = x } ∷ r.known }

-- the place's local state moved by the event's row
abbrev pub event_row : {I : Type 0} → Event → List I → List I → Edge → Record I → Record I
event_row e taken rest found r =
    record r { local = place_after (tries_of r.params) e taken rest found r.local }

-- a batch that expanded the items `taken` and left `rest`, after which all places have this total
abbrev pub batch_row : {I : Type 0} → ℕ → List I → List I → Record I → Record I
batch_row total taken rest r =
    record (event_row (event.Batch r.place) taken rest seen.Idle r) { last = total }

-- a request was made
abbrev pub ask_row : {I : Type 0} → ℕ → Kind → Record I → Record I
ask_row v k r =
    known_row (name_of k r.place v) seen.Asked
    (event_row (event.Ask r.place v k) [] [] seen.Idle r)

-- a look that moves the mark
abbrev pub mark_row : {I : Type 0} → ℕ → Kind → Edge → Record I → Record I
mark_row t k x r = known_row (name_of k t r.place) x (event_row (event.Look r.place t k) [] [] x r)

-- a request was refused
abbrev pub deny_row : {I : Type 0} → ℕ → Kind → Record I → Record I
deny_row t k r =
    known_row (name_of k t r.place) seen.Refused
    (event_row (event.Deny r.place t k) [] [] seen.Asked r)

-- a credit was taken for a part
abbrev pub mint_row : {I : Type 0} → Record I → Record I
mint_row r = event_row (event.Mint r.place) [] [] seen.Idle r

-- the items `part` were given, and `rest` are left
abbrev pub give_row : {I : Type 0} → ℕ → Kind → List I → List I → Record I → Record I
give_row t k part rest r =
    known_row (name_of k t r.place) seen.Loot
    (event_row (event.Give r.place t k) part rest seen.Asked r)

-- the items `part` were taken, and the bag is then `rest`
abbrev pub take_row : {I : Type 0} → ℕ → Kind → List I → List I → Record I → Record I
take_row v k part rest r =
    known_row (name_of k r.place v) seen.Idle
    (event_row (event.Take r.place v k) part rest seen.Loot r)

-- one credit was given back
abbrev pub burn_row : {I : Type 0} → Record I → Record I
burn_row r = event_row (event.Burn r.place) [] [] seen.Idle r

-- a refused request to a random victim is forgotten, a line stays Refused
abbrev pub shrug_row : {I : Type 0} → ℕ → Kind → Record I → Record I
shrug_row v kind.Steal r =
    known_row (name_of kind.Steal r.place v) seen.Idle
    (event_row (event.Shrug r.place v kind.Steal) [] [] seen.Refused r)
shrug_row v kind.Line r = event_row (event.Shrug r.place v kind.Line) [] [] seen.Refused r

-- the place fell asleep
abbrev pub sleep_row : {I : Type 0} → Record I → Record I
sleep_row r = event_row (event.Sleep r.place) [] [] seen.Idle r

-- the place left
abbrev pub leave_row : {I : Type 0} → Record I → Record I
leave_row r = event_row (event.Leave r.place) [] [] seen.Idle r

-- live was read as 0, and the place left
abbrev pub over_row : {I : Type 0} → Record I → Record I
over_row r = record (leave_row r) { over = true }

-- a code was read or set
abbrev pub halt_row : {I : Type 0} → ℕ → Record I → Record I
halt_row c r = record r { code = max r.code c }

-- stop was read: where it is not 0 the place leaves
abbrev pub halted_row : {I : Type 0} → ℕ → Record I → Record I
halted_row c r = cond (c == 0) (halt_row c r) (leave_row (halt_row c r))
