-- What each step tells its caller. Word 0 is live, word 1 items, word 2 the stop code, and word e +
-- 3
-- that of the edge number e.
use Rattle.std.specs.Prelude.{◌≡◌, ◌≢◌, ◌⊎◌, ℕ, ◌-◌, ◌+◌, ◌^◌, ◌<◌, ◌≤◌, ◌==◌, ◌&&◌, List, [], ◌∷◌, ◌++◌, map, length, Option, Some, None, cond, IsPermutation}
use Rattle.atomic_table.specs.Table.{Step, Me}
use Rattle.glb_laws.specs.Expansion.{Moves, combined}
use Rattle.glb_rules.specs.World.{mark_at}
use Rattle.glb_rules.specs.Decision.{is_mark}
use Rattle.glb_rules.specs.declared.local.EdgeName.{EdgeName}
use Rattle.glb_rules.specs.declared.event.Event.TheVariants as event
use Rattle.glb_rules.specs.declared.kinds.Kind.TheVariants as kind
use Rattle.glb_rules.specs.declared.kinds.Mark.TheVariants as mark
use Rattle.glb_rules.specs.declared.kinds.Edge.{Edge}
use Rattle.glb_rules.specs.declared.kinds.Edge.TheVariants as seen
use Rattle.glb_place.specs.declared.record.Record.{Record}
use Rattle.glb_place.specs.Rows.{known_row, event_row, mint_row, burn_row, sleep_row, over_row, halt_row, halted_row, batch_row}
use Rattle.glb_place.specs.Calls.{is_working, CanFind}
use Rattle.glb_place.specs.Records.{knows}
use Rattle.glb_rules.specs.declared.kinds.Side.TheVariants as side
use Rattle.glb_cells.specs.declared.view.View.{View}
use Rattle.glb_cells.specs.Words.{read}

-- the rows of events at an edge, by its name
module _ {I : Type 0} where
  abbrev pub asked_at : EdgeName → Record I → Record I
  asked_at n r = known_row n seen.Asked (event_row (event.Ask n.thief n.victim n.kind) [] []
      seen.Idle r)

  abbrev pub marked_at : EdgeName → Edge → Record I → Record I
  marked_at n x r = known_row n x (event_row (event.Look n.victim n.thief n.kind) [] [] x r)

  -- a look at an in-edge is the event Look where the place is Working and the mark is Unseen
  abbrev pub looked_at : EdgeName → Edge → Record I → Record I
  looked_at n x r =
      cond (is_working r.local.phase && is_mark mark.Unseen (mark_at r.local.marks n.kind n.thief))
      (marked_at n x r) (known_row n x r)

  abbrev pub denied_at : EdgeName → Record I → Record I
  denied_at n r = known_row n seen.Refused (event_row (event.Deny n.victim n.thief n.kind) [] []
      seen.Asked r)

  abbrev pub gave_at : EdgeName → List I → List I → Record I → Record I
  gave_at n part rest r =
      known_row n seen.Loot (event_row (event.Give n.victim n.thief n.kind) part rest seen.Asked r)

  abbrev pub took_at : EdgeName → List I → List I → Record I → Record I
  took_at n part rest r =
      known_row n seen.Idle (event_row (event.Take n.thief n.victim n.kind) part rest seen.Loot r)

  -- a refused request to a random victim is given up
  abbrev pub given_up_at : EdgeName → Record I → Record I
  given_up_at n r =
      known_row n seen.Idle (event_row (event.Shrug n.thief n.victim n.kind) [] [] seen.Refused r)

  -- one on a line stays
  abbrev pub left_at : EdgeName → Record I → Record I
  left_at n r = event_row (event.Shrug n.thief n.victim n.kind) [] [] seen.Refused r

  -- loot was there, or the place stops waiting
  abbrev pub shrugged_line_at : EdgeName → ℕ → Record I → Record I
  shrugged_line_at n k r = cond (k == 5) (known_row n seen.Loot r) (left_at n r)

  -- the number live was read, and where it is 0 the place leaves
  abbrev pub read_live : ℕ → Record I → Record I
  read_live n r = cond (n == 0) (over_row r) r

-- the slot of the edge in hand, if there is one
abbrev pub slots_in : {B I : Type 0} → Option (ℕ × List I) → List (ℕ × Option B)
slots_in None = []
slots_in (Some x) = (x.0, None) ∷ []

abbrev pub no_name : EdgeName
no_name = record { kind = kind.Steal; thief = 0; victim = 0 }

module _ {Q I : Type 0} where
  -- the view after one more step on a word, which found k: its record and the part in hand are
  -- these,
  -- and nothing else of it changes
  abbrev pub stepped : ℕ → Record I → Option (ℕ × List I) → View Q I → View Q I
  stepped k x hand r = record r { own = x; hand = hand; steps = r.steps + 1; found = k }

  -- a step that leaves the part in hand
  abbrev pub after_step : ℕ → Record I → View Q I → View Q I
  after_step k x r = stepped k x r.hand r

  abbrev pub minted_on : ℕ → View Q I → View Q I
  minted_on k r = after_step k (mint_row r.own) r

  abbrev pub burnt_on : ℕ → View Q I → View Q I
  burnt_on k r = after_step k (burn_row r.own) r

  abbrev pub slept_on : ℕ → View Q I → View Q I
  slept_on k r = after_step k (sleep_row r.own) r

  abbrev pub ended_on : ℕ → View Q I → View Q I
  ended_on k r = after_step k (read_live k r.own) r

  abbrev pub stopped_on : ℕ → View Q I → View Q I
  stopped_on k r = after_step k (halted_row k r.own) r

  abbrev pub halted_on : ℕ → ℕ → View Q I → View Q I
  halted_on c k r = after_step k (halt_row c r.own) r

  abbrev pub asked_on : EdgeName → ℕ → View Q I → View Q I
  asked_on n k r = after_step k (asked_at n r.own) r

  abbrev pub denied_on : EdgeName → ℕ → View Q I → View Q I
  denied_on n k r = after_step k (denied_at n r.own) r

  -- a look at an in-edge, and at an out-edge
  abbrev pub looked_on : EdgeName → ℕ → View Q I → View Q I
  looked_on n k r = after_step k (looked_at n (read k) r.own) r

  abbrev pub learnt_on : EdgeName → ℕ → View Q I → View Q I
  learnt_on n k r = after_step k (known_row n (read k) r.own) r

  abbrev pub given_up_on : EdgeName → ℕ → View Q I → View Q I
  given_up_on n k r = after_step k (given_up_at n r.own) r

  abbrev pub shrugged_on : EdgeName → ℕ → View Q I → View Q I
  shrugged_on n k r = after_step k (shrugged_line_at n k r.own) r

  abbrev pub begun_on : ℕ → List I → ℕ → View Q I → View Q I
  begun_on e xs k r = stepped k r.own (Some (e, xs)) r

  abbrev pub handed_on : EdgeName → ℕ → List I → List I → View Q I → View Q I
  handed_on n k part rest r = stepped k (gave_at n part rest r.own) None r

  abbrev pub took_on : EdgeName → ℕ → ℕ → List I → View Q I → View Q I
  took_on n e k xs r =
      stepped k (took_at n xs (xs ++ r.own.local.bag) r.own) (Some (e, xs)) r

  abbrev pub cleared_on : ℕ → View Q I → View Q I
  cleared_on k r = stepped k r.own None r

  abbrev pub settled_on : ℕ → ℕ → List I → List I → View Q I → View Q I
  settled_on k done taken rest r = after_step k (batch_row (k + done) taken rest r.own) r

  -- no part is being put in or taken out, and no slot is held
  abbrev pub IsFree : View Q I → Type 0
  IsFree r = r.hand ≡ None

  -- The slots that a seat with this view holds between two calls: that of the edge in hand. It is
  -- empty, for a part goes in or comes out within one call.
  abbrev pub slots_of : {B : Type 0} → View Q I → List (ℕ × Option B)
  slots_of r = slots_in r.hand

  -- the view is one place's with this fact, and the seat holds the slots that the view tells
  abbrev pub Reads : {B : Type 0} → Me (Option B) (List (View Q I)) → (View Q I → Type 0) → Type 0
  Reads me fact = (r : View Q I) × (me ≡ (r ∷ [], slots_of r)) × fact r

-- a list cut in its first member and the rest
abbrev pub first_of : {A : Type 0} → List A → List A
first_of [] = []
first_of (x ∷ xs) = x ∷ []

abbrev pub rest_of : {A : Type 0} → List A → List A
rest_of [] = []
rest_of (x ∷ xs) = xs

-- it holds of the first, if there is one
abbrev pub OnFirst : {A : Type 0} → (A → Type 0) → List A → Type 0
OnFirst f [] = Unit {0}
OnFirst f (x ∷ xs) = f x

abbrev pub Seated : Type 0 → Type 0 → Type 0 → Type 0
Seated B Q I = Me (Option B) (List (View Q I))

-- the word that says that a part is being put in, for a request that was known so
abbrev pub gift_word : Edge → ℕ
gift_word seen.Refused = 4
gift_word _ = 3

module _ {B Q I : Type 0} where
  -- The seat m made one step, which found k: its view has this record and this part in hand, and it
  -- holds these slots. Each play below is such a step, so none tells of an answer without its step.
  abbrev pub Stepped : ℕ → (View Q I → Record I) → (View Q I → Option (ℕ × List I))
      → List (ℕ × Option B) → Seated B Q I → Seated B Q I → Type 0
  Stepped k own hand slots m m' = m' ≡ (map (λ r. stepped k (own r) (hand r) r) m.0, slots)

  -- a step that leaves the part in hand and the slots
  abbrev pub Moved : ℕ → (Record I → Record I) → Seated B Q I → Seated B Q I → Type 0
  Moved k row m m' = Stepped k (λ r. row r.own) (λ r. r.hand) m.1 m m'

  abbrev pub Mints : Step (Option B) → Seated B Q I → ℕ → Seated B Q I → Type 0
  Mints st m k m' = Moved k mint_row m m'

  abbrev pub Burns : Step (Option B) → Seated B Q I → ℕ → Seated B Q I → Type 0
  Burns st m k m' = Moved k burn_row m m'

  abbrev pub Sleeps : Step (Option B) → Seated B Q I → ℕ → Seated B Q I → Type 0
  Sleeps st m k m' = Moved k sleep_row m m'

  abbrev pub Overs : Step (Option B) → Seated B Q I → ℕ → Seated B Q I → Type 0
  Overs st m k m' = Moved k (read_live k) m m'

  abbrev pub Halts : Step (Option B) → Seated B Q I → ℕ → Seated B Q I → Type 0
  Halts st m k m' = Moved k (halt_row st.first) m m'

  -- the code is none that the place had not read or set
  abbrev pub Stops : Step (Option B) → Seated B Q I → ℕ → Seated B Q I → Type 0
  Stops st m k m' = Moved k (halted_row k) m m' × OnFirst (λ r. r.own.code ≤ k) m.0

  abbrev pub Asks : EdgeName → Step (Option B) → Seated B Q I → ℕ → Seated B Q I → Type 0
  Asks n st m k m' = (k ≡ 0) × Moved k (asked_at n) m m'

  abbrev pub Denies : EdgeName → Step (Option B) → Seated B Q I → ℕ → Seated B Q I → Type 0
  Denies n st m k m' = (k ≡ 1) × Moved k (denied_at n) m m'

  -- it found what was possible
  abbrev pub Looks : EdgeName → Step (Option B) → Seated B Q I → ℕ → Seated B Q I → Type 0
  Looks n st m k m' =
      Moved k (looked_at n (read k)) m m'
      × OnFirst (λ r. CanFind (mark_at r.own.local.marks n.kind n.thief) n.kind side.Inward
      (knows r.own n) (read k)) m.0

  abbrev pub Learns : EdgeName → Step (Option B) → Seated B Q I → ℕ → Seated B Q I → Type 0
  Learns n st m k m' =
      Moved k (known_row n (read k)) m m'
      × OnFirst (λ r. CanFind (mark_at r.own.local.marks n.kind n.victim) n.kind side.Outward
      (knows r.own n) (read k)) m.0

  abbrev pub GivesUp : EdgeName → Step (Option B) → Seated B Q I → ℕ → Seated B Q I → Type 0
  GivesUp n st m k m' = (k ≡ 2) × Moved k (given_up_at n) m m'

  -- a part was there, or Refused was read
  abbrev pub Shrugs : EdgeName → Step (Option B) → Seated B Q I → ℕ → Seated B Q I → Type 0
  Shrugs n st m k m' =
      Moved k (shrugged_line_at n k) m m' × ((k ≡ 5) ⊎ ((k ≢ 5) × (read k ≡ seen.Refused)))

  abbrev pub Begins : List I → Step (Option B) → Seated B Q I → ℕ → Seated B Q I → Type 0
  Begins xs st m k m' =
      Stepped k (λ r. r.own) (λ r. Some (st.word - 3, xs)) ((st.word - 3, None) ∷ m.1) m m'

  abbrev pub Clears : Step (Option B) → Seated B Q I → ℕ → Seated B Q I → Type 0
  Clears st m k m' = Stepped k (λ r. r.own) (λ r. None) (rest_of m.1) m m'

  -- by moves that took some items, as many as were added, the bag became this list
  module _ {V : Type 0} (children : Q → I → List I) (value : Q → I → V) (combine : V → V → V)
      (unit : V) where
    abbrev pub Settles : List I → List V → Step (Option B) → Seated B Q I → ℕ → Seated B Q I
        → Type 0
    Settles rest gains st m k m' =
        (r : View Q I) × (taken : List I) × (m.0 ≡ r ∷ [])
        × Moves (children r.program) r.own.local.bag taken rest × (length taken ≡ st.first)
        × (gains ≡ combined (value r.program) combine unit taken ∷ [])
        × Moved k (batch_row (k + st.first) taken rest) (r ∷ [], m.1) m'
        × (k + st.first < 2 ^ 64)

module _ {B Q I : Type 0} (items : B → List I) where
  abbrev pub Hands : EdgeName → Step (Option B) → Seated B Q I → ℕ → Seated B Q I → Type 0
  Hands n st m k m' =
      (r : View Q I) × (b : B) × (rest : List I)
      × (m ≡ (r ∷ [], (st.word - 3, Some b) ∷ rest_of m.1))
      × IsPermutation r.own.local.bag (items b ++ rest) × (0 < length rest)
      × Stepped k (λ x. gave_at n (items b) rest x.own) (λ x. None) (rest_of m.1) (r ∷ [], m.1) m'

  abbrev pub Takes : (B → Q → Type 0) → EdgeName → Step (Option B) → Seated B Q I → ℕ → Seated B Q I
      → Type 0
  Takes fits n st m k m' =
      (r : View Q I) × (b : B) × (m.0 ≡ r ∷ []) × fits b r.program × (0 < length (items b))
      × Stepped k (λ x. took_at n (items b) (items b ++ x.own.local.bag) x.own)
      (λ x. Some (st.word - 3, items b)) ((st.word - 3, Some b) ∷ m.1) (r ∷ [], m.1) m'

-- the seat with the view r made one more step and keeps the word that it found
abbrev pub IsCounted : {B Q I : Type 0} → ℕ → View Q I → Seated B Q I → Type 0
IsCounted {Q = Q} {I = I} k r m' =
    (r' : View Q I) × (m'.0 ≡ r' ∷ []) × (r'.steps ≡ r.steps + 1) × (r'.found ≡ k)
    × (r'.program ≡ r.program)

-- the play tells of one step that is counted, of a seat with one view
abbrev pub IsOneStep : {B Q I : Type 0}
    → (Step (Option B) → Seated B Q I → ℕ → Seated B Q I → Type 0) → Type 0
IsOneStep {B = B} {Q = Q} {I = I} play =
    (st : Step (Option B)) (m m' : Seated B Q I) (k : ℕ) (r : View Q I) → m.0 ≡ r ∷ []
    → play st m k m' → IsCounted k r m'
