-- What each kind of step does to the world that the table shows: by which event it goes on, if by
-- one.
use Rattle.std.specs.Prelude.{◌≡◌, ◌≢◌, ℕ, ◌+◌, ◌-◌, ◌^◌, ◌%◌, ◌<◌, ◌≤◌, ◌⊎◌, max, List, [], ◌∷◌, ◌++◌, length, slice_set, slice_index, Option, Some, None, Bool, cond, IsPermutation, ◌&&◌, ◌==◌}
use mathlib.Core.Option.{some}
use mathlib.Core.Option as maybe
use lib.ListN.{get_elem?}
use Rattle.glb_laws.specs.Expansion.{Moves}
use Rattle.glb_rules.specs.World.{mark_at}
use Rattle.glb_rules.specs.Steps.{Step}
use Rattle.glb_rules.specs.Decision.{is_mark}
use Rattle.glb_rules.specs.declared.local.EdgeName.{EdgeName}
use Rattle.glb_rules.specs.declared.event.Event.{Event}
use Rattle.glb_rules.specs.declared.event.Event.TheVariants as event
use Rattle.glb_rules.specs.declared.kinds.Kind.TheVariants as kind
use Rattle.glb_rules.specs.declared.kinds.Mark.TheVariants as mark
use Rattle.glb_rules.specs.declared.kinds.Phase.TheVariants as phase
use Rattle.glb_rules.specs.declared.kinds.Edge.TheVariants as seen
use Rattle.glb_place.specs.Records.{May, knows}
use Rattle.glb_place.specs.Calls.{is_working}
use Rattle.glb_place.specs.declared.record.Record.{Record}
use Rattle.glb_cells.specs.declared.view.View.{View}
use Rattle.glb_cells.specs.Shows.{Fixed, Shows, Table, world_of, first}
use Rattle.glb_cells.specs.Plays.{IsFree, asked_on, denied_on, looked_on, learnt_on, begun_on, handed_on, took_on, cleared_on, minted_on, burnt_on, slept_on, ended_on, stopped_on, halted_on, settled_on, given_up_on, shrugged_on, gift_word}

-- the event of a shrug of a line that found this word: none where a part was there
abbrev pub shrug_event : EdgeName → ℕ → Option Event
shrug_event n k = cond (k == 5) None (Some (event.Shrug n.thief n.victim n.kind))

module _ {I : Type 0} where
  -- whether a look at this in-edge is an event
  abbrev pub is_event : EdgeName → Record I → Bool
  is_event n r =
      is_working r.local.phase && is_mark mark.Unseen (mark_at r.local.marks n.kind n.thief)

  -- the event of a look at an in-edge
  abbrev pub look_event : EdgeName → Record I → Option Event
  look_event n r = cond (is_event n r) (Some (event.Look n.victim n.thief n.kind)) None

  -- of a read of live
  abbrev pub over_event : ℕ → Record I → Option Event
  over_event k r = cond (k == 0) (Some (event.Leave r.place)) None

  -- of a read of stop
  abbrev pub stop_event : ℕ → Record I → Option Event
  stop_event k r = cond (k == 0) None (Some (event.Leave r.place))

module _ {B Q I : Type 0} (Γ : Fixed B Q I) where
  -- the world that the table shows follows by this event; where none is named it is the same
  abbrev pub Follows : (s : Table Γ) → Shows Γ s → Option Event → Table Γ → Type 0
  Follows s h None s' = (k : Shows Γ s') × (world_of Γ s' k ≡ world_of Γ s h)
  Follows s h (Some ev) s' =
      (k : Shows Γ s') × Step (Γ.children Γ.program) Γ.lines (world_of Γ s h) ev (world_of Γ s' k)

  -- the table with this word and this view of a seat, and with this slot
  abbrev pub with_word : Table Γ → ℕ → ℕ → ℕ → View Q I → Table Γ
  with_word s id i k r = record {
    words = slice_set s.words i k;
    homes = s.homes;
    views = slice_set s.views id (r ∷ []);
  }

  abbrev pub with_slot : Table Γ → ℕ → ℕ → ℕ → maybe.Option (Option B) → View Q I → Table Γ
  with_slot s id e k x r = record {
    words = slice_set s.words (e + 3) k;
    homes = slice_set s.homes e x;
    views = slice_set s.views id (r ∷ []);
  }

  -- the word of an edge
  abbrev pub edge_word : Table Γ → ℕ → ℕ
  edge_word s e = slice_index s.words (e + 3)

  -- the world that a table shows is one and the same
  abbrev pub OneWorld : Type 0
  OneWorld = (s : Table Γ) (h k : Shows Γ s) → world_of Γ s h ≡ world_of Γ s k

  -- and is the Start while no place has made a step
  abbrev pub AtStart : Type 0
  AtStart =
      (s : Table Γ) (h : Shows Γ s)
      → ((i : ℕ) (v : List (View Q I)) (k : ℕ) (r : View Q I) → get_elem? s.views i ≡ some v
      → get_elem? v k ≡ some r → r.steps ≡ 0)
      → world_of Γ s h ≡ first Γ

  -- the part that lies at an edge
  pub record Lies (s : Table Γ) (e : ℕ) (r : View Q I) : Type 0 where
    pub part : B
    pub at_home : get_elem? s.homes e ≡ some (some (Some part))
    pub fits : Γ.fits part r.program
    pub some : 0 < length (Γ.items part)

  -- it holds of each step of a seat with one view
  abbrev pub OfSeats : ((s : Table Γ) → Shows Γ s → ℕ → View Q I → Type 0) → Type 0
  OfSeats F =
      (s : Table Γ) (h : Shows Γ s) (id : ℕ) (r : View Q I) → get_elem? s.views id ≡ some (r ∷ [])
      → F s h id r

  -- and of each at the edge number e, which is n
  abbrev pub AtEdges : ((s : Table Γ) → Shows Γ s → ℕ → ℕ → EdgeName → View Q I → Type 0) → Type 0
  AtEdges F =
      (s : Table Γ) (h : Shows Γ s) (id e : ℕ) (n : EdgeName) (r : View Q I)
      → get_elem? s.views id ≡ some (r ∷ []) → get_elem? Γ.names e ≡ some n → F s h id e n r

  abbrev pub AskFollows : Type 0
  AskFollows = AtEdges
      (λ s h id e n r. IsFree r → May r.own (event.Ask n.thief n.victim n.kind)
      → (edge_word s e ≡ 0)
      × Follows s h (Some (event.Ask n.thief n.victim n.kind))
      (with_word s id (e + 3) 1 (asked_on n 0 r)))

  abbrev pub DenyFollows : Type 0
  DenyFollows = AtEdges
      (λ s h id e n r. IsFree r → May r.own (event.Deny n.victim n.thief n.kind)
      → (edge_word s e ≡ 1)
      × Follows s h (Some (event.Deny n.victim n.thief n.kind))
      (with_word s id (e + 3) 2 (denied_on n 1 r)))

  -- a look at an own request
  abbrev pub LearnFollows : Type 0
  LearnFollows = AtEdges
      (λ s h id e n r. Follows s h None
      (with_word s id (e + 3) (edge_word s e) (learnt_on n (edge_word s e) r)))

  -- and at a request of another
  abbrev pub LookFollows : Type 0
  LookFollows = AtEdges
      (λ s h id e n r. n.victim ≡ r.own.place → Follows s h (look_event n r.own)
      (with_word s id (e + 3) (edge_word s e) (looked_on n (edge_word s e) r)))

  abbrev pub BeginFollows : Type 0
  BeginFollows = AtEdges
      (λ s h id e n r. (xs : List I) → IsFree r → May r.own (event.Give n.victim n.thief n.kind)
      → ((rest : List I) × IsPermutation r.own.local.bag (xs ++ rest))
      → (get_elem? s.homes e ≡ some (some None))
      × Follows s h None
      (with_slot s id e (gift_word (knows r.own n)) maybe.none (begun_on e xs (edge_word s e) r)))

  -- whatever of the part was known when the slot was taken
  abbrev pub HandFollows : Type 0
  HandFollows = AtEdges
      (λ s h id e n r. (xs : List I) (part : B) (rest : List I) → r.hand ≡ Some (e, xs)
      → May r.own (event.Give n.victim n.thief n.kind) → Γ.fits part r.program
      → 0 < length (Γ.items part) → 0 < length rest
      → IsPermutation r.own.local.bag (Γ.items part ++ rest)
      → Follows s h (Some (event.Give n.victim n.thief n.kind))
      (with_slot s id e 5 (some (Some part)) (handed_on n (edge_word s e) (Γ.items part) rest r)))

  abbrev pub TakeFollows : Type 0
  TakeFollows = AtEdges
      (λ s h id e n r. IsFree r → May r.own (event.Take n.thief n.victim n.kind)
      → (f : Lies s e r)
      × Follows s h (Some (event.Take n.thief n.victim n.kind))
      (with_slot s id e 6 maybe.none (took_on n e (edge_word s e) (Γ.items f.part) r)))

  abbrev pub ClearFollows : Type 0
  ClearFollows = AtEdges
      (λ s h id e n r. (xs : List I) → r.hand ≡ Some (e, xs) → n.thief ≡ r.own.place
      → knows r.own n ≡ seen.Idle
      → Follows s h None (with_slot s id e 0 (some None) (cleared_on (edge_word s e) r)))

  abbrev pub GiveUpFollows : Type 0
  GiveUpFollows = AtEdges
      (λ s h id e n r. n.kind ≡ kind.Steal → IsFree r
      → May r.own (event.Shrug n.thief n.victim n.kind)
      → (edge_word s e ≡ 2)
      × Follows s h (Some (event.Shrug n.thief n.victim n.kind))
      (with_word s id (e + 3) 0 (given_up_on n 2 r)))

  abbrev pub ShrugFollows : Type 0
  ShrugFollows = AtEdges
      (λ s h id e n r. n.kind ≡ kind.Line → May r.own (event.Shrug n.thief n.victim n.kind)
      → Follows s h (shrug_event n (edge_word s e))
      (with_word s id (e + 3) (edge_word s e) (shrugged_on n (edge_word s e) r)))

  abbrev pub MintFollows : Type 0
  MintFollows = OfSeats
      (λ s h id r. May r.own (event.Mint r.own.place)
      → Follows s h (Some (event.Mint r.own.place))
      (with_word s id 0 ((slice_index s.words 0 + 1) % 2 ^ 64)
      (minted_on (slice_index s.words 0) r)))

  -- adding 2^64 - 1 is taking 1 away
  abbrev pub BurnFollows : Type 0
  BurnFollows = OfSeats
      (λ s h id r. slice_index s.words 0 < 2 ^ 64 → May r.own (event.Burn r.own.place)
      → Follows s h (Some (event.Burn r.own.place))
      (with_word s id 0 ((slice_index s.words 0 + (2 ^ 64 - 1)) % 2 ^ 64)
      (burnt_on (slice_index s.words 0) r)))

  abbrev pub SleepFollows : Type 0
  SleepFollows = OfSeats
      (λ s h id r. slice_index s.words 0 < 2 ^ 64 → May r.own (event.Sleep r.own.place)
      → Follows s h (Some (event.Sleep r.own.place))
      (with_word s id 0 ((slice_index s.words 0 + (2 ^ 64 - 1)) % 2 ^ 64)
      (slept_on (slice_index s.words 0) r)))

  abbrev pub OverFollows : Type 0
  OverFollows = OfSeats
      (λ s h id r. r.own.local.phase ≢ phase.Gone
      → Follows s h (over_event (slice_index s.words 0) r.own)
      (with_word s id 0 (slice_index s.words 0) (ended_on (slice_index s.words 0) r)))

  abbrev pub StopFollows : Type 0
  StopFollows = OfSeats
      (λ s h id r. r.own.local.phase ≢ phase.Gone
      → Follows s h (stop_event (slice_index s.words 2) r.own)
      (with_word s id 2 (slice_index s.words 2) (stopped_on (slice_index s.words 2) r)))

  abbrev pub HaltFollows : Type 0
  HaltFollows = OfSeats
      (λ s h id r. (c : ℕ) → r.own.local.phase ≢ phase.Gone → (c ≡ 1) ⊎ (c ≡ 2)
      → (c ≡ 1 → r.own.params.limit < r.own.last)
      → Follows s h (Some (event.Halt r.own.place c))
      (with_word s id 2 (max (slice_index s.words 2) c)
      (halted_on c (slice_index s.words 2) r)))

  abbrev pub SettleFollows : Type 0
  SettleFollows = OfSeats
      (λ s h id r. (done : ℕ) (taken rest : List I) → IsFree r
      → May r.own (event.Batch r.own.place) → 1 ≤ done → done ≤ r.own.params.batch
      → r.own.last ≤ r.own.params.limit
      → Moves (Γ.children r.program) r.own.local.bag taken rest → length taken ≡ done
      → Follows s h (Some (event.Batch r.own.place))
      (with_word s id 1 ((slice_index s.words 1 + done) % 2 ^ 64)
      (settled_on (slice_index s.words 1) done taken rest r)))
