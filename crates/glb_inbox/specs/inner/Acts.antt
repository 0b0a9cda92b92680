-- How the record moves at a step of its seat, and what that asks for.
use Rattle.std.specs.Prelude.{◌≡◌, ℕ, ◌≤◌, ◌<◌, true, List, [], ◌∷◌, ◌++◌, length, Some}
use Rattle.std.specs.Prelude.{IsPermutation}
use Rattle.glb_laws.specs.Expansion.{Moves, combined, Expands}
use Rattle.glb_rules.specs.World.{has_edge}
use Rattle.glb_rules.specs.declared.kinds.Kind.{Kind}
use Rattle.glb_rules.specs.declared.kinds.Kind.TheVariants as kind
use Rattle.glb_rules.specs.declared.kinds.Edge.{Edge}
use Rattle.glb_rules.specs.declared.kinds.Edge.TheVariants as seen
use Rattle.glb_rules.specs.declared.kinds.Mark.TheVariants as mark
use Rattle.glb_rules.specs.declared.kinds.Side.{Side}
use Rattle.glb_rules.specs.declared.kinds.Side.TheVariants as side
use Rattle.glb_rules.specs.declared.kinds.Credit.TheVariants as credit
use Rattle.glb_rules.specs.declared.event.Event.TheVariants as event
use Rattle.glb_place.specs.declared.record.Record.{Record}
use Rattle.glb_place.specs.Records.{May, known_at, knows, setup_in}
use Rattle.glb_place.specs.Rows.{ask_row, deny_row, shrug_row, take_row}
use Rattle.glb_place.specs.Calls.{look_row, edge_with, CanFind, HasMore, IsOwn}
use Rattle.glb_inbox.specs.declared.acts.Noted.{Noted}
use Rattle.glb_inbox.specs.declared.acts.Noted.TheVariants.{Look, DenyLine, ShrugLine}
use Rattle.glb_inbox.specs.declared.acts.Sent.{Sent}
use Rattle.glb_inbox.specs.declared.acts.Sent.TheVariants.{Ask, Refuse}
use Rattle.glb_inbox.specs.declared.acts.Got.{Got}
use Rattle.glb_inbox.specs.declared.acts.Got.TheVariants.{Hold, Shrug, Take}
use Rattle.glb_inbox.specs.declared.view.Seated.{Seated}
use Rattle.glb_inbox.specs.declared.view.Member.{Member}
use Rattle.glb_inbox.specs.declared.view.Member.TheVariants.{Place, Request, Refusal, Parcel}
use Rattle.glb_inbox.specs.inner.Members.{wanted}

-- a look inward that finds no message finds the edge as it was known
abbrev pub MayLook : Side → Kind → Edge → Edge → Type 0
MayLook side.Inward k old new = new ≡ old
MayLook side.Outward k old new = CanFind mark.Unseen k side.Outward old new

module _ {I : Type 0} where
  abbrev pub noted : Noted → Record I → Record I
  noted (Look other k s x) r = look_row other k s x r
  noted (DenyLine t) r = deny_row t kind.Line r
  noted (ShrugLine v) r = shrug_row v kind.Line r

  abbrev pub MayNote : Noted → Record I → Type 0
  MayNote (Look other k s x) r = IsOwn r other k s
      × MayLook s k (knows r (edge_with r.place other k s)) x
  MayNote (DenyLine t) r = May r (event.Deny r.place t kind.Line)
  MayNote (ShrugLine v) r = May r (event.Shrug r.place v kind.Line)

  abbrev pub sender : Sent → Record I → Record I
  sender (Ask v k) r = ask_row v k r
  sender (Refuse t) r = deny_row t kind.Steal r

  abbrev pub sent : Sent → List (Member I)
  sent (Ask v k) = Request k ∷ []
  sent (Refuse t) = Refusal ∷ []

  abbrev pub MaySend : Sent → Record I → Type 0
  MaySend (Ask v k) r = May r (event.Ask r.place v k)
  MaySend (Refuse t) r = May r (event.Deny r.place t kind.Steal)

  -- the items of the part that a message carries
  abbrev pub items_in : List (Member I) → List I
  items_in [] = []
  items_in (Place x ∷ v) = []
  items_in (Request k ∷ v) = []
  items_in (Refusal ∷ v) = []
  items_in (Parcel k xs ∷ v) = xs

  abbrev pub got : Got → List (Member I) → Record I → Record I
  got (Hold t k) w r = look_row t k side.Inward seen.Asked r
  got (Shrug v) w r = shrug_row v kind.Steal r
  got (Take v k) w r = take_row v k (items_in w) (items_in w ++ r.local.bag) r

  -- what the message counts for
  abbrev pub Carries : Got → List (Member I) → Type 0
  Carries (Hold t k) w = w ≡ Request k ∷ []
  Carries (Shrug v) w = w ≡ Refusal ∷ []
  Carries (Take v k) w = (part : List I) × (0 < length part) × (w ≡ Parcel k part ∷ [])

  abbrev pub MayGet : Got → Record I → Type 0
  MayGet (Hold t k) r =
      (t < r.lines.places) × (has_edge (setup_in r) k t r.place ≡ true)
      × (wanted k (known_at r.known k t r.place) ≡ 0)
  MayGet (Shrug v) r = May r (event.Shrug r.place v kind.Steal)
  MayGet (Take v k) r = May r (event.Take r.place v k)

  -- the items that a batch may have taken out of the bag
  abbrev pub Takes : {V : Type 0} → (I → List I) → (I → V) → V → (V → V → V) → ℕ → List I → V
      → List I → List I → Type 0
  Takes children value unit combine done items gain bag taken =
      (length taken ≡ done) × Moves children bag taken items
      × (gain ≡ combined value combine unit taken)

  -- what a batch owes
  pub record MayBatch {V : Type 0} (children : I → List I) (value : I → V) (unit : V)
      (combine : V → V → V)
      (done : ℕ) (items : List I) (gain : V) (r : Record I) : Type 0 where
    pub may : May r (event.Batch r.place)
    pub some : 1 ≤ done
    pub most : done ≤ r.params.batch
    pub last : r.last ≤ r.params.limit
    pub moves : Expands children value combine r.local.bag unit done items gain

  -- what a gift owes
  pub record MayGive (t : ℕ) (k : Kind) (part rest : List I) (r : Record I) : Type 0 where
    pub may : May r (event.Give r.place t k)
    pub some : 0 < length part
    pub perm : IsPermutation r.local.bag (part ++ rest)
    pub more : 0 < length rest

  -- the same, before the rest of the bag is known to the seat
  pub record MayOffer (t : ℕ) (k : Kind) (part : List I) (r : Record I) : Type 0 where
    pub may : May r (event.Give r.place t k)
    pub some : 0 < length part
    pub more : HasMore part r

  -- the record before a message was split off, and how the message's row came from it
  pub record Undoes (row : Record I → Record I) (F : Record I → Type 0) (x : Seated I) : Type 0
    where
      pub old : Record I
      pub before : x.before ≡ Some old
      pub is : x.kept ≡ row old
      pub may : F old

  abbrev pub WasSent : Sent → Record I → Type 0
  WasSent (Ask v k) r = has_edge (setup_in r) k r.place v ≡ true
  WasSent (Refuse t) r = (t < r.lines.places) × (known_at r.known kind.Steal t r.place ≡ seen.Asked)

  -- what was known when the part was given
  pub record WasGiven (t : ℕ) (k : Kind) (part rest : List I) (r : Record I) : Type 0 where
    pub near : t < r.lines.places
    pub asked_for : wanted k (known_at r.known k t r.place) ≡ 1
    pub minted : r.local.credit ≡ credit.Minted
    pub perm : IsPermutation r.local.bag (part ++ rest)
