-- The word and the slot of an edge.
use Rattle.std.specs.Prelude.{◌≡◌, ◌≢◌, ℕ, ◌⊎◌, List, Option, Some, None, nat_eq, if◌then◌else◌}
use mathlib.Core.Option.{some}
use mathlib.Core.Option as maybe
use Rattle.glb_rules.specs.World.{WorldEdge, Idle, Asked, Refused, Loot}
use Rattle.glb_rules.specs.declared.local.EdgeName.{EdgeName}
use Rattle.glb_rules.specs.declared.kinds.Kind.{Kind}
use Rattle.glb_rules.specs.declared.kinds.Kind.TheVariants as kind
use Rattle.glb_rules.specs.declared.kinds.Edge.{Edge}
use Rattle.glb_rules.specs.declared.kinds.Edge.TheVariants as seen

-- what an edge's word and slot are; in a gift the slot is with the victim, and in `emptied` with
-- the
-- thief
pub data Cell (B : Type 0) : Type 0 where
  empty : Cell B
  wanted : Cell B
  denied : Cell B
  wanted_gift : Cell B
  denied_gift : Cell B
  full : B → Cell B
  emptied : Cell B

module _ {B : Type 0} where
  -- the word
  abbrev pub word_of : Cell B → ℕ
  word_of empty = 0
  word_of wanted = 1
  word_of denied = 2
  word_of wanted_gift = 3
  word_of denied_gift = 4
  word_of (full b) = 5
  word_of emptied = 6

  -- the slot, where it is at home
  abbrev pub slot_of : Cell B → maybe.Option (Option B)
  slot_of empty = some None
  slot_of wanted = some None
  slot_of denied = some None
  slot_of wanted_gift = maybe.none
  slot_of denied_gift = maybe.none
  slot_of (full b) = some (Some b)
  slot_of emptied = maybe.none

  -- the edge's state, as the word is read
  abbrev pub cell_state : Cell B → Edge
  cell_state empty = seen.Idle
  cell_state wanted = seen.Asked
  cell_state denied = seen.Refused
  cell_state wanted_gift = seen.Asked
  cell_state denied_gift = seen.Refused
  cell_state (full b) = seen.Loot
  cell_state emptied = seen.Idle

  -- a part at home fits the program; a part is put in for a refused request on a line alone
  abbrev pub Fitting : {Q : Type 0} → (B → Q → Type 0) → Q → Kind → Cell B → Type 0
  Fitting fits q k empty = Unit {0}
  Fitting fits q k wanted = Unit {0}
  Fitting fits q k denied = Unit {0}
  Fitting fits q k wanted_gift = Unit {0}
  Fitting fits q k denied_gift = k ≡ kind.Line
  Fitting fits q k (full b) = fits b q
  Fitting fits q k emptied = Unit {0}

  -- the edge of the world
  abbrev pub edge_of : {I : Type 0} → (B → List I) → Cell B → WorldEdge I
  edge_of items empty = Idle
  edge_of items wanted = Asked
  edge_of items denied = Refused
  edge_of items wanted_gift = Asked
  edge_of items denied_gift = Refused
  edge_of items (full b) = Loot (items b)
  edge_of items emptied = Idle

  -- the slot is with the place p
  abbrev pub IsWith : ℕ → EdgeName → Cell B → Type 0
  IsWith p n empty = ⊥
  IsWith p n wanted = ⊥
  IsWith p n denied = ⊥
  IsWith p n wanted_gift = n.victim ≡ p
  IsWith p n denied_gift = n.victim ≡ p
  IsWith p n (full b) = ⊥
  IsWith p n emptied = n.thief ≡ p

-- a word of an edge, read as its state
abbrev pub read : ℕ → Edge
read n =
    if nat_eq n 0
    then seen.Idle
    else (if nat_eq n 1
    then seen.Asked
    else (if nat_eq n 2
    then seen.Refused
    else (if nat_eq n 3
    then seen.Asked
    else (if nat_eq n 4 then seen.Refused else (if nat_eq n 5 then seen.Loot else seen.Idle)))))

-- what a thief that knows the one may find
abbrev pub Out : Kind → Edge → Edge → Type 0
Out l seen.Idle s = s ≡ seen.Idle
Out l seen.Asked s = s ≢ seen.Idle
Out kind.Line seen.Refused s = (s ≡ seen.Refused) ⊎ (s ≡ seen.Loot)
Out kind.Steal seen.Refused s = s ≡ seen.Refused
Out l seen.Loot s = s ≡ seen.Loot

-- what a victim that knows the one may find
abbrev pub In : Kind → Edge → Edge → Type 0
In l seen.Idle s = (s ≡ seen.Idle) ⊎ (s ≡ seen.Asked)
In l seen.Asked s = s ≡ seen.Asked
In kind.Line seen.Refused s = s ≡ seen.Refused
In kind.Steal seen.Refused s = s ≢ seen.Loot
In l seen.Loot s = s ≢ seen.Refused
