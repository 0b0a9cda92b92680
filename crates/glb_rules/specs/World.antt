-- Worlds: the state of all places and of the edges between them.
use Rattle.std.specs.Prelude.{ℕ, ◌-◌, ◌^◌, Bool, true, false, not, cond, ◌&&◌, ◌==◌, List, [], ◌∷◌}
use Rattle.std.specs.Prelude.{length, min}
use Rattle.glb_laws.specs.Numbers.{has_number}
use Rattle.glb_rules.specs.declared.kinds.Kind.{Kind}
use Rattle.glb_rules.specs.declared.kinds.Kind.TheVariants as kind
use Rattle.glb_rules.specs.declared.kinds.Phase.{Phase}
use Rattle.glb_rules.specs.declared.kinds.Phase.TheVariants as phase
use Rattle.glb_rules.specs.declared.kinds.Credit.{Credit}
use Rattle.glb_rules.specs.declared.kinds.Credit.TheVariants as credit
use Rattle.glb_rules.specs.declared.kinds.Mark.{Mark}
use Rattle.glb_rules.specs.declared.kinds.Mark.TheVariants as mark
use Rattle.glb_rules.specs.declared.kinds.Edge.{Edge}
use Rattle.glb_rules.specs.declared.kinds.Edge.TheVariants as edge_state
use Rattle.glb_rules.specs.declared.local.MarkOn.{MarkOn}
use Rattle.glb_rules.specs.declared.local.Local.{Local}

-- the state of an edge; with Loot stand the items of the part that travels
pub data WorldEdge (I : Type 0) : Type 0 where
  Idle : WorldEdge I
  Asked : WorldEdge I
  Refused : WorldEdge I
  Loot : List I → WorldEdge I

-- what does not change in a run
pub record Setup : Type 0 where
  pub places : ℕ
  -- how many random victims a place asks, 0 at one place
  pub tries : ℕ
  pub batch : ℕ
  -- no place has more lines than this, out or in
  pub dimension : ℕ
  -- the victims of a thief's lines, by rising dimension
  pub outs : ℕ → List ℕ
  -- which places had items at the start
  pub awake : ℕ → Bool

-- each place's local state, and each edge by its kind, its thief and its victim; an edge that is not there
-- is Idle
pub record World (I : Type 0) : Type 0 where
  pub place : ℕ → Local I
  pub edge : Kind → ℕ → ℕ → WorldEdge I
  pub live : ℕ
  pub stop : ℕ

-- the kinds are the same
abbrev pub same_kind : Kind → Kind → Bool
same_kind kind.Steal kind.Steal = true
same_kind kind.Steal kind.Line = false
same_kind kind.Line kind.Steal = false
same_kind kind.Line kind.Line = true

-- whether the thief has a line to the victim
unfoldable pub has_line : Setup → ℕ → ℕ → Bool
has_line s t v = has_number v (s.outs t)

-- whether the edge is there
abbrev pub has_edge : Setup → Kind → ℕ → ℕ → Bool
has_edge s kind.Steal t v = not (t == v)
has_edge s kind.Line t v = has_line s t v

-- the mark on the in-edge of this kind from this thief: the newest one put there, or Unseen
abbrev pub mark_at : List MarkOn → Kind → ℕ → Mark
mark_at [] k t = mark.Unseen
mark_at (m ∷ ms) k t = cond (same_kind m.kind k && (m.thief == t)) m.mark (mark_at ms k t)

-- this mark is put on the in-edge of this kind from this thief
abbrev pub put_mark : List MarkOn → Kind → ℕ → Mark → List MarkOn
put_mark ms k t x = record { kind = k; thief = t; mark = x } ∷ ms

-- whether a place in this phase waits on the edge of this kind to this victim
abbrev pub waits_on : Kind → ℕ → Phase → Bool
waits_on k v phase.Working = false
waits_on k v phase.Idle = false
waits_on k v (phase.Waiting u j) = same_kind k j && (v == u)
waits_on k v phase.Asleep = false
waits_on k v phase.Gone = false

-- a line whose request is remembered or has been answered with a part
abbrev pub IsArmed : {I : Type 0} → WorldEdge I → Type 0
IsArmed Idle = ⊥
IsArmed Asked = ⊥
IsArmed Refused = Unit {0}
IsArmed (Loot xs) = Unit {0}

-- what a credit counts
abbrev pub credit_count : Credit → ℕ
credit_count credit.Zero = 0
credit_count credit.One = 1
credit_count credit.Minted = 2
credit_count credit.Taken = 2

-- an edge's state without the items
abbrev pub state_of : {I : Type 0} → WorldEdge I → Edge
state_of Idle = edge_state.Idle
state_of Asked = edge_state.Asked
state_of Refused = edge_state.Refused
state_of (Loot xs) = edge_state.Loot

-- 1 for an edge on which a part travels, else 0
abbrev pub loot_count : {I : Type 0} → WorldEdge I → ℕ
loot_count Idle = 0
loot_count Asked = 0
loot_count Refused = 0
loot_count (Loot xs) = 1

-- 1 for an edge that is Asked, else 0
abbrev pub asked_count : {I : Type 0} → WorldEdge I → ℕ
asked_count Idle = 0
asked_count Asked = 1
asked_count Refused = 0
asked_count (Loot xs) = 0

-- 0 for an edge that is Idle, else 1
abbrev pub busy_count : {I : Type 0} → WorldEdge I → ℕ
busy_count Idle = 0
busy_count Asked = 1
busy_count Refused = 1
busy_count (Loot xs) = 1

-- 1 for an edge that is Idle, else 0
abbrev pub idle_count : {I : Type 0} → WorldEdge I → ℕ
idle_count Idle = 1
idle_count Asked = 0
idle_count Refused = 0
idle_count (Loot xs) = 0

-- a list's units: the number of its members, or 2^64 - 1 where it has more
abbrev pub units_of : {I : Type 0} → List I → ℕ
units_of xs = min (length xs) (2 ^ 64 - 1)

-- the units of the part that travels on the edge
abbrev pub units : {I : Type 0} → WorldEdge I → ℕ
units Idle = 0
units Asked = 0
units Refused = 0
units (Loot xs) = units_of xs

-- the items of the part that travels on the edge
abbrev pub loot_of : {I : Type 0} → WorldEdge I → List I
loot_of Idle = []
loot_of Asked = []
loot_of Refused = []
loot_of (Loot xs) = xs
