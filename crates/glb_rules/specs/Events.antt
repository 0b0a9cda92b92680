-- Whose event it is, which edge it names, and who is at its other end.
use Rattle.std.specs.Prelude.{◌≡◌, ◌<◌, ◌==◌, ◌&&◌, ℕ, Bool, true}
use Rattle.glb_rules.specs.World.{Setup, has_edge, same_kind}
use Rattle.glb_rules.specs.declared.kinds.Kind.{Kind}
use Rattle.glb_rules.specs.declared.kinds.Kind.TheVariants as kind
use Rattle.glb_rules.specs.declared.local.EdgeName.{EdgeName}
use Rattle.glb_rules.specs.declared.event.Event.{Event}
use Rattle.glb_rules.specs.declared.event.Event.TheVariants.{Look, Batch, Ask, Deny, Mint, Give}
use Rattle.glb_rules.specs.declared.event.Event.TheVariants.{Take, Burn, Shrug, Sleep, Leave, Halt}

-- the place whose event it is
abbrev pub actor : Event → ℕ
actor (Look q t k) = q
actor (Batch p) = p
actor (Ask p v k) = p
actor (Deny q t k) = q
actor (Mint q) = q
actor (Give q t k) = q
actor (Take p v k) = p
actor (Burn p) = p
actor (Shrug p v k) = p
actor (Sleep p) = p
actor (Leave p) = p
actor (Halt p c) = p

-- the edge of this kind from this thief to this victim
abbrev pub name_of : Kind → ℕ → ℕ → EdgeName
name_of k t v = record { kind = k; thief = t; victim = v }

-- whether it is the name of the edge of this kind from this thief to this victim
abbrev pub same_name : EdgeName → Kind → ℕ → ℕ → Bool
same_name n k t v = same_kind n.kind k && ((n.thief == t) && (n.victim == v))

-- stands for no edge: an edge from a place to itself is never there
abbrev pub no_edge : ℕ → EdgeName
no_edge p = name_of kind.Steal p p

-- the edge that the event names, if it names one
abbrev pub edge_of : Event → EdgeName
edge_of (Look q t k) = name_of k t q
edge_of (Batch p) = no_edge p
edge_of (Ask p v k) = name_of k p v
edge_of (Deny q t k) = name_of k t q
edge_of (Mint q) = no_edge q
edge_of (Give q t k) = name_of k t q
edge_of (Take p v k) = name_of k p v
edge_of (Burn p) = no_edge p
edge_of (Shrug p v k) = name_of k p v
edge_of (Sleep p) = no_edge p
edge_of (Leave p) = no_edge p
edge_of (Halt p c) = no_edge p

-- the places that the event names are there
abbrev pub IsInRange : Setup → Event → Type 0
IsInRange s e = (actor e < s.places) × ((edge_of e).thief < s.places) ×
    ((edge_of e).victim < s.places)

-- the edge that the event names, if it names one, is there
abbrev pub IsThere : Setup → Event → Type 0
IsThere s (Look q t k) = has_edge s k t q ≡ true
IsThere s (Batch p) = Unit {0}
IsThere s (Ask p v k) = has_edge s k p v ≡ true
IsThere s (Deny q t k) = has_edge s k t q ≡ true
IsThere s (Mint q) = Unit {0}
IsThere s (Give q t k) = has_edge s k t q ≡ true
IsThere s (Take p v k) = has_edge s k p v ≡ true
IsThere s (Burn p) = Unit {0}
IsThere s (Shrug p v k) = has_edge s k p v ≡ true
IsThere s (Sleep p) = Unit {0}
IsThere s (Leave p) = Unit {0}
IsThere s (Halt p c) = Unit {0}

-- the places that the event names are below n
abbrev pub NamesBelow : ℕ → Event → Type 0
NamesBelow n e = (actor e < n) × ((edge_of e).thief < n) × ((edge_of e).victim < n)

-- the place at the other end of the edge that the event changes; its own place where it changes
-- none
abbrev pub other_end : Event → ℕ
other_end (Look q t k) = q
other_end (Batch p) = p
other_end (Ask p v k) = v
other_end (Deny q t k) = t
other_end (Mint q) = q
other_end (Give q t k) = t
other_end (Take p v k) = v
other_end (Burn p) = p
other_end (Shrug p v k) = v
other_end (Sleep p) = p
other_end (Leave p) = p
other_end (Halt p c) = p

-- the event is neither Leave nor Halt
abbrev pub GoesOn : Event → Type 0
GoesOn (Leave p) = ⊥
GoesOn (Halt p c) = ⊥
GoesOn _ = Unit {0}
