-- Where each event is enabled, and what a step is.
use Rattle.std.specs.Prelude.{◌≡◌, ◌≢◌, ℕ, ◌≤◌, ◌<◌, true, ◌⊎◌, List, ◌++◌, length, IsPermutation}
use Rattle.glb_laws.specs.Expansion.{Moves}
use Rattle.glb_rules.specs.World.{Idle, Asked, Refused, Loot, Setup, World, has_edge, has_line}
use Rattle.glb_rules.specs.World.{mark_at, IsArmed}
use Rattle.glb_rules.specs.Events.{actor, edge_of, IsInRange}
use Rattle.glb_rules.specs.Effects.{Change, touched, after}
use Rattle.glb_rules.specs.declared.kinds.Kind.{Kind}
use Rattle.glb_rules.specs.declared.kinds.Kind.TheVariants as kind
use Rattle.glb_rules.specs.declared.kinds.Phase.TheVariants as phase
use Rattle.glb_rules.specs.declared.kinds.Credit.TheVariants as credit
use Rattle.glb_rules.specs.declared.kinds.Mark.TheVariants as mark
use Rattle.glb_rules.specs.declared.local.EdgeName.{EdgeName}
use Rattle.glb_rules.specs.declared.local.Local.{Local}
use Rattle.glb_rules.specs.declared.event.Event.{Event}
use Rattle.glb_rules.specs.declared.event.Event.TheVariants.{Look, Batch, Ask, Deny, Mint, Give}
use Rattle.glb_rules.specs.declared.event.Event.TheVariants.{Take, Burn, Shrug, Sleep, Leave, Halt}

-- an in-edge of the place is Asked, or an in-line of it is Refused
abbrev pub IsWanted : {I : Type 0} → Setup → World I → ℕ → Type 0
IsWanted s w q =
    (k : Kind) × (t : ℕ) × (t < s.places) × (has_edge s k t q ≡ true)
    × ((w.edge k t q ≡ Asked) ⊎ ((k ≡ kind.Line) × (w.edge k t q ≡ Refused)))

-- the place may take a part from a line on which it does not wait
abbrev pub IsReady : {I : Type 0} → Local I → Type 0
IsReady a =
    (a.phase ≡ phase.Asleep) ⊎ (a.phase ≡ phase.Idle)
    ⊎ ((a.phase ≡ phase.Working) × (a.credit ≡ credit.One))

-- the place has looked at each of its in-edges, and none is Pending
abbrev pub AllClear : {I : Type 0} → Setup → ℕ → Local I → Type 0
AllClear s p a =
    (k : Kind) (t : ℕ) → t < s.places → has_edge s k t p ≡ true → mark_at a.marks k t ≡ mark.Clear

-- the condition of the event, where `a` is the local state of the place whose event it is
abbrev pub IsAble : {I : Type 0} → Setup → World I → Local I → Event → Type 0
IsAble s w a (Look q t k) =
    (a.phase ≡ phase.Working) × (has_edge s k t q ≡ true) × (mark_at a.marks k t ≡ mark.Unseen)
IsAble s w a (Batch p) =
    (a.phase ≡ phase.Working) × (a.credit ≡ credit.One) × AllClear s p a
    × (1 < length a.bag → (t : ℕ) → t < s.places → has_line s t p ≡ true
    → w.edge kind.Line t p ≢ Refused)
IsAble s w a (Ask p v kind.Steal) =
    (a.phase ≡ phase.Idle) × (0 < a.tries) × (has_edge s kind.Steal p v ≡ true)
    × (w.edge kind.Steal p v ≡ Idle)
IsAble s w a (Ask p v kind.Line) =
    (a.phase ≡ phase.Idle) × (a.tries ≡ 0) × (has_edge s kind.Line p v ≡ true)
    × (w.edge kind.Line p v ≡ Idle)
IsAble s w a (Deny q t k) =
    (w.edge k t q ≡ Asked) × (a.phase ≢ phase.Gone)
    × ((a.phase ≢ phase.Working) ⊎ (length a.bag < 2))
IsAble s w a (Mint q) =
    (a.phase ≡ phase.Working) × (a.credit ≡ credit.One) × (1 < length a.bag) × IsWanted s w q
IsAble s w a (Give q t k) =
    (a.phase ≡ phase.Working) × (a.credit ≡ credit.Minted)
    × ((w.edge k t q ≡ Asked) ⊎ ((k ≡ kind.Line) × (w.edge k t q ≡ Refused)))
IsAble s w a (Take p v k) =
    ((taken : List _) × (w.edge k p v ≡ Loot taken))
    × (((a.phase ≡ phase.Waiting v k) × (a.credit ≡ credit.One)) ⊎ ((k ≡ kind.Line) × IsReady a))
IsAble s w a (Burn p) = a.credit ≡ credit.Taken
IsAble s w a (Shrug p v k) = (a.phase ≡ phase.Waiting v k) × (w.edge k p v ≡ Refused)
IsAble s w a (Sleep p) =
    (a.phase ≡ phase.Idle) × (a.tries ≡ 0)
    × ((v : ℕ) → v < s.places → has_line s p v ≡ true → IsArmed (w.edge kind.Line p v))
IsAble s w a (Leave p) = (a.phase ≢ phase.Gone) × ((w.live ≡ 0) ⊎ (w.stop ≢ 0))
IsAble s w a (Halt p c) = (a.phase ≢ phase.Gone) × ((c ≡ 1) ⊎ (c ≡ 2))

-- the event has a case in the world
abbrev pub IsEnabled : {I : Type 0} → Setup → World I → Event → Type 0
IsEnabled s w e = IsAble s w (w.place (actor e)) e

-- which items an event may expand, give or take, and which bag it may leave
abbrev pub Choice : {I : Type 0} → (I → List I) → Setup → Event → List I → List I → Change I
    → Type 0
Choice children s (Batch p) taken rest a =
    (0 < length taken) × (length taken ≤ s.batch) × Moves children a.place.bag taken rest
Choice children s (Give q t k) taken rest a =
    (0 < length taken) × (0 < length rest) × IsPermutation a.place.bag (taken ++ rest)
Choice children s (Take p v k) taken rest a =
    (a.edge ≡ Loot taken) × IsPermutation (taken ++ a.place.bag) rest
Choice children s _ taken rest a = Unit {0}

-- the new world is the old one but for this place, this edge, live and stop, which are those of `b`
pub record Becomes {I : Type 0} (old new : World I) (p : ℕ) (n : EdgeName)
    (b : Change I) : Type 0 where
  pub place : new.place p ≡ b.place
  pub edge : new.edge n.kind n.thief n.victim ≡ b.edge
  pub live : new.live ≡ b.live
  pub stop : new.stop ≡ b.stop
  pub other_places : (q : ℕ) → q ≢ p → new.place q ≡ old.place q
  pub other_edges : (k : Kind) (t v : ℕ)
      → (k ≢ n.kind) ⊎ (t ≢ n.thief) ⊎ (v ≢ n.victim) → new.edge k t v ≡ old.edge k t v

-- the event leads from the old world to the new one; `children` are those of an item
pub record Step {I : Type 0} (children : I → List I) (s : Setup)
    (old : World I) (e : Event) (new : World I) : Type 0 where
  pub in_range : IsInRange s e
  pub enabled : IsEnabled s old e
  pub taken : List I
  pub rest : List I
  pub choice : Choice children s e taken rest (touched old e)
  pub becomes : Becomes old new (actor e) (edge_of e) (after s e taken rest (touched old e))

-- the number of items that the event expands
abbrev pub expanded : {I : Type 0} → Event → List I → ℕ
expanded (Batch p) taken = length taken
expanded _ taken = 0
