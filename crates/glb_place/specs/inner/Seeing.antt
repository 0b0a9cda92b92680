-- How a place keeps up what it sees.
use Rattle.std.specs.Prelude.{◌≡◌, ℕ, ◌<◌, Bool, true, false, cond, ◌==◌, ◌&&◌, List, length, slice_index_or, map, min, ◌-◌, ◌^◌}
use Rattle.glb_rules.specs.World.{same_kind}
use Rattle.glb_rules.specs.Effects.{phase_after_batch, tries_after}
use Rattle.glb_rules.specs.Sight.{Sight}
use Rattle.glb_rules.specs.Decision.{decide, is_unseen}
use Rattle.glb_rules.specs.declared.kinds.Kind.{Kind}
use Rattle.glb_rules.specs.declared.kinds.Kind.TheVariants as kind
use Rattle.glb_rules.specs.declared.kinds.Edge.{Edge}
use Rattle.glb_rules.specs.declared.kinds.Edge.TheVariants as seen
use Rattle.glb_rules.specs.declared.kinds.Mark.{Mark}
use Rattle.glb_rules.specs.declared.kinds.Mark.TheVariants as mark
use Rattle.glb_rules.specs.declared.place_state.PlaceState.{PlaceState}
use Rattle.glb_rules.specs.declared.edges.InEdge.{InEdge}
use Rattle.glb_rules.specs.declared.edges.OutEdge.{OutEdge}
use Rattle.glb_rules.specs.declared.event.Event.{Event}
use Rattle.glb_rules.specs.declared.event.Event.TheVariants as event
use Rattle.glb_rules.specs.declared.event.Action.TheVariants.{Do, Poll}
use Rattle.glb_place.specs.declared.choice.Choice.{Choice}
use Rattle.glb_place.specs.declared.choice.Choice.TheVariants as choice

-- whether it is the in-edge of this kind from this thief
abbrev pub is_from : Kind → ℕ → InEdge → Bool
is_from k t x = same_kind k x.kind && (t == x.thief)

-- that in-edge with another mark and another state
abbrev pub with_mark : Kind → ℕ → Mark → Edge → InEdge → InEdge
with_mark k t m e x = cond (is_from k t x) (record x { mark = m; edge = e }) x

-- the in-edge, at which the place has not looked
abbrev pub unmarked : InEdge → InEdge
unmarked x = record x { mark = mark.Unseen }

-- the line to this victim with another state
abbrev pub with_line : ℕ → Edge → OutEdge → OutEdge
with_line v e y = cond (v == y.victim) (record y { edge = e }) y

-- the in-edges before this one are looked at
abbrev pub LookedBefore : List InEdge → ℕ → Type 0
LookedBefore ins n = (i : ℕ) (d : InEdge) → i < n → is_unseen (slice_index_or ins i d) ≡ false

-- the event is no look
abbrev pub NoLook : Event → Type 0
NoLook (event.Look p t k) = ⊥
NoLook _ = Unit {0}

-- the choice is what the place decides; a look is one at the in-edge with the number `first`
abbrev pub ChoosesBy : PlaceState → Sight → ℕ → Choice → Type 0
ChoosesBy a z first choice.Looks =
    (first < length z.ins)
    × ((d : InEdge) → decide a z
    ≡ Do (event.Look a.place (slice_index_or z.ins first d).thief
    (slice_index_or z.ins first d).kind))
ChoosesBy a z first (choice.Acts e) = (decide a z ≡ Do e) × NoLook e
ChoosesBy a z first choice.Polls = decide a z ≡ Poll

-- the lines, where an edge of the place of this kind is in another state
abbrev pub lines_noted : Kind → ℕ → Edge → List OutEdge → List OutEdge
lines_noted kind.Steal v e ys = ys
lines_noted kind.Line v e ys = map (with_line v e) ys

-- the state after a batch that left these items
abbrev pub after_batch : {I : Type 0} → ℕ → List I → PlaceState → PlaceState
after_batch most rest a = record a {
  phase = phase_after_batch rest;
  tries = tries_after most a.tries rest;
  size = min (length rest) (2 ^ 64 - 1);
}

-- the line in this state
abbrev pub with_state : Edge → OutEdge → OutEdge
with_state e y = record y { edge = e }

-- how the lines of a place begin
abbrev pub first_known : Bool → Edge
first_known true = seen.Idle
first_known false = seen.Refused
