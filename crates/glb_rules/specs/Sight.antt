-- What a place sees.
use Rattle.std.specs.Prelude.{◌≡◌, ◌≢◌, ℕ, ◌-◌, ◌^◌, ◌<◌, ◌==◌, Bool, true, false, not, cond, List}
use Rattle.std.specs.Prelude.{[], ◌∷◌, ◌++◌, length, map, min, ◌⊎◌}
use Rattle.glb_rules.specs.Joins.{join_to}
use Rattle.glb_rules.specs.World.{Idle, Setup, World, has_edge, mark_at, state_of}
use Rattle.glb_rules.specs.Draws.{drawn}
use Rattle.glb_rules.specs.declared.kinds.Kind.{Kind}
use Rattle.glb_rules.specs.declared.kinds.Kind.TheVariants as kind
use Rattle.glb_rules.specs.declared.kinds.Phase.{Phase}
use Rattle.glb_rules.specs.declared.kinds.Phase.TheVariants as phase
use Rattle.glb_rules.specs.declared.kinds.Edge.{Edge}
use Rattle.glb_rules.specs.declared.kinds.Edge.TheVariants as edge_state
use Rattle.glb_rules.specs.declared.place_state.PlaceState.{PlaceState}
use Rattle.glb_rules.specs.declared.edges.InEdge.{InEdge}
use Rattle.glb_rules.specs.declared.edges.OutEdge.{OutEdge}

-- what is in a Seen
pub record Sight : Type 0 where
  pub ins : List InEdge
  pub outs : List OutEdge
  pub waited : Edge
  pub ended : Bool
  pub stop : ℕ

-- a member for each number below the bound that passes, by rising number
abbrev pub each_below : {A : Type 0} → ℕ → (ℕ → Bool) → (ℕ → A) → List A
each_below bound passes f = join_to bound (λ t. cond (passes t) (f t ∷ []) [])

-- what a place sees of the in-edge of this kind from this thief
abbrev pub in_edge : {I : Type 0} → World I → ℕ → Kind → ℕ → InEdge
in_edge w p k t = record {
  thief = t;
  kind = k;
  mark = mark_at (w.place p).marks k t;
  edge = state_of (w.edge k t p);
}

-- the in-edges of a kind
abbrev pub in_edges : {I : Type 0} → Setup → World I → ℕ → Kind → List InEdge
in_edges s w p k = each_below s.places (λ t. has_edge s k t p) (in_edge w p k)

-- what a place sees of its line to this victim
abbrev pub out_edge : {I : Type 0} → World I → ℕ → ℕ → OutEdge
out_edge w p v = record { victim = v; edge = state_of (w.edge kind.Line p v) }

-- the edge that the place waits on; Idle where it waits on none
abbrev pub edge_waited : {I : Type 0} → World I → ℕ → Phase → Edge
edge_waited w p (phase.Waiting v k) = state_of (w.edge k p v)
edge_waited w p _ = edge_state.Idle

-- all that a place can see in a world
abbrev pub sight_at : {I : Type 0} → Setup → World I → ℕ → Sight
sight_at s w p = record {
  ins = in_edges s w p kind.Steal ++ in_edges s w p kind.Line;
  outs = map (out_edge w p) (s.outs p);
  waited = edge_waited w p (w.place p).phase;
  ended = w.live == 0;
  stop = w.stop;
}

-- its own state; the seed gives its words
abbrev pub state_at : {I : Type 0} → ℕ → Setup → World I → ℕ → PlaceState
state_at seed s w p = record {
  place = p;
  phase = (w.place p).phase;
  credit = (w.place p).credit;
  tries = (w.place p).tries;
  victim = drawn seed s.places p (w.place p).count.asks;
  size = min (length (w.place p).bag) (2 ^ 64 - 1);
}

-- the list has the member
abbrev pub IsIn : {A : Type 0} → A → List A → Type 0
IsIn x [] = ⊥
IsIn x (y ∷ ys) = (x ≡ y) ⊎ IsIn x ys
