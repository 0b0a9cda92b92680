-- A place's record, read as a world: what the place itself can tell of an event's condition is the
-- condition of the event in this world.
use Rattle.std.specs.Prelude.{◌≡◌, ℕ, ◌<◌, Bool, cond, false, ◌⊎◌, List, [], ◌∷◌}
use Rattle.glb_cube.specs.Lines.{Cube}
use Rattle.glb_rules.specs.World.{WorldEdge, Idle, Asked, Refused, Loot, Setup, World, state_of}
use Rattle.glb_rules.specs.Events.{actor, name_of, IsInRange}
use Rattle.glb_rules.specs.Steps.{IsEnabled}
use Rattle.glb_core.specs.Lifelines.{setup_of}
use Rattle.glb_rules.specs.Setups.{tries_of, has_items}
use Rattle.glb_rules.specs.History.{first_edge}
use Rattle.glb_rules.specs.Events.{same_name}
use Rattle.glb_rules.specs.History.{first_local}
use Rattle.glb_rules.specs.declared.kinds.Kind.{Kind}
use Rattle.glb_rules.specs.declared.kinds.Edge.{Edge}
use Rattle.glb_rules.specs.declared.kinds.Edge.TheVariants as seen
use Rattle.glb_rules.specs.declared.local.EdgeName.{EdgeName}
use Rattle.glb_rules.specs.declared.params.Params.{Params}
use Rattle.glb_rules.specs.declared.event.Event.{Event}
use Rattle.glb_place.specs.declared.record.KnownEdge.{KnownEdge}
use Rattle.glb_place.specs.declared.record.Record.{Record}

-- the newest state known of an edge; Idle where none is
abbrev pub known_at : List KnownEdge → Kind → ℕ → ℕ → Edge
known_at [] k t v = seen.Idle
known_at (x ∷ xs) k t v = cond (same_name x.name k t v) x.edge (known_at xs k t v)

-- an edge in this state; the items of a part that travels are not known
abbrev pub edge_like : {I : Type 0} → Edge → WorldEdge I
edge_like seen.Idle = Idle
edge_like seen.Asked = Asked
edge_like seen.Refused = Refused
edge_like seen.Loot = Loot []

-- what is known of the edge
abbrev pub knows : {I : Type 0} → Record I → EdgeName → Edge
knows r n = known_at r.known n.kind n.thief n.victim

-- the setup, as far as the place knows it: not which others were awake at the start
abbrev pub setup_in : {I : Type 0} → Record I → Setup
setup_in r = setup_of r.lines r.params (λ p. false)

-- the world, as the place knows it: it tells of no other place
abbrev pub world_in : {I : Type 0} → Record I → World I
world_in r = record {
  place = λ p. r.local;
  edge = λ k t v. edge_like (known_at r.known k t v);
  live = cond r.over 0 1;
  stop = r.code;
}

-- the place's own side of the event's condition
abbrev pub May : {I : Type 0} → Record I → Event → Type 0
May r e = (actor e ≡ r.place) × IsInRange (setup_in r) e × IsEnabled (setup_in r) (world_in r) e

-- the record is that of the place at the start with these items
pub record IsFirst {I : Type 0} (lines : Cube) (params : Params) (p : ℕ) (bag : List I)
    (r : Record I) : Type 0 where
  pub place : r.place ≡ p
  pub params_are : r.params ≡ params
  pub lines_are : r.lines ≡ lines
  pub local : r.local ≡ first_local (tries_of params) bag
  -- which places are awake at the start
  pub awake : ℕ → Bool
  pub own_awake : awake p ≡ has_items bag
  pub known : (k : Kind) (t v : ℕ) → t < lines.places → v < lines.places → (t ≡ p) ⊎ (v ≡ p)
      → knows r (name_of k t v) ≡ state_of {I = I} (first_edge (setup_of lines params awake) k t v)
  pub last : r.last ≡ 0
  pub over : r.over ≡ false
  pub code : r.code ≡ 0
