-- What a place sees of the others, as one value, and what it sees before it has looked.
use Rattle.std.specs.Prelude.{◌≡◌, ◌≢◌, ℕ, ◌-◌, ◌^◌, ◌<◌, ◌==◌, Bool, true, false, not, cond, List}
use Rattle.std.specs.Prelude.{[], ◌∷◌, ◌++◌, length, map, min, ◌⊎◌}
use Rattle.glb_laws.specs.Numbers.{has_number}
use Rattle.glb_cube.specs.Lines.{Cube, outs_of}
use Rattle.glb_rules.specs.World.{Idle}
use Rattle.glb_rules.specs.Events.{name_of}
use Rattle.glb_rules.specs.declared.kinds.Kind.TheVariants as kind
use Rattle.glb_rules.specs.declared.kinds.Mark.TheVariants as mark
use Rattle.glb_rules.specs.declared.kinds.Edge.TheVariants as edge_state
use Rattle.glb_rules.specs.declared.local.EdgeName.{EdgeName}
use Rattle.glb_rules.specs.declared.edges.InEdge.{InEdge}
use Rattle.glb_rules.specs.declared.edges.OutEdge.{OutEdge}
use Rattle.glb_core.specs.declared.seen.Seen.{Seen}
use Rattle.glb_rules.specs.Sight.{Sight, each_below}

-- what a Seen tells: the lists in its vectors, and its other fields
abbrev pub sight : Seen → Sight
sight z = record {
  ins = z.ins.items;
  outs = z.outs.items;
  waited = z.waited;
  ended = z.ended;
  stop =
      z.stop;
}

-- the names of a place's in-edges: the steal edges by rising thief, then the lines by rising thief
abbrev pub in_names : Cube → ℕ → List EdgeName
in_names c p =
    each_below c.places (λ t. not (t == p)) (λ t. name_of kind.Steal t p)
    ++ each_below c.places (λ t. has_number p (outs_of c t)) (λ t. name_of kind.Line t p)

-- what is seen lists the edges of this place over this lifeline graph
pub record IsMadeFor (c : Cube) (p : ℕ) (z : Sight) : Type 0 where
  pub ins : map (λ (x : InEdge). name_of x.kind x.thief p) z.ins ≡ in_names c p
  pub outs : map (λ (y : OutEdge). y.victim) z.outs ≡ outs_of c p

-- a steal edge that leads to the place, before it has looked at it
abbrev pub first_steal_in : ℕ → InEdge
first_steal_in t = record
    { thief = t; kind = kind.Steal; mark = mark.Unseen; edge = edge_state.Idle }

-- a line that leads to the place, before it has looked at it
abbrev pub first_line_in : ℕ → InEdge
first_line_in t = record {
  thief = t;
  kind = kind.Line;
  mark = mark.Unseen;
  edge =
      edge_state.Refused;
}

-- a line of the place, before it has looked at it
abbrev pub first_line_out : ℕ → OutEdge
first_line_out v = record { victim = v; edge = edge_state.Refused }

-- before a place has seen anything: its steal edges Idle, its lines and those that lead to it
-- Refused, no mark
abbrev pub first_sight : Cube → ℕ → Sight
first_sight c p = record {
  ins =
      each_below c.places (λ t. not (t == p)) first_steal_in
      ++ each_below c.places (λ t. has_number p (outs_of c t)) first_line_in;
  outs = map first_line_out (outs_of c p);
  waited = edge_state.Idle;
  ended = false;
  stop = 0;
}
