-- What the tables tell of a place.
use Rattle.std.specs.Prelude.{ℕ, ◌<◌, List, length, get_or}
use Rattle.glb_rules.specs.declared.kinds.Kind.{Kind}
use Rattle.glb_rules.specs.declared.kinds.Kind.TheVariants as kind
use Rattle.glb_rules.specs.declared.kinds.Mark.TheVariants as mark
use Rattle.glb_rules.specs.declared.kinds.Phase.{Phase}
use Rattle.glb_rules.specs.declared.kinds.Phase.TheVariants as phase
use Rattle.glb_rules.specs.declared.kinds.Edge.{Edge}
use Rattle.glb_rules.specs.declared.kinds.Edge.TheVariants as edge_state
use Rattle.glb_rules.specs.declared.edges.InEdge.{InEdge}
use Rattle.glb_rules.specs.declared.edges.OutEdge.{OutEdge}
use Rattle.glb_core.specs.declared.world.rows.PlaceRow.{PlaceRow}
use Rattle.glb_core.specs.declared.world.rows.EdgeRow.{EdgeRow}
use Rattle.glb_core.specs.declared.world.rows.EdgeRow.TheVariants as edge_row
use Rattle.glb_core.specs.Tables.{edge_index, mark_index}
use Rattle.glb_core.specs.inner.Effects.{row_state}

abbrev pub row_state_at : {B : Type 0} → List (EdgeRow B) → ℕ → Kind → ℕ → ℕ → Edge
row_state_at edge_rows n k t v = row_state (get_or edge_rows (edge_index n k t v) edge_row.Idle)

-- an in-edge of p with what the tables tell of it
abbrev pub in_seen : {B : Type 0} → PlaceRow B → List (EdgeRow B) → ℕ → ℕ → InEdge → InEdge
in_seen r edge_rows n p x = record x {
  mark = get_or r.marks.items (mark_index n x.kind x.thief) mark.Unseen;
  edge = row_state_at edge_rows n x.kind x.thief p;
}

-- a lifeline of p with what the tables tell of it
abbrev pub out_seen : {B : Type 0} → List (EdgeRow B) → ℕ → ℕ → OutEdge → OutEdge
out_seen edge_rows n p y = record y { edge = row_state_at edge_rows n kind.Line p y.victim }

abbrev pub waited_seen : {B : Type 0} → List (EdgeRow B) → ℕ → ℕ → Phase → Edge
waited_seen edge_rows n p (phase.Waiting v k) = row_state_at edge_rows n k p v
waited_seen edge_rows n p _ = edge_state.Idle

abbrev pub AllThieves : ℕ → List InEdge → Type 0
AllThieves n xs = (i : ℕ) (d : InEdge) → i < length xs → (get_or xs i d).thief < n

abbrev pub AllVictims : ℕ → List OutEdge → Type 0
AllVictims n ys = (i : ℕ) (d : OutEdge) → i < length ys → (get_or ys i d).victim < n
