-- What a place knows from what it sees, apart from the order in which it sees it.
use Rattle.std.specs.Prelude.{◌≡◌, ◌≢◌, ℕ, ◌-◌, ◌^◌, ◌<◌, ◌==◌, Bool, true, false, not, cond, List}
use Rattle.std.specs.Prelude.{[], ◌∷◌, ◌++◌, length, map, min, ◌⊎◌}
use Rattle.glb_rules.specs.World.{Setup, World, has_edge, has_line, mark_at}
use Rattle.glb_rules.specs.World.{state_of}
use Rattle.glb_rules.specs.declared.kinds.Kind.{Kind}
use Rattle.glb_rules.specs.declared.kinds.Kind.TheVariants as kind
use Rattle.glb_rules.specs.declared.kinds.Phase.TheVariants as phase
use Rattle.glb_rules.specs.declared.place_state.PlaceState.{PlaceState}
use Rattle.glb_rules.specs.declared.edges.InEdge.{InEdge}
use Rattle.glb_rules.specs.declared.edges.OutEdge.{OutEdge}
use Rattle.glb_rules.specs.Sight.{Sight, IsIn}

-- the state is the place's own, and what is seen is all that it can see, in any order
pub record Sees {I : Type 0} (s : Setup) (w : World I) (p : ℕ) (a : PlaceState) (z : Sight) : Type 0 where
  pub place : a.place ≡ p
  pub same_phase : a.phase ≡ (w.place p).phase
  pub same_credit : a.credit ≡ (w.place p).credit
  pub tries : a.tries ≡ (w.place p).tries
  pub size : a.size ≡ min (length (w.place p).bag) (2 ^ 64 - 1)
  pub victim : 0 < a.tries → (a.victim < s.places) × (p ≢ a.victim)
  pub ins : (x : InEdge) → IsIn x z.ins
      → (x.thief < s.places) × (has_edge s x.kind x.thief p ≡ true)
      × (mark_at (w.place p).marks x.kind x.thief ≡ x.mark)
      × (state_of (w.edge x.kind x.thief p) ≡ x.edge)
  pub all_ins : (k : Kind) (t : ℕ) → t < s.places → has_edge s k t p ≡ true
      → (x : InEdge) × IsIn x z.ins × (x.kind ≡ k) × (x.thief ≡ t)
  pub outs : (y : OutEdge) → IsIn y z.outs
      → (y.victim < s.places) × (has_line s p y.victim ≡ true)
      × (state_of (w.edge kind.Line p y.victim) ≡ y.edge)
  pub all_outs : (v : ℕ) → v < s.places → has_line s p v ≡ true
      → (y : OutEdge) × IsIn y z.outs × (y.victim ≡ v)
  pub waited : (v : ℕ) (k : Kind) → a.phase ≡ phase.Waiting v k → z.waited ≡ state_of (w.edge k p v)
  pub ended : (z.ended ≡ true → w.live ≡ 0) × (w.live ≡ 0 → z.ended ≡ true)
  pub stop : z.stop ≡ w.stop
