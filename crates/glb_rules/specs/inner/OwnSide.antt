-- What a place knows of its own side of a world.
use Rattle.std.specs.Prelude.{◌≡◌, ◌≢◌, ℕ, ◌-◌, ◌^◌, ◌<◌, ◌==◌, Bool, true, false, not, cond, List}
use Rattle.std.specs.Prelude.{[], ◌∷◌, ◌++◌, length, map, min, ◌⊎◌}
use Rattle.glb_rules.specs.World.{Idle, Asked, Setup, World, has_edge, mark_at, waits_on}
use Rattle.glb_rules.specs.Lawful.{PhaseFits}
use Rattle.glb_rules.specs.declared.kinds.Kind.{Kind}
use Rattle.glb_rules.specs.declared.kinds.Kind.TheVariants as kind
use Rattle.glb_rules.specs.declared.kinds.Phase.TheVariants as phase
use Rattle.glb_rules.specs.declared.kinds.Mark.TheVariants as mark

-- what a place knows of its own side of a lawful world: all that its decision rests on
pub record OwnSide {I : Type 0} (s : Setup) (w : World I) (p : ℕ) : Type 0 where
  pub fits : PhaseFits (w.place p).phase (w.place p).credit (length (w.place p).bag)
  -- the edge waited on is there
  pub near : (v : ℕ) (k : Kind) → (w.place p).phase ≡ phase.Waiting v k
      → (v < s.places) × (has_edge s k p v ≡ true)
  pub pending : (k : Kind) (t : ℕ) → t < s.places
      → mark_at (w.place p).marks k t ≡ mark.Pending → w.edge k t p ≡ Asked
  pub steal : (v : ℕ) → v < s.places
      → waits_on kind.Steal v (w.place p).phase ≡ false → w.edge kind.Steal p v ≡ Idle
  pub line : (v : ℕ) → v < s.places
      → w.edge kind.Line p v ≡ Asked → waits_on kind.Line v (w.place p).phase ≡ true
