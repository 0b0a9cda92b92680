-- The setup of a run over a lifeline graph.
use Rattle.std.specs.Prelude.{◌≡◌, ℕ, Bool, cond, nat_lt, List, []}
use Rattle.glb_cube.specs.Lines.{Cube, IsCube, outs_of}
use Rattle.glb_rules.specs.World.{Setup}
use Rattle.glb_rules.specs.Setups.{tries_of, has_items}
use Rattle.glb_rules.specs.declared.params.Params.{Params}

-- the lifeline graph is that of the parameters
pub record IsGraphOf (c : Cube) (q : Params) : Type 0 where
  pub cube : IsCube c
  pub places : c.places ≡ q.places
  pub base : c.base ≡ q.base

-- the setup of a run with these parameters over this lifeline graph, in which these places have
-- items at the start
abbrev pub setup_of : Cube → Params → (ℕ → Bool) → Setup
setup_of c q awake = record {
  places = c.places;
  tries = tries_of q;
  batch = q.batch;
  dimension = c.dimension;
  outs = λ t. cond (nat_lt t c.places) (outs_of c t) [];
  awake = awake;
}

-- so where the places have these bags at the start
abbrev pub setup_for : {I : Type 0} → Cube → Params → (ℕ → List I) → Setup
setup_for c q bags = setup_of c q (λ p. has_items (bags p))
