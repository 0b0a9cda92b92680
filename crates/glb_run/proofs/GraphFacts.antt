-- The lifelines that a run on threads makes are those of its parameters.
use Rattle.std.proofs.Common.{◌≡◌, sym, subst, arith}
use Rattle.glb_cube.specs.Lines.{Cube, IsDimension}
use Rattle.glb_rules.specs.Setups.{IsWithinLimits}
use Rattle.glb_rules.specs.declared.params.Params.{Params}
use Rattle.glb_core.specs.Lifelines.{IsGraphOf}

-- a graph that was made for the places and the base of the parameters is theirs
pub graph_of : (c : Cube) (q : Params) → IsWithinLimits q → c.places ≡ q.places → c.base ≡ q.base
    → IsDimension q.places q.base c.dimension
    → IsGraphOf c q
graph_of c q limits places base dimension = record {
  cube = record {
    some = (let a = limits.places.0 in omega arith);
    base = (let a = limits.base.0 in omega arith);
    dimension = subst (λ n. IsDimension n c.base c.dimension) (sym places)
        (subst (λ b. IsDimension q.places b c.dimension) (sym base) dimension);
  };
  places = places;
  base = base;
}
