-- The lifeline graph: a cyclic hypercube over the places.
use Rattle.std.specs.Prelude.{◌≡◌, ⊤, ℕ, zero, suc, ◌+◌, ◌^◌, ◌<◌, ◌≤◌, ◌==◌, Bool, true, false}
use Rattle.std.specs.Prelude.{cond, List, [], ◌∷◌, filter}
use Rattle.std.specs.List.{range_with_len}
use Rattle.glb_cube.specs.Digits.{targets}
use Rattle.glb_laws.specs.Numbers.{has_number}

-- so many places, as numbers of so many digits in the base
pub record Cube : Type 0 where
  pub places : ℕ
  pub base : ℕ
  pub dimension : ℕ

abbrev pub cube_of : ℕ → ℕ → ℕ → Cube
cube_of places base dimension = record { places = places; base = base; dimension = dimension }

-- the least number from 1 up with which the base's power is at least `places`
pub record IsDimension (places base dimension : ℕ) : Type 0 where
  pub positive : 1 ≤ dimension
  pub enough : places ≤ base ^ dimension
  pub least : (d : ℕ) → 1 ≤ d → places ≤ base ^ d → dimension ≤ d

pub record IsCube (c : Cube) : Type 0 where
  pub some : 1 ≤ c.places
  pub base : 2 ≤ c.base
  pub dimension : IsDimension c.places c.base c.dimension

-- the places to which a place has a lifeline, by rising dimension
abbrev pub outs_of : Cube → ℕ → List ℕ
outs_of c p = targets c.places c.base 1 c.dimension p

-- those places below `bound` that have a lifeline to the place, by rising number
unfoldable pub ins_below : Cube → ℕ → ℕ → List ℕ
ins_below c q bound = filter (λ p. has_number q (outs_of c p)) (range_with_len 0 bound)

-- the places that have a lifeline to the place, by rising number
abbrev pub ins_of : Cube → ℕ → List ℕ
ins_of c q = ins_below c q c.places

-- a lifeline leads from `p` to the place `q`
abbrev pub IsLine : Cube → ℕ → ℕ → Type 0
IsLine c p q = (q < c.places) × (has_number q (outs_of c p) ≡ true)
