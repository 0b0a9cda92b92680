-- Ways along lifelines, and the one that is taken from a place to another: first every digit that
-- is too high is brought down, then every digit that is too low is brought up.
use Rattle.std.specs.Prelude.{◌≡◌, ℕ, zero, suc, ◌*◌, ◌==◌, cond, nat_lt, Option, Some, None, List}
use Rattle.std.specs.Prelude.{[], ◌∷◌, ◌++◌}
use Rattle.glb_cube.specs.Digits.{digit, target}
use Rattle.glb_cube.specs.Lines.{Cube, IsLine}
use Rattle.glb_laws.specs.Numbers.{IsPath}

-- lifelines lead from `a` over `ps` to `b`
abbrev pub IsWay : Cube → ℕ → List ℕ → ℕ → Type 0
IsWay c a ps b = IsPath (IsLine c) a ps b

-- the list is a way from `a` to `b`, both of them in it
abbrev pub IsWayOf : Cube → ℕ → ℕ → List ℕ → Type 0
IsWayOf c a b way = (ps : List ℕ) × (way ≡ a ∷ ps) × IsWay c a ps b

-- the last one, or `p` where there is none
abbrev pub last_of : ℕ → List ℕ → ℕ
last_of p [] = p
last_of p (q ∷ qs) = last_of q qs

-- the place that comes next, and what follows from there
abbrev pub with_next : Option ℕ → (ℕ → List ℕ) → List ℕ
with_next None rest = []
with_next (Some q) rest = q ∷ rest q

-- the places that lifelines of one dimension reach until the digit is `goal`, at most so many
unfoldable pub walk : ℕ → ℕ → ℕ → ℕ → ℕ → ℕ → List ℕ
walk places base unit goal p zero = []
walk places base unit goal p (suc most) =
    cond (digit base unit p == goal) []
    (with_next (target places base unit p) (λ q. walk places base unit goal q most))

-- a part of a way from `p`, and what follows from its last place
abbrev pub then_from : ℕ → List ℕ → (ℕ → List ℕ) → List ℕ
then_from p part rest = part ++ rest (last_of p part)

-- in one dimension, down to the digit of `b` where that is the lower one
abbrev pub descent_in : ℕ → ℕ → ℕ → ℕ → ℕ → List ℕ
descent_in places base b unit p =
    cond (nat_lt (digit base unit b) (digit base unit p))
    (walk places base unit (digit base unit b) p base) []

-- in one dimension, up to the digit of `b` where that is the higher one
abbrev pub ascent_in : ℕ → ℕ → ℕ → ℕ → ℕ → List ℕ
ascent_in places base b unit p =
    cond (nat_lt (digit base unit p) (digit base unit b))
    (walk places base unit (digit base unit b) p base) []

-- down in so many dimensions, from the one with this unit on
unfoldable pub descent : ℕ → ℕ → ℕ → ℕ → ℕ → ℕ → List ℕ
descent places base b unit zero p = []
descent places base b unit (suc dimensions) p =
    then_from p (descent_in places base b unit p)
    (λ q. descent places base b (unit * base) dimensions q)

-- up in so many dimensions, from the one with this unit on
unfoldable pub ascent : ℕ → ℕ → ℕ → ℕ → ℕ → ℕ → List ℕ
ascent places base b unit zero p = []
ascent places base b unit (suc dimensions) p =
    then_from p (ascent_in places base b unit p)
    (λ q. ascent places base b (unit * base) dimensions q)

-- the places after `a` on the way from `a` to `b`
abbrev pub steps_of : Cube → ℕ → ℕ → List ℕ
steps_of c a b =
    then_from a (descent c.places c.base b 1 c.dimension a)
    (λ q. ascent c.places c.base b 1 c.dimension q)

-- the way from `a` to `b`, with both
abbrev pub way_of : Cube → ℕ → ℕ → List ℕ
way_of c a b = a ∷ steps_of c a b
