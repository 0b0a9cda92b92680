-- The numbers of edges, and the words of the start.
use Rattle.std.specs.Prelude.{◌≡◌, ℕ, zero, suc, ◌+◌, ◌-◌, ◌*◌, ◌<◌, List, [], ◌∷◌, ◌++◌, length, replicate, cond, get_or, slice_set, Bool, true, false}
use mathlib.Core.Option.{some}
use lib.ListN.{get_elem?}
use Rattle.glb_cube.specs.Lines.{Cube, outs_of}
use Rattle.glb_laws.specs.Sums.{sum_to}
use Rattle.glb_rules.specs.declared.kinds.Kind.{Kind}
use Rattle.glb_rules.specs.declared.kinds.Kind.TheVariants as kind
use Rattle.glb_rules.specs.Joins.{join_to}

-- the number of the first line of a thief: all steal edges, and the lines of the thieves before
abbrev pub first_number : Cube → ℕ → ℕ
first_number c t = c.places * (c.places - 1) + sum_to t (λ u. length (outs_of c u))

-- the numbers from `next` on, each at `base` and a victim
abbrev pub fill : List ℕ → ℕ → ℕ → List ℕ → List ℕ
fill xs base next [] = xs
fill xs base next (v ∷ vs) = fill (slice_set xs (base + v) next) base (next + 1) vs

-- the numbers of the lines of the thieves below t, at thief * places + victim
abbrev pub filled : Cube → ℕ → List ℕ
filled c zero = replicate (c.places * c.places) 0
filled c (suc t) = fill (filled c t) (t * c.places) (first_number c t) (outs_of c t)

-- the word of each line of a thief at the start
abbrev pub line_words : Cube → (ℕ → Bool) → ℕ → List ℕ
line_words c awake t = replicate (length (outs_of c t)) (cond (awake t) 0 2)

-- the words of all edges at the start
abbrev pub edge_words : Cube → (ℕ → Bool) → List ℕ
edge_words c awake =
    replicate (c.places * (c.places - 1)) 0 ++ join_to c.places (line_words c awake)

-- the table has the number of each line
pub record HasNumbers (c : Cube) (xs : List ℕ) : Type 0 where
  pub long : length xs ≡ c.places * c.places
  pub number : (t j v : ℕ) → t < c.places → get_elem? (outs_of c t) j ≡ some v
      → get_or xs (t * c.places + v) 0 ≡ first_number c t + j

-- whether a list has no member
abbrev pub are_empty : {A : Type 0} → List A → Bool
are_empty [] = true
are_empty (x ∷ xs) = false

-- the word by which a gift begins, where these lines are held
abbrev pub word_of_gift : Kind → ℕ → List Bool → ℕ
word_of_gift kind.Steal t held = 3
word_of_gift kind.Line t held = cond (get_or held t false) 4 3
