-- The tree of packs: the next line is left out, or taken where it fits.
use Rattle.std.specs.Prelude.{ℕ, ◌+◌, ◌-◌, ◌*◌, ◌/◌, ◌^◌, ◌≤◌, min, Bool, true, false, cond, ltb}
use Rattle.std.specs.Prelude.{List, [], ◌∷◌, drop, length, bit_or}
use Rattle.glb_laws.specs.Bounded.{capped_sum, greatest}
use Rattle.glb_laws.specs.declared.greatest.Greatest.{Greatest}
use Rattle.glb_knap.specs.Ranking.{ranked_lines}
use Rattle.glb_knap.specs.declared.line.Line.{Line}
use Rattle.glb_knap.specs.declared.pack.Pack.{Pack}
use Rattle.glb_knap.specs.declared.limits.TheConstants.{MOST_LINES, MOST_NUMBER}

-- what a knapsack can carry, and its lines in the order of the text, each a weight and a value
pub record Problem : Type 0 where
  pub capacity : ℕ
  pub lines : List (ℕ × ℕ)

-- weights are at least 1, and no number is above the limit
abbrev pub AreLines : List (ℕ × ℕ) → Type 0
AreLines [] = Unit {0}
AreLines (p ∷ lines) =
    (1 ≤ p.0) × (p.0 ≤ MOST_NUMBER) × (p.1 ≤ MOST_NUMBER) × AreLines lines

-- the limits of a knapsack
pub record IsProblem (problem : Problem) : Type 0 where
  pub capacity : problem.capacity ≤ MOST_NUMBER
  pub few : length problem.lines ≤ MOST_LINES
  pub lines : AreLines problem.lines

-- nothing is decided
abbrev pub empty_pack : Pack
empty_pack = record { next = 0; weight = 0; value = 0; taken = 0 }

-- the next line is left out
abbrev pub without : Pack → Pack
without pack =
    record { next = pack.next + 1; weight = pack.weight; value = pack.value; taken = pack.taken }

-- the next line is taken
abbrev pub with_line : Line → Pack → Pack
with_line line pack = record {
  next = pack.next + 1;
  weight = pack.weight + line.weight;
  value = capped_sum pack.value line.value;
  taken = bit_or pack.taken line.bit;
}

-- what comes of a pack by the first of these lines
abbrev pub packs_by : ℕ → List Line → Pack → List Pack
packs_by capacity [] pack = []
packs_by capacity (line ∷ lines) pack =
    without pack
    ∷ cond (ltb capacity (pack.weight + line.weight)) [] (with_line line pack ∷ [])

-- the packs one step below
abbrev pub packs_below : Problem → Pack → List Pack
packs_below problem pack =
    packs_by problem.capacity (drop pack.next (ranked_lines problem.lines)) pack

-- what a pack counts for
abbrev pub value_of : Pack → Greatest
value_of pack = greatest (min pack.value (2 ^ 64 - 1))

-- the values of lines taken whole while they fit, and the whole part of the share of the first
-- that no longer fits
unfoldable pub most_of : List Line → ℕ → ℕ
most_of [] room = 0
most_of (line ∷ lines) room =
    cond (ltb room line.weight) (line.value * room / line.weight)
    (line.value + most_of lines (room - line.weight))

-- what the lines that are left can add to a pack; a pack that is too heavy takes nothing
abbrev pub room_for : Problem → Pack → ℕ
room_for problem pack = cond (ltb problem.capacity pack.weight) 0
    (most_of (drop pack.next (ranked_lines problem.lines)) (problem.capacity - pack.weight))

-- no line is without weight
abbrev pub have_weight : List (ℕ × ℕ) → Bool
have_weight [] = true
have_weight (p ∷ lines) = cond (ltb 0 p.0) (have_weight lines) false

-- what a pack and those below it can come to; of lines without weight, which no text has, nothing
-- is known
abbrev pub cap_of : Problem → Pack → ℕ
cap_of problem pack = cond (have_weight problem.lines)
    (capped_sum pack.value (room_for problem pack)) (2 ^ 64 - 1)
