-- Two sums and a greatest, as one value.
use Rattle.std.specs.Prelude.{ℕ, ◌^◌, ◌<◌, max}
use Rattle.glb_laws.specs.Bounded.{capped_sum, sat_sum, greatest}
use Rattle.glb_laws.specs.Pair.{both}
use Rattle.glb_laws.specs.declared.sat_sum.SatSum.{SatSum}
use Rattle.glb_laws.specs.declared.greatest.Greatest.{Greatest}
use Rattle.glb_laws.specs.declared.both.Both.{Both}

-- the type of such values
abbrev pub Tallies : Type 0
Tallies = Both SatSum (Both SatSum Greatest)

-- the value with these two sums and this greatest number
abbrev pub tallies : ℕ → ℕ → ℕ → Tallies
tallies first second most = both (sat_sum first) (both (sat_sum second) (greatest most))

-- nothing is counted
abbrev pub no_tallies : Tallies
no_tallies = tallies 0 0 0

-- two such values as one
abbrev pub join_tallies : Tallies → Tallies → Tallies
join_tallies a b =
    tallies (capped_sum a.0.0 b.0.0) (capped_sum a.1.0.0 b.1.0.0) (max a.1.1.0 b.1.1.0)

-- the three numbers are values of 64 bits
abbrev pub AreProperTallies : Tallies → Type 0
AreProperTallies v = (v.0.0 < 2 ^ 64) × ((v.1.0.0 < 2 ^ 64) × (v.1.1.0 < 2 ^ 64))
