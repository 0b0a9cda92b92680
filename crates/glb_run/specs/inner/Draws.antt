-- How far the words of a trial were drawn.
use Rattle.std.specs.Prelude.{◌≡◌, ℕ}
use Rattle.rand_pcg.specs.Lcg.{Lcg, advance, started, increment_of}
use Rattle.rand_pcg.specs.Pcg.{multiplier_64}

-- so many words of the trial were drawn
abbrev pub HasDrawn : ℕ → ℕ → Lcg → Type 0
HasDrawn k number g =
    g ≡ advance 64 multiplier_64 number (started 64 multiplier_64 k (increment_of 64 1000))
