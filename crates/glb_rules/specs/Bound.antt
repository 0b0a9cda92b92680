-- The greatest number of events.
use Rattle.std.specs.Prelude.{ℕ, ◌+◌, ◌*◌}
use Rattle.glb_rules.specs.World.{Setup}

-- the greatest number of events, but for Halts, in which so many items are expanded
abbrev pub bound : Setup → ℕ → ℕ
bound s items = (items + s.places) * (7 * s.tries + 11 * s.dimension + 2 * s.places + 3)
