-- What a report tells of the counts of a world.
use Rattle.std.specs.Prelude.{ℕ, ◌-◌, ◌^◌, ◌<◌, Bool, List, map, min}
use Rattle.std.specs.List.{range_with_len}
use Rattle.glb_stats.specs.declared.counters.Counters.{Counters}
use Rattle.glb_rules.specs.World.{Setup, World}
use Rattle.glb_rules.specs.Setups.{degree}
use Rattle.glb_rules.specs.declared.local.Counts.{Counts}

-- each number, or the last value of its type where the number is greater
abbrev pub counters_of : Counts → Counters
counters_of c = record {
  items = min c.items (2 ^ 64 - 1);
  asks = min c.asks (2 ^ 64 - 1);
  shrugs = min c.shrugs (2 ^ 64 - 1);
  denied = min c.denied (2 ^ 64 - 1);
  given = min c.given (2 ^ 64 - 1);
  got = min c.got (2 ^ 64 - 1);
  line_asks = min c.line_asks (2 ^ 64 - 1);
  line_given = min c.line_given (2 ^ 64 - 1);
  line_got = min c.line_got (2 ^ 64 - 1);
  sent_units = min c.sent_units (2 ^ 128 - 1);
  got_units = min c.got_units (2 ^ 128 - 1);
  sleeps = min c.sleeps (2 ^ 64 - 1);
  wakes = min c.wakes (2 ^ 64 - 1);
}

-- the counters of each place, by number
abbrev pub all_counters : {I : Type 0} → Setup → World I → List Counters
all_counters s w = map (λ p. counters_of (w.place p).count) (range_with_len 0 s.places)

-- how many lines each has
abbrev pub all_degrees : Setup → List ℕ
all_degrees s = map (degree s) (range_with_len 0 s.places)

-- whether each was awake at the start
abbrev pub all_awake : Setup → List Bool
all_awake s = map s.awake (range_with_len 0 s.places)

-- the numbers are far from the last values of their types
pub record HasSmallCounts (c : Counts) : Type 0 where
  pub items : c.items < 2 ^ 57
  pub asks : c.asks < 2 ^ 57
  pub shrugs : c.shrugs < 2 ^ 57
  pub denied : c.denied < 2 ^ 57
  pub given : c.given < 2 ^ 57
  pub got : c.got < 2 ^ 57
  pub line_asks : c.line_asks < 2 ^ 57
  pub line_given : c.line_given < 2 ^ 57
  pub line_got : c.line_got < 2 ^ 57
  pub sent_units : c.sent_units < 2 ^ 121
  pub got_units : c.got_units < 2 ^ 121
  pub sleeps : c.sleeps < 2 ^ 57
  pub wakes : c.wakes < 2 ^ 57
