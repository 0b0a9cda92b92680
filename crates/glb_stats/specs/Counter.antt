-- The counters one by one: their order in a report, their names, and their numbers.
use Rattle.std.specs.Prelude.{ℕ, List, [], ◌∷◌, codes}
use Rattle.glb_stats.specs.declared.counters.Counters.{Counters}
use Rattle.glb_stats.specs.declared.counter.Counter.{Counter}
use Rattle.glb_stats.specs.declared.counter.Counter.TheVariants as counter

-- all counters, in the order of a report
unfoldable pub every_counter : List Counter
every_counter =
    counter.Items ∷ counter.Asks ∷ counter.Shrugs ∷ counter.Denied ∷ counter.Given ∷ counter.Got
    ∷ counter.LineAsks ∷ counter.LineGiven ∷ counter.LineGot
    ∷ counter.SentUnits ∷ counter.GotUnits ∷ counter.Sleeps ∷ counter.Wakes ∷ []

-- a counter's name in a report
abbrev pub name_of : Counter → List ℕ
name_of counter.Items = codes "items"
name_of counter.Asks = codes "asks"
name_of counter.Shrugs = codes "shrugs"
name_of counter.Denied = codes "denied"
name_of counter.Given = codes "given"
name_of counter.Got = codes "got"
name_of counter.LineAsks = codes "line_asks"
name_of counter.LineGiven = codes "line_given"
name_of counter.LineGot = codes "line_got"
name_of counter.SentUnits = codes "sent_units"
name_of counter.GotUnits = codes "got_units"
name_of counter.Sleeps = codes "sleeps"
name_of counter.Wakes = codes "wakes"

-- a counter's number at a place
abbrev pub number_of : Counter → Counters → ℕ
number_of counter.Items c = c.items
number_of counter.Asks c = c.asks
number_of counter.Shrugs c = c.shrugs
number_of counter.Denied c = c.denied
number_of counter.Given c = c.given
number_of counter.Got c = c.got
number_of counter.LineAsks c = c.line_asks
number_of counter.LineGiven c = c.line_given
number_of counter.LineGot c = c.line_got
number_of counter.SentUnits c = c.sent_units
number_of counter.GotUnits c = c.got_units
number_of counter.Sleeps c = c.sleeps
number_of counter.Wakes c = c.wakes

-- the counters of a place that did nothing
abbrev pub no_counters : Counters
no_counters = record {
  items = 0;
  asks = 0;
  shrugs = 0;
  denied = 0;
  given = 0;
  got = 0;
  line_asks = 0;
  line_given = 0;
  line_got = 0;
  sent_units = 0;
  got_units = 0;
  sleeps = 0;
  wakes = 0;
}
