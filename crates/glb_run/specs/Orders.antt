-- What the words of the command order.
use Rattle.std.specs.Prelude.{◌≡◌, Bool, List, Result, Ok, Err}
use Rattle.glb_words.specs.Rules.{Text}
use Rattle.glb_words.specs.Commands.{IsFromClap}
use Rattle.glb_words.specs.Settings.{read_settings, JobFits}
use Rattle.glb_words.specs.declared.fault.WordFault.{WordFault}
use Rattle.glb_words.specs.declared.settings.Settings.{Settings}
use Rattle.glb_rules.specs.Setups.{IsWithinLimits}
use Rattle.glb_run.specs.declared.order.Order.{Order}

-- the job and the parameters that settings give
abbrev pub order_of : Settings → Order
order_of s = record {
  job = s.job;
  params = record {
    places = s.places;
    batch = s.batch;
    tries = s.tries;
    base = s.base;
    seed = s.seed;
    limit = s.limit;
  };
  driver = s.driver;
  fabric = s.fabric;
  stats = s.stats;
  spread = s.spread;
}

abbrev pub order_or_fault : Result Settings WordFault → Result Order WordFault
order_or_fault (Ok s) = Ok (order_of s)
order_or_fault (Err fault) = Err fault

-- the order that the words give, or their first fault
abbrev pub read_order : Bool → List Text → Result Order WordFault
read_order calm words = order_or_fault (read_settings calm words)

-- an order of which clap's matches of the words have the values
abbrev pub IsOrderOfClap : Bool → List Text → Order → Type 0
IsOrderOfClap calm words order = (s : Settings) × (order ≡ order_of s) × IsFromClap calm words s

-- all numbers of an order are within the limits
pub record OrderFits (order : Order) : Type 0 where
  pub job : JobFits order.job
  pub params : IsWithinLimits order.params
