-- The balances of the places' counters: what a whole run leaves equal.
use Rattle.std.specs.Prelude.{◌≡◌, ℕ, ◌+◌, ◌^◌, ◌<◌, Bool, cond, nat_lt, Some, List, sum_by}
use Rattle.std.specs.Prelude.{slice_get}
use Rattle.glb_stats.specs.declared.counters.Counters.{Counters}

-- how many lines of a place had their request remembered at the start: all of them if it started
-- asleep
abbrev pub armed_lines : ℕ → Bool → ℕ
armed_lines degree awake = cond awake 0 degree

-- the balances of one place that has so many lines, and that started awake or not
pub record PlaceBalances (c : Counters) (degree : ℕ) (awake : Bool) : Type 0 where
  -- each request to a random victim was given up or brought a part
  pub asks : c.asks ≡ c.shrugs + c.got
  -- each line's request is remembered again at the end
  pub lines : armed_lines degree awake + c.line_asks ≡ c.line_got + degree
  -- it sleeps at the end
  pub naps : c.sleeps ≡ c.wakes + cond awake 1 0

-- each place balances by itself
abbrev pub EachPlaceBalances : List Counters → List ℕ → List Bool → Type 0
EachPlaceBalances all degrees awake =
    (p : ℕ) (c : Counters) (degree : ℕ) (is_awake : Bool)
    → slice_get all p ≡ Some c
    → slice_get degrees p ≡ Some degree → slice_get awake p ≡ Some is_awake
    → PlaceBalances c degree is_awake

-- the balances of the sums over all places, of a run over trees of so many nodes
pub record SumsBalance (all : List Counters) (nodes : ℕ) : Type 0 where
  -- each node was expanded once
  pub items : sum_by (λ c. c.items) all ≡ nodes
  -- each part that was handed over arrived, with all its units
  pub given : sum_by (λ c. c.given) all ≡ sum_by (λ c. c.got) all
  pub line_given : sum_by (λ c. c.line_given) all ≡ sum_by (λ c. c.line_got) all
  pub units : sum_by (λ c. c.sent_units) all ≡ sum_by (λ c. c.got_units) all
  -- each request to a random victim was answered
  pub answers : sum_by (λ c. c.asks) all ≡ sum_by (λ c. c.denied) all + sum_by (λ c. c.given) all

-- all balances
pub record IsBalanced (all : List Counters) (nodes : ℕ) (degrees : List ℕ) (awake : List Bool)
    : Type 0 where
  pub sums : SumsBalance all nodes
  pub places : EachPlaceBalances all degrees awake

-- each place started awake exactly where it had roots
abbrev pub StartsByRoots : List Bool → List ℕ → Type 0
StartsByRoots awake roots =
    (p : ℕ) (is_awake : Bool) (number : ℕ)
    → slice_get awake p ≡ Some is_awake → slice_get roots p ≡ Some number
    → is_awake ≡ nat_lt 0 number

-- the numbers of units stay below 2^121, so that those of 64 places have a sum of 128 bits
pub record HasSmallUnits (c : Counters) : Type 0 where
  pub sent : c.sent_units < 2 ^ 121
  pub got : c.got_units < 2 ^ 121
