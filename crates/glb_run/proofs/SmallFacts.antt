-- The counters of a run that stayed within the limit are small.
use Rattle.std.proofs.Common.{◌≡◌, ℕ, ◌+◌, ◌*◌, ◌^◌, ◌<◌, ◌≤◌, List, [], ◌∷◌, length, arith}
use Rattle.std.proofs.Math.Nat.{mul-le-mul_right}
use Rattle.std.specs.Prelude.{All, get_or, sum_by}
use Rattle.std.proofs.lemmas.List.Elements.{All-head, All-tail}
use Rattle.std.proofs.lemmas.List.Sums.{sum_by-cons, sum_by-le, get_or-le-sum_by}
use Rattle.glb_stats.specs.Balances.{SumsBalance}
use Rattle.glb_stats.specs.declared.counters.Counters.{Counters}
use Rattle.glb_run.specs.ThreadedRuns.{HasSmallCounters}

-- the counters of a place are few for its items, and the units that it sent for the parts given
pub record IsFew (c : Counters) : Type 0 where
  pub asks : c.asks ≤ 64 * c.items
  pub line_asks : c.line_asks ≤ 64 * c.items
  pub answered : c.asks ≡ c.shrugs + c.got
  pub line_got : c.line_got ≤ c.line_asks
  pub sent : c.given < 2 ^ 57 → c.line_given < 2 ^ 57
      → c.sent_units ≤ 2 ^ 64 * (c.given + c.line_given)
  pub wakes : c.wakes ≤ c.line_got
  pub sleeps : c.sleeps ≤ c.wakes + 1

-- a sum of numbers that are each at most 64 times another number
sum_within : {X : Type 0} (f g : X → ℕ) (xs : List X) → All (λ x. f x ≤ 64 * g x) xs
    → sum_by f xs ≤ 64 * sum_by g xs
sum_within f g [] h = omega arith
sum_within f g (x ∷ xs) h =
    let a = All-head (λ x. f x ≤ 64 * g x) x xs h in
    let b = sum_within f g xs (All-tail (λ x. f x ≤ 64 * g x) x xs h) in
    omega (arith, sum_by-cons f x xs, sum_by-cons g x xs)

module _ (all : List Counters) (nodes : ℕ) (few : nodes ≤ 2 ^ 40) (many : length all ≤ 64)
    (sums : SumsBalance all nodes) (each : All IsFew all) where
  asks_le : sum_by (λ c. c.asks) all ≤ 2 ^ 46
  asks_le =
      let a =
      sum_within (λ (c : Counters). c.asks) (λ c. c.items) all (λ k d l. (each k d l).asks)
      in
      let b = sums.items in
      omega arith

  line_got_le : sum_by (λ c. c.line_got) all ≤ 2 ^ 46
  line_got_le =
      let a =
      sum_within (λ (c : Counters). c.line_got) (λ c. c.items) all
      (λ k d l. let x = (each k d l).line_got in let y = (each k d l).line_asks in omega arith)
      in
      let b = sums.items in
      omega arith

  sent_each : All (λ c. c.sent_units ≤ 2 ^ 111) all
  sent_each k d l =
      let e = each k d l in
      let a = asks_le in
      let b = line_got_le in
      let given = get_or-le-sum_by (λ (c : Counters). c.given) all k d l in
      let line_given = get_or-le-sum_by (λ (c : Counters). c.line_given) all k d l in
      let s = sums.answers in
      let t = sums.line_given in
      let small : (get_or all k d).given ≤ 2 ^ 46 = omega arith in
      let line_small : (get_or all k d).line_given ≤ 2 ^ 46 = omega arith in
      let sent = e.sent (omega arith) (omega arith) in
      omega arith

  sent_le : sum_by (λ c. c.sent_units) all ≤ 2 ^ 117
  sent_le =
      let a = sum_by-le (λ (c : Counters). c.sent_units) (2 ^ 111) all sent_each in
      let b : length all * 2 ^ 111 ≤ 64 * 2 ^ 111 = mul-le-mul_right (2 ^ 111) many in
      omega arith

  pub all_small : All HasSmallCounters all
  all_small k d l =
      let e = each k d l in
      let e_asks = e.asks in
      let e_line_asks = e.line_asks in
      let e_answered = e.answered in
      let e_line_got = e.line_got in
      let e_wakes = e.wakes in
      let e_sleeps = e.sleeps in
      let asks = asks_le in
      let line_got = line_got_le in
      let sent = sent_le in
      let own_items = get_or-le-sum_by (λ (c : Counters). c.items) all k d l in
      let own_denied = get_or-le-sum_by (λ (c : Counters). c.denied) all k d l in
      let own_given = get_or-le-sum_by (λ (c : Counters). c.given) all k d l in
      let own_line_given = get_or-le-sum_by (λ (c : Counters). c.line_given) all k d l in
      let own_got = get_or-le-sum_by (λ (c : Counters). c.got_units) all k d l in
      let own_sent = sent_each k d l in
      let s_items = sums.items in
      let s_answers = sums.answers in
      let s_line = sums.line_given in
      let s_units = sums.units in
      record {
        items = omega arith;
        asks = omega arith;
        shrugs = omega arith;
        denied = omega arith;
        given = omega arith;
        got = omega arith;
        line_asks = omega arith;
        line_given = omega arith;
        line_got = omega arith;
        sleeps = omega arith;
        wakes = omega arith;
        units = record { sent = omega arith; got = omega arith };
      }
