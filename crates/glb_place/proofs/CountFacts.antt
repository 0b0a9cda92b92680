-- The counters of a place after it counted something.
use Rattle.std.proofs.Common.{◌≡◌, ℕ, ◌+◌, ◌-◌, ◌^◌, min, ap, arith}
use Rattle.glb_stats.specs.declared.counters.Counters.{Counters}
use Rattle.glb_core.specs.Counters.{counters_of}
use Rattle.glb_rules.specs.declared.local.Counts.{Counts}

-- a number after k more, below the last value or at it
pub more : (a n k : ℕ) → a ≡ min n (2 ^ 64 - 1) → min (a + k) (2 ^ 64 - 1)
    ≡ min (n + k) (2 ^ 64 - 1)
more a n k e = omega arith

-- a number to which nothing was added
pub same : (a n : ℕ) → a ≡ min n (2 ^ 64 - 1) → a ≡ min (n + 0) (2 ^ 64 - 1)
same a n e = omega arith

-- a number of 128 bits after k more
pub wide : (a n k : ℕ) → a ≡ min n (2 ^ 128 - 1) → min (a + k) (2 ^ 128 - 1)
    ≡ min (n + k) (2 ^ 128 - 1)
wide a n k e = omega arith

module _ (c : Counters) (n : Counts) (e : c ≡ counters_of n) where
  -- after items were expanded
  pub counted_items : (k : ℕ) → record c { items = min (c.items + k) (2 ^ 64 - 1) }
      ≡ counters_of (record n { items = n.items + k })
  counted_items k = let f = more c.items n.items k (ap (λ (x : Counters). x.items) e) in λ i.
      record (e i) { items = f i }

  -- after a request to a random victim
  pub counted_ask : record c { asks = min (c.asks + 1) (2 ^ 64 - 1) }
      ≡ counters_of (record n { asks = n.asks + 1; line_asks = n.line_asks + 0 })
  counted_ask =
      let f = more c.asks n.asks 1 (ap (λ (x : Counters). x.asks) e) in
      let g = same c.line_asks n.line_asks (ap (λ (x : Counters). x.line_asks) e) in
      λ i. record (e i) { asks = f i; line_asks = g i }

  -- after one over a lifeline
  pub counted_line_ask : record c { line_asks = min (c.line_asks + 1) (2 ^ 64 - 1) }
      ≡ counters_of (record n { asks = n.asks + 0; line_asks = n.line_asks + 1 })
  counted_line_ask =
      let f = same c.asks n.asks (ap (λ (x : Counters). x.asks) e) in
      let g = more c.line_asks n.line_asks 1 (ap (λ (x : Counters). x.line_asks) e) in
      λ i. record (e i) { asks = f i; line_asks = g i }

  -- after a request from a random thief was refused
  pub counted_denied : record c { denied = min (c.denied + 1) (2 ^ 64 - 1) }
      ≡ counters_of (record n { denied = n.denied + 1 })
  counted_denied = let f = more c.denied n.denied 1 (ap (λ (x : Counters). x.denied) e) in λ i.
      record (e i) { denied = f i }

  -- a refusal over a lifeline is not counted
  pub counted_denied_line : c ≡ counters_of (record n { denied = n.denied + 0 })
  counted_denied_line = let f = same c.denied n.denied (ap (λ (x : Counters). x.denied) e) in λ i.
      record (e i) { denied = f i }

  -- after a refused request was given up
  pub counted_shrug : record c { shrugs = min (c.shrugs + 1) (2 ^ 64 - 1) }
      ≡ counters_of (record n { shrugs = n.shrugs + 1 })
  counted_shrug = let f = more c.shrugs n.shrugs 1 (ap (λ (x : Counters). x.shrugs) e) in λ i.
      record (e i) { shrugs = f i }

  -- one over a lifeline is not counted
  pub counted_shrug_line : c ≡ counters_of (record n { shrugs = n.shrugs + 0 })
  counted_shrug_line = let f = same c.shrugs n.shrugs (ap (λ (x : Counters). x.shrugs) e) in λ i.
      record (e i) { shrugs = f i }

  -- after the place fell asleep
  pub counted_sleep : record c { sleeps = min (c.sleeps + 1) (2 ^ 64 - 1) }
      ≡ counters_of (record n { sleeps = n.sleeps + 1 })
  counted_sleep = let f = more c.sleeps n.sleeps 1 (ap (λ (x : Counters). x.sleeps) e) in λ i.
      record (e i) { sleeps = f i }

  -- after a part was given to a random thief
  pub counted_given : (u : ℕ) → record c {
    given = min (c.given + 1) (2 ^ 64 - 1);
    sent_units = min (c.sent_units + u) (2 ^ 128 - 1);
  }
      ≡ counters_of (record n {
        given = n.given + 1;
        line_given = n.line_given + 0;
        sent_units =
            n.sent_units + u;
      })
  counted_given u =
      let f = more c.given n.given 1 (ap (λ (x : Counters). x.given) e) in
      let g = same c.line_given n.line_given (ap (λ (x : Counters). x.line_given) e) in
      let v = wide c.sent_units n.sent_units u (ap (λ (x : Counters). x.sent_units) e) in
      λ i. record (e i) { given = f i; line_given = g i; sent_units = v i }

  -- after one was given over a lifeline
  pub counted_line_given : (u : ℕ) → record c {
    line_given = min (c.line_given + 1) (2 ^ 64 - 1);
    sent_units = min (c.sent_units + u) (2 ^ 128 - 1);
  }
      ≡ counters_of (record n {
        given = n.given + 0;
        line_given = n.line_given + 1;
        sent_units =
            n.sent_units + u;
      })
  counted_line_given u =
      let f = same c.given n.given (ap (λ (x : Counters). x.given) e) in
      let g = more c.line_given n.line_given 1 (ap (λ (x : Counters). x.line_given) e) in
      let v = wide c.sent_units n.sent_units u (ap (λ (x : Counters). x.sent_units) e) in
      λ i. record (e i) { given = f i; line_given = g i; sent_units = v i }

  -- after a part was taken from a random victim
  pub counted_got : (u w : ℕ) → record c {
    got = min (c.got + 1) (2 ^ 64 - 1);
    got_units = min (c.got_units + u) (2 ^ 128 - 1);
    wakes = min (c.wakes + w) (2 ^ 64 - 1);
  }
      ≡ counters_of (record n {
        got = n.got + 1;
        line_got = n.line_got + 0;
        got_units = n.got_units + u;
        wakes = n.wakes + w;
      })
  counted_got u w =
      let f = more c.got n.got 1 (ap (λ (x : Counters). x.got) e) in
      let g = same c.line_got n.line_got (ap (λ (x : Counters). x.line_got) e) in
      let v = wide c.got_units n.got_units u (ap (λ (x : Counters). x.got_units) e) in
      let y = more c.wakes n.wakes w (ap (λ (x : Counters). x.wakes) e) in
      λ i. record (e i) { got = f i; line_got = g i; got_units = v i; wakes = y i }

  -- after one was taken over a lifeline
  pub counted_line_got : (u w : ℕ) → record c {
    line_got = min (c.line_got + 1) (2 ^ 64 - 1);
    got_units = min (c.got_units + u) (2 ^ 128 - 1);
    wakes = min (c.wakes + w) (2 ^ 64 - 1);
  }
      ≡ counters_of (record n {
        got = n.got + 0;
        line_got = n.line_got + 1;
        got_units = n.got_units + u;
        wakes = n.wakes + w;
      })
  counted_line_got u w =
      let f = same c.got n.got (ap (λ (x : Counters). x.got) e) in
      let g = more c.line_got n.line_got 1 (ap (λ (x : Counters). x.line_got) e) in
      let v = wide c.got_units n.got_units u (ap (λ (x : Counters). x.got_units) e) in
      let y = more c.wakes n.wakes w (ap (λ (x : Counters). x.wakes) e) in
      λ i. record (e i) { got = f i; line_got = g i; got_units = v i; wakes = y i }
