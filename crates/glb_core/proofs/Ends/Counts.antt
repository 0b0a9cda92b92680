-- The counts of a lawful world in which not too many items were done are small.
use Rattle.std.proofs.Common.{ℕ, ◌+◌, ◌*◌, ◌^◌, ◌<◌, ◌≤◌, Bool, true, false, cond, arith}
use Rattle.std.proofs.Math.Nat.{mul-le-mul, mul-le-mul_right}
use Rattle.glb_laws.specs.Sums.{sum_to}
use Rattle.glb_rules.specs.World.{Setup, World, has_line, loot_count}
use Rattle.glb_rules.specs.Setups.{bit, degree}
use Rattle.glb_rules.specs.Lawful.{IsLawful, sum_of_places, sum_of_own_edges, armed_at_start}
use Rattle.glb_core.specs.Counters.{HasSmallCounts}
use Rattle.glb_rules.proofs.Bound.Rises.{no_credit_le}
use Rattle.glb_rules.proofs.Finish.Histories.{loots_most}
use Rattle.glb_rules.proofs.Sums.Totals.{sum_most, sum_plus, sum_times, term_le}
use Rattle.glb_rules.specs.declared.kinds.Kind.TheVariants as kind

bit_most : (b : Bool) → bit b ≤ 1
bit_most true = omega arith
bit_most false = omega arith

module _ {I : Type 0} (s : Setup) (w : World I) (L : IsLawful s w) (few : s.places ≤ 64)
    (tries : s.tries ≤ 64)
    (small : sum_of_places s w (λ a. a.count.items) ≤ 2 ^ 41) where
  items_le : (p : ℕ) → p < s.places → (w.place p).count.items ≤ 2 ^ 41
  items_le p l = let t = term_le s.places p (λ p. (w.place p).count.items) l in omega arith

  degree_le : (p : ℕ) → degree s p ≤ 64
  degree_le p = let d = sum_most s.places 1 (λ v. bit (has_line s p v)) (λ v l. bit_most (has_line s p v))
      in omega arith

  asks_le : (p : ℕ) → p < s.places → (w.place p).count.asks ≤ 2 ^ 47
  asks_le p l =
      let a = (L.inner p l).asks in
      let m : s.tries * (w.place p).count.items ≤ 64 * 2 ^ 41 = mul-le-mul tries (items_le p l) in
      omega arith

  line_asks_le : (p : ℕ) → p < s.places → (w.place p).count.line_asks ≤ 2 ^ 47
  line_asks_le p l =
      let a = (L.counted p l).line_asks in
      let m : degree s p * (w.place p).count.items ≤ 64 * 2 ^ 41 =
      mul-le-mul (degree_le p) (items_le p l) in
      omega arith

  armed_le : (p : ℕ) → armed_at_start s p ≤ 64
  armed_le p = go (s.awake p)
    where
      go : (b : Bool) → cond b 0 (degree s p) ≤ 64
      go true = omega arith
      go false = degree_le p

  line_got_le : (p : ℕ) → p < s.places → (w.place p).count.line_got ≤ 2 ^ 47 + 64
  line_got_le p l = let a = (L.counted p l).lines in let b = armed_le p in let c = line_asks_le p l
      in omega arith

  -- sums over at most 64 places
  all_le : (k : ℕ) (f : ℕ → ℕ) → ((p : ℕ) → p < s.places → f p ≤ k) → sum_to s.places f ≤ 64 * k
  all_le k f h = let a = sum_most s.places k f h in let m : s.places * k ≤ 64 * k = mul-le-mul_right k few
      in omega arith

  given_le : sum_of_places s w (λ a. a.count.denied) + sum_of_places s w (λ a. a.count.given) ≤ 64 * 2 ^ 47
  given_le =
      let a = L.sums.asks in
      let b = sum_plus s.places (λ p. (w.place p).count.denied) (λ p. (w.place p).count.given) in
      let c = all_le (2 ^ 47) (λ p. (w.place p).count.asks) asks_le in
      omega arith

  line_given_le : sum_of_places s w (λ a. a.count.line_given) ≤ 64 * (2 ^ 47 + 64) + 64 * 64
  line_given_le =
      let a = L.sums.line_given in
      let b = all_le (2 ^ 47 + 64) (λ p. (w.place p).count.line_got) line_got_le in
      let c = all_le 64 (λ t. sum_of_own_edges s w kind.Line t loot_count)
      (λ t l. let d = sum_most s.places 1 (λ v. loot_count (w.edge kind.Line t v))
      (λ v m. loots_most (w.edge kind.Line t v)) in omega arith) in
      omega arith

  sent_le : sum_of_places s w (λ a. a.count.sent_units) ≤ 2 ^ 64 * 2 ^ 55
  sent_le =
      let a = sum_times s.places (2 ^ 64) (λ p. (w.place p).count.sent_units)
      (λ p. (w.place p).count.given + (w.place p).count.line_given) (λ p l. (L.inner p l).sent) in
      let b = sum_plus s.places (λ p. (w.place p).count.given) (λ p. (w.place p).count.line_given) in
      let x = given_le in
      let y = line_given_le in
      omega arith

  got_le : sum_of_places s w (λ a. a.count.got_units) ≤ 2 ^ 64 * 2 ^ 55
  got_le = let a = L.sums.units in let b = sent_le in omega arith

  pub counts_small : (p : ℕ) → p < s.places → HasSmallCounts (w.place p).count
  counts_small p l =
      let i = L.inner p l in
      let c = L.counted p l in
      let items = items_le p l in
      let asks = asks_le p l in
      let line_asks = line_asks_le p l in
      let line_got = line_got_le p l in
      let own_asks = c.asks in
      let sent = sent_le in
      let got = got_le in
      let h = term_le s.places p (λ p. (w.place p).count.sent_units) l in
      let k = term_le s.places p (λ p. (w.place p).count.got_units) l in
      let naps = i.naps in
      let wakes = i.wakes in
      let z = no_credit_le (w.place p).credit in
      let g = given_le in
      let lg = line_given_le in
      let d = term_le s.places p (λ p. (w.place p).count.denied) l in
      let e = term_le s.places p (λ p. (w.place p).count.given) l in
      let f = term_le s.places p (λ p. (w.place p).count.line_given) l in
      record {
        items = omega arith;
        asks = omega arith;
        shrugs = omega arith;
        denied = omega arith;
        given = omega arith;
        got = omega arith;
        line_asks = omega arith;
        line_given = omega arith;
        line_got = omega arith;
        sent_units = omega arith;
        got_units = omega arith;
        sleeps = omega arith;
        wakes = omega arith;
      }
