-- The counters of a finished lawful world balance.
use Rattle.std.specs.Prelude.{Some, map, sum_by, slice_get}
use Rattle.std.specs.List.{range_with_len}
use Rattle.std.proofs.Common.{◌≡◌, ℕ, zero, suc, ◌+◌, ◌^◌, ◌<◌, ◌≤◌, refl, sym, ap, ◌∙◌, subst}
use Rattle.std.proofs.Common.{arith}
use Rattle.std.proofs.lemmas.List.FromFn.{sum_by-map-range_with_len_more, length-map-range_with_len}
use Rattle.std.proofs.lemmas.List.FromFn.{get_or-map-range_with_len}
use Rattle.std.proofs.lemmas.Option.{slice_get_within, get_or_from_slice_get}
use Rattle.glb_stats.specs.Balances.{IsBalanced, PlaceBalances}
use Rattle.glb_stats.specs.declared.counters.Counters.{Counters}
use Rattle.glb_laws.specs.Sums.{sum_to}
use Rattle.glb_rules.specs.World.{Setup, World}
use Rattle.glb_rules.specs.Setups.{degree}
use Rattle.glb_rules.specs.Lawful.{IsLawful, sum_of_places}
use Rattle.glb_core.specs.Counters.{counters_of, all_counters, all_degrees, all_awake}
use Rattle.glb_core.specs.Counters.{HasSmallCounts}
use Rattle.glb_rules.proofs.Sums.Totals.{sum_same}
use Rattle.glb_rules.proofs.Finish.Balances.{balances}
use Rattle.glb_core.proofs.Ends.Counts.{counts_small}

sum_told : (g : Counters → ℕ) (f : ℕ → Counters) (n : ℕ)
    → sum_by g (map f (range_with_len 0 n)) ≡ sum_to n (λ p. g (f p))
sum_told g f zero = refl
sum_told g f (suc n) =
    let e : n + 1 ≡ suc n = omega arith in
    subst (λ k. sum_by g (map f (range_with_len 0 k)) ≡ sum_to n (λ p. g (f p)) + g (f n)) e
    (sum_by-map-range_with_len_more g f 0 n n (omega arith) ∙ ap (λ k. k + g (f n)) (sum_told g f n))

-- a list by number tells its members
pub told_at : {A : Type 0} (f : ℕ → A) (n p : ℕ) (x : A)
    → slice_get (map f (range_with_len 0 n)) p ≡ Some x → (p < n) × (x ≡ f p)
told_at f n p x e =
    let l : p < n = subst (λ k. p < k) (length-map-range_with_len f 0 n)
    (slice_get_within (map f (range_with_len 0 n)) p x e) in (
      l,
      sym (get_or_from_slice_get (map f (range_with_len 0 n)) p x x e)
          ∙ get_or-map-range_with_len f 0 n p p x l (omega arith),
    )

module _ {I : Type 0} (s : Setup) (w : World I) (L : IsLawful s w) (few : s.places ≤ 64)
    (tries : s.tries ≤ 64)
    (small : sum_of_places s w (λ a. a.count.items) ≤ 2 ^ 41) where
  abbrev place_told : ℕ → Counters
  place_told p = counters_of (w.place p).count

  -- a sum of counters is the sum of counts
  sum_is : (g : Counters → ℕ) (f : ℕ → ℕ) → ((p : ℕ) → p < s.places → g (place_told p) ≡ f p)
      → sum_by g (all_counters s w) ≡ sum_to s.places f
  sum_is g f h = sum_told g place_told s.places ∙ sum_same s.places f (λ p. g (place_told p)) h

  place_balances : (finished : w.live ≡ 0) (p : ℕ) → p < s.places
      → PlaceBalances (place_told p) (degree s p) (s.awake p)
  place_balances finished p l =
      let B = balances s w L finished in
      let c : HasSmallCounts (w.place p).count = counts_small s w L few tries small p l in
      record {
        asks = let a = B.asks p l in let x = c.asks in let y = c.shrugs in let z = c.got in omega arith;
        lines = let a = B.lines p l in let x = c.line_asks in let y = c.line_got in omega arith;
        naps = let a = B.naps p l in let x = c.sleeps in let y = c.wakes in omega arith;
      }

  pub finished_balanced : w.live ≡ 0
      → IsBalanced (all_counters s w) (sum_of_places s w (λ a. a.count.items)) (all_degrees s) (all_awake s)
  finished_balanced finished =
      let B = balances s w L finished in
      let C = counts_small s w L few tries small in
      record {
        sums = record {
          items = sum_is (λ c. c.items) _ (λ p l. let x = (C p l).items in omega arith);
          given = sum_is (λ c. c.given) (λ p. (w.place p).count.given)
              (λ p l. let x = (C p l).given in omega arith)
              ∙ (B.given ∙ sym (sum_is (λ c. c.got) (λ p. (w.place p).count.got)
              (λ p l. let x = (C p l).got in omega arith)));
          line_given = sum_is (λ c. c.line_given) (λ p. (w.place p).count.line_given)
              (λ p l. let x = (C p l).line_given in omega arith)
              ∙ (B.line_given ∙ sym
              (sum_is (λ c. c.line_got) (λ p. (w.place p).count.line_got)
              (λ p l. let x = (C p l).line_got in omega arith)));
          units = sum_is (λ c. c.sent_units) (λ p. (w.place p).count.sent_units)
              (λ p l. let x = (C p l).sent_units in omega arith)
              ∙ (B.units ∙ sym (sum_is (λ c. c.got_units) (λ p. (w.place p).count.got_units)
              (λ p l. let x = (C p l).got_units in omega arith)));
          answers =
              let a = sum_is (λ c. c.asks) (λ p. (w.place p).count.asks)
              (λ p l. let x = (C p l).asks in omega arith) in
              let b = sum_is (λ c. c.denied) (λ p. (w.place p).count.denied)
              (λ p l. let x = (C p l).denied in omega arith) in
              let d = sum_is (λ c. c.given) (λ p. (w.place p).count.given)
              (λ p l. let x = (C p l).given in omega arith) in
              let e = B.all_asks in
              omega arith;
        };
        places = λ p c d awake at_c at_d at_awake.
            let i = told_at place_told s.places p c at_c in
            let j = told_at (degree s) s.places p d at_d in
            let k = told_at s.awake s.places p awake at_awake in
            rw (i.1, j.1, k.1) (place_balances finished p i.0);
      }
