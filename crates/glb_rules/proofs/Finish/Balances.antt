-- The counts of a finished lawful world balance.
use Rattle.std.proofs.Common.{◌≡◌, ℕ, ◌+◌, ◌<◌, Bool, true, false, not, refl, arith}
use Rattle.glb_rules.specs.World.{WorldEdge, Idle, Asked, Refused, Loot, Setup, World, has_line}
use Rattle.glb_rules.specs.World.{IsArmed, asked_count, busy_count, loot_count, units}
use Rattle.glb_rules.specs.Setups.{bit, degree}
use Rattle.glb_rules.specs.Lawful.{IsLawful, sum_of_places, sum_of_edges, sum_of_own_edges}
use Rattle.glb_rules.specs.Lawful.{armed_at_start, no_credit}
use Rattle.glb_rules.specs.Finish.{IsQuiet}
use Rattle.glb_rules.proofs.Sums.Totals.{sum_same, sum_zero, sum_plus}
use Rattle.glb_rules.proofs.Invariant.PlaceEvents.{worth_le}
use Rattle.glb_rules.proofs.Finish.Quiet.{zero_worth, finished_quiet}
use Rattle.glb_rules.specs.declared.kinds.Kind.{Kind}
use Rattle.glb_rules.specs.declared.kinds.Kind.TheVariants as kind
use Rattle.glb_rules.specs.declared.kinds.Credit.TheVariants as credit

-- the balances of counts that have no last value
pub record Balances {I : Type 0} (s : Setup) (w : World I) : Type 0 where
  pub given : sum_of_places s w (λ a. a.count.given) ≡ sum_of_places s w (λ a. a.count.got)
  pub line_given : sum_of_places s w (λ a. a.count.line_given) ≡ sum_of_places s w (λ a. a.count.line_got)
  pub units : sum_of_places s w (λ a. a.count.sent_units) ≡ sum_of_places s w (λ a. a.count.got_units)
  pub asks : (p : ℕ) → p < s.places
      → (w.place p).count.asks ≡ (w.place p).count.shrugs + (w.place p).count.got
  pub all_asks : sum_of_places s w (λ a. a.count.asks) ≡ sum_of_places s w (λ a. a.count.denied) + sum_of_places s w
      (λ a. a.count.given)
  pub lines : (p : ℕ) → p < s.places
      → armed_at_start s p + (w.place p).count.line_asks ≡ (w.place p).count.line_got + degree s p
  pub naps : (p : ℕ) → p < s.places → (w.place p).count.sleeps
      ≡ (w.place p).count.wakes + bit (s.awake p)

module _ {I : Type 0} (s : Setup) (w : World I) (L : IsLawful s w) (finished : w.live ≡ 0) where
  Q : IsQuiet s w
  Q = finished_quiet s w L finished

  no_credits : (p : ℕ) → p < s.places → (w.place p).credit ≡ credit.Zero
  no_credits p l = zero_worth (w.place p).credit (let a = worth_le L p l in omega arith)

  steal_idle : (t v : ℕ) → t < s.places → v < s.places → w.edge kind.Steal t v ≡ Idle
  steal_idle t v l m = (L.thief kind.Steal t v l m).quiet (no_credits t l) refl

  -- a line that is there is Refused, any other one is Idle
  line_busy : (t v : ℕ) → t < s.places → v < s.places
      → (busy_count (w.edge kind.Line t v) ≡ bit (has_line s t v))
      × (loot_count (w.edge kind.Line t v) ≡ 0)
      × (units (w.edge kind.Line t v) ≡ 0)
  line_busy t v l m = go (has_line s t v) refl (w.edge kind.Line t v) refl
    where
      armed : has_line s t v ≡ true → IsArmed (w.edge kind.Line t v)
      armed h = (L.thief kind.Line t v l m).armed (no_credits t l) refl h

      go : (b : Bool) → has_line s t v ≡ b → (e : WorldEdge I) → w.edge kind.Line t v ≡ e
          → (busy_count (w.edge kind.Line t v) ≡ bit b) × (loot_count (w.edge kind.Line t v) ≡ 0)
          × (units (w.edge kind.Line t v) ≡ 0)
      go false h e q = let i : w.edge kind.Line t v ≡ Idle = (L.thief kind.Line t v l m).there h
          in rw i (refl, refl, refl)
      go true h Idle q = absurd (let a : IsArmed {I = I} Idle = rw q at (armed h) in a)
      go true h Asked q = absurd (let a : IsArmed {I = I} Asked = rw q at (armed h) in a)
      go true h Refused q = rw q (refl, refl, refl)
      go true h (Loot xs) q = absurd (Q.no_loot kind.Line t v l m xs q)

  none : (k : Kind) (g : WorldEdge I → ℕ)
      → ((t v : ℕ) → t < s.places → v < s.places → g (w.edge k t v) ≡ 0) → sum_of_edges s w k g ≡ 0
  none k g h = sum_zero s.places (λ t. sum_of_own_edges s w k t g)
      (λ t l. sum_zero s.places (λ v. g (w.edge k t v)) (λ v m. h t v l m))

  woke : (b : Bool) (n k : ℕ) → n + bit (not b) ≡ k + 1 → n ≡ k + bit b
  woke true n k e = omega (arith, e)
  woke false n k e = omega (arith, e)

  pub balances : Balances s w
  balances =
      let steal_loots : sum_of_edges s w kind.Steal loot_count ≡ 0 =
      none kind.Steal loot_count (λ t v l m. rw (steal_idle t v l m) refl) in
      let steal_asked : sum_of_edges s w kind.Steal asked_count ≡ 0 =
      none kind.Steal asked_count (λ t v l m. rw (steal_idle t v l m) refl) in
      let steal_units : sum_of_edges s w kind.Steal units ≡ 0 =
      none kind.Steal units (λ t v l m. rw (steal_idle t v l m) refl) in
      let line_loots : sum_of_edges s w kind.Line loot_count ≡ 0 =
      none kind.Line loot_count (λ t v l m. (line_busy t v l m).1) in
      let line_units : sum_of_edges s w kind.Line units ≡ 0 =
      none kind.Line units (λ t v l m. (line_busy t v l m).2) in
      let S = L.sums in
      record {
        given = let a = S.given in omega arith;
        line_given = let a = S.line_given in omega arith;
        units = let a = S.units in omega arith;
        asks = λ p l.
            let a = (L.counted p l).asks in
            let b : sum_of_own_edges s w kind.Steal p busy_count ≡ 0 =
            sum_zero s.places (λ v. busy_count (w.edge kind.Steal p v))
            (λ v m. rw (steal_idle p v l m) refl) in
            omega arith;
        all_asks = let a = S.asks in
            let b = sum_plus s.places (λ p. (w.place p).count.denied) (λ p. (w.place p).count.given)
            in omega arith;
        lines = λ p l.
            let a = (L.counted p l).lines in
            let b : sum_of_own_edges s w kind.Line p busy_count ≡ degree s p =
            sum_same s.places (λ v. bit (has_line s p v)) (λ v. busy_count (w.edge kind.Line p v))
            (λ v m. (line_busy p v l m).0) in
            omega arith;
        naps = λ p l.
            let a = (L.inner p l).naps in
            let b : no_credit (w.place p).credit ≡ 1 = rw (no_credits p l) refl in
            woke (s.awake p) (w.place p).count.sleeps (w.place p).count.wakes (omega arith);
      }
