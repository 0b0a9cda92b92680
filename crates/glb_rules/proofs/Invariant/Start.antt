-- Every start is lawful.
use Rattle.std.proofs.Common.{◌≡◌, ◌≢◌, ℕ, ◌+◌, ◌*◌, ◌<◌, ◌≤◌, Bool, true, false, cond, not, List}
use Rattle.std.proofs.Common.{[], ◌∷◌, length, refl, arith}
use Rattle.glb_laws.specs.Sums.{sum_to}
use Rattle.glb_rules.specs.World.{Setup, WorldEdge, asked_count, busy_count, has_line, loot_count}
use Rattle.glb_rules.specs.World.{units, waits_on, credit_count}
use Rattle.glb_rules.specs.Setups.{bit, degree, has_items}
use Rattle.glb_rules.specs.Lawful.{Counted, Inner, IsLawful, PhaseFits, Sums, ThiefSide}
use Rattle.glb_rules.specs.Lawful.{idle_lines_of, no_credit, sum_of_edges, sum_of_own_edges}
use Rattle.glb_rules.specs.Lawful.{at_rest}
use Rattle.glb_rules.specs.History.{AwakeBy, first_credit, first_edge, first_line, first_phase}
use Rattle.glb_rules.specs.History.{start}
use Rattle.glb_rules.proofs.Sums.Totals.{sum_same, sum_zero}
use Rattle.glb_rules.specs.declared.kinds.Kind.{Kind}
use Rattle.glb_rules.specs.declared.kinds.Kind.TheVariants as kind
use Rattle.glb_rules.specs.declared.kinds.Phase.TheVariants as phase
use Rattle.glb_rules.specs.declared.kinds.Credit.TheVariants as credit

first_inner : {I : Type 0} (s : Setup) (bags : ℕ → List I) (p : ℕ) → p < s.places → AwakeBy s bags
    → Inner s p ((start s bags).place p)
first_inner s bags p l A = record {
  fits = rw (A p l) (go (bags p));
  tries = omega arith;
  items = refl;
  naps = naps (s.awake p);
  asks = asks (s.awake p);
  sent = omega arith;
  wakes = omega arith;
  near = λ v k e. absurd (near (s.awake p) v k e);
  unmarked = λ k t n g e. cc;
}
  where
    go : {I : Type 0} (xs : List I)
        → PhaseFits (first_phase (has_items xs)) (first_credit (has_items xs)) (length xs)
    go [] = (refl, refl)
    go (x ∷ xs) = (omega arith, λ e. cc)

    near : (b : Bool) (v : ℕ) (k : Kind) → first_phase b ≢ phase.Waiting v k
    near true v k e = cc
    near false v k e = cc

    naps : (b : Bool) → 0 + bit (not b) ≡ 0 + no_credit (first_credit b)
    naps true = refl
    naps false = refl

    asks : (b : Bool) → 0 + at_rest (first_phase b) s.tries ≤ s.tries * 0
    asks true = omega arith
    asks false = omega arith

first_thief : {I : Type 0} (s : Setup) (bags : ℕ → List I) (k : Kind) (t v : ℕ)
    → ThiefSide s k t v ((start s bags).place t) (first_edge s k t v)
first_thief s bags kind.Steal t v = record {
  there = λ z. refl;
  steal = λ e d x. refl;
  waited = λ x. absurd (waits (s.awake t) x);
  line = λ e d. absurd (cc);
  armed = λ z e. absurd (cc);
  quiet = λ z e. refl;
  loot = λ xs e. absurd (cc);
}
  where
    waits : (b : Bool) → waits_on kind.Steal v (first_phase b) ≡ true → ⊥
    waits true e = cc
    waits false e = cc
first_thief s bags kind.Line t v = both (s.awake t) (has_line s t v) refl
  where
    both : (a b : Bool) → has_line s t v ≡ b
        → ThiefSide s kind.Line t v
        (record ((start s bags).place t) { phase = first_phase a; credit = first_credit a })
        (first_line a b)
    both true b e = record {
      there = λ z. refl;
      steal = λ x. absurd (cc);
      waited = λ x. absurd (cc);
      line = λ x y. absurd (cc);
      armed = λ z. absurd (cc);
      quiet = λ z x. refl;
      loot = λ xs x. absurd (cc);
    }
    both false true e = record {
      there = λ z. absurd (cc);
      steal = λ x. absurd (cc);
      waited = λ x. absurd (cc);
      line = λ x y. absurd (cc);
      armed = λ z x y. tt;
      quiet = λ z x. absurd (cc);
      loot = λ xs x. absurd (cc);
    }
    both false false e = record {
      there = λ z. refl;
      steal = λ x. absurd (cc);
      waited = λ x. absurd (cc);
      line = λ x y. absurd (cc);
      armed = λ z x y. absurd (cc);
      quiet = λ z x. absurd (cc);
      loot = λ xs x. absurd (cc);
    }

first_counted : {I : Type 0} (s : Setup) (bags : ℕ → List I) (p : ℕ)
    → Counted s p ((start s bags).place p) (sum_of_own_edges s (start s bags) kind.Steal p busy_count)
    (sum_of_own_edges s (start s bags) kind.Line p busy_count) (idle_lines_of s (start s bags) p)
first_counted {I} s bags p = record {
  asks = (let e = sum_zero s.places (λ v. 0) (λ j l. refl) in omega arith);
  lines = lines (s.awake p);
  line_asks = rests (s.awake p) (idle_lines_of s (start s bags) p);
}
  where
    line : (b : Bool) → bit b ≡ busy_count (first_line {I = I} false b)
    line true = refl
    line false = refl

    lines : (a : Bool) → cond a 0 (degree s p) + 0 ≡ 0 + sum_to s.places
        (λ v. busy_count (first_line {I = I} a (has_line s p v)))
    lines true = let e = sum_zero s.places (λ v. 0) (λ j l. refl) in omega arith
    lines false = let e =
        sum_same s.places (λ v. busy_count (first_line {I = I} false (has_line s p v)))
        (λ v. bit (has_line s p v)) (λ j l. line (has_line s p j)) in omega arith

    rests : (a : Bool) (f : ℕ) → 0 + at_rest (first_phase a) f ≤ degree s p * 0
    rests true f = omega arith
    rests false f = omega arith

first_sums : {I : Type 0} (s : Setup) (bags : ℕ → List I) → Sums s (start s bags)
first_sums {I} s bags = record {
  live =
      let a = sum_same s.places (λ p. bit (s.awake p)) (λ p. credit_count (first_credit (s.awake p)))
      (λ p l. each (s.awake p)) in
      let e = none kind.Steal loot_count (λ t v. refl) in
      let d = none kind.Line loot_count (λ t v. line (s.awake t) (has_line s t v)) in
      omega arith;
  asks = (let a = zero_places in let e = none kind.Steal asked_count (λ t v. refl) in omega arith);
  given = (let a = zero_places in let e = none kind.Steal loot_count (λ t v. refl) in omega arith);
  line_given = (let a = zero_places in
      let d = none kind.Line loot_count (λ t v. line (s.awake t) (has_line s t v)) in omega arith);
  units = (let a = zero_places in let e = none kind.Steal units (λ t v. refl) in
      let d = none kind.Line units (λ t v. line2 (s.awake t) (has_line s t v)) in omega arith);
}
  where
    zero_places : sum_to s.places (λ p. 0) ≡ 0
    zero_places = sum_zero s.places (λ p. 0) (λ j l. refl)

    each : (b : Bool) → credit_count (first_credit b) ≡ bit b
    each true = refl
    each false = refl

    none : (k : Kind) (g : WorldEdge I → ℕ) → ((t v : ℕ) → g (first_edge s k t v) ≡ 0)
        → sum_of_edges s (start s bags) k g ≡ 0
    none k g h = sum_zero s.places (λ t. sum_to s.places (λ v. g (first_edge s k t v)))
        (λ t l. sum_zero s.places (λ v. g (first_edge s k t v)) (λ v m. h t v))

    line : (a b : Bool) → loot_count (first_line {I = I} a b) ≡ 0
    line true b = refl
    line false true = refl
    line false false = refl

    line2 : (a b : Bool) → units (first_line {I = I} a b) ≡ 0
    line2 true b = refl
    line2 false true = refl
    line2 false false = refl

pub start_lawful : {I : Type 0} (s : Setup) (bags : ℕ → List I) → AwakeBy s bags
    → IsLawful s (start s bags)
start_lawful s bags A = record {
  inner = λ p l. first_inner s bags p l A;
  gone = λ p l g z. absurd (awake (s.awake p) g);
  thief = λ k t v m n. first_thief s bags k t v;
  victim = λ k t v m n. record { pending = λ e. absurd (cc); unseen = λ e. refl };
  can_give = λ q l x y. absurd (minted (s.awake q) y);
  counted = λ p l. first_counted s bags p;
  sums = first_sums s bags;
}
  where
    awake : (b : Bool) → first_phase b ≡ phase.Gone → ⊥
    awake true e = cc
    awake false e = cc

    minted : (b : Bool) → first_credit b ≡ credit.Minted → ⊥
    minted true e = cc
    minted false e = cc
