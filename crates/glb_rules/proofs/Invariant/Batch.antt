-- Batch keeps the invariant.
use Rattle.std.proofs.Common.{◌≡◌, ◌≢◌, ℕ, ◌+◌, ◌*◌, ◌<◌, ◌≤◌, Bool, true, false, cond, List, []}
use Rattle.std.proofs.Common.{◌∷◌, length, refl, sym, ⊎_elim, arith, length-append}
use Rattle.std.proofs.Math.Nat.{mul-add, mul-le-mul_left}
use Rattle.glb_rules.specs.World.{Asked, Idle, Loot, Refused, Setup, World, WorldEdge, has_line}
use Rattle.glb_rules.specs.World.{idle_count, waits_on}
use Rattle.glb_rules.specs.Effects.{phase_after_batch, tries_after}
use Rattle.glb_rules.specs.Steps.{Step}
use Rattle.glb_rules.specs.Setups.{bit, degree}
use Rattle.glb_rules.specs.Lawful.{IsLawful, PhaseFits, ThiefSide, idle_lines_of, at_rest}
use Rattle.glb_rules.proofs.Invariant.PlaceEvents.{alone, thief_same}
use Rattle.glb_rules.proofs.Sums.Totals.{sum_le}
use Rattle.glb_rules.specs.declared.kinds.Kind.{Kind}
use Rattle.glb_rules.specs.declared.kinds.Kind.TheVariants as kind
use Rattle.glb_rules.specs.declared.kinds.Phase.TheVariants as phase
use Rattle.glb_rules.specs.declared.kinds.Credit.TheVariants as credit
use Rattle.glb_rules.specs.declared.event.Event.TheVariants.{Batch}

-- an item done allows a multiple more
more : (w n k : ℕ) → 0 < k → w * n + w ≤ w * (n + k)
more w n k l = let e = mul-add w n k in let d : w * 1 ≤ w * k = mul-le-mul_left w l in omega arith

free_le : {I : Type 0} (s : Setup) (w : World I) (p : ℕ) → idle_lines_of s w p ≤ degree s p
free_le s w p = sum_le s.places (λ v. cond (has_line s p v) (idle_count (w.edge kind.Line p v)) 0)
    (λ v. bit (has_line s p v)) (λ v l. each (has_line s p v) (w.edge kind.Line p v))
  where
    one : {I : Type 0} (e : WorldEdge I) → idle_count e ≤ 1
    one Idle = omega arith
    one Asked = omega arith
    one Refused = omega arith
    one (Loot xs) = omega arith

    each : {I : Type 0} (b : Bool) (e : WorldEdge I) → cond b (idle_count e) 0 ≤ bit b
    each true e = one e
    each false e = omega arith

-- what a bag that is left behind makes of a Working place
batch_fits : {I : Type 0} (rest : List I)
    → PhaseFits (phase_after_batch rest) credit.One (length rest)
batch_fits [] = (refl, refl)
batch_fits (x ∷ xs) = (omega arith, λ z. cc)

batch_tries : {I : Type 0} (w n : ℕ) (rest : List I) → n ≤ w → (tries_after w n rest ≤ w)
    × (at_rest (phase_after_batch rest) (tries_after w n rest) ≤ w)
batch_tries w n [] l = (omega arith, omega arith)
batch_tries w n (x ∷ xs) l = (l, omega arith)

batch_rests : {I : Type 0} (rest : List I) (n : ℕ) → at_rest (phase_after_batch rest) n ≤ n
batch_rests [] n = omega arith
batch_rests (x ∷ xs) n = omega arith

batch_waits : {I : Type 0} (rest : List I) (k : Kind) (v : ℕ)
    → (waits_on k v (phase_after_batch rest) ≡ false)
    × (phase_after_batch rest ≢ phase.Gone)
batch_waits [] k v = (refl, λ e. cc)
batch_waits (x ∷ xs) k v = (refl, λ e. cc)

batch_near : {I : Type 0} (rest : List I) (v : ℕ) (k : Kind)
    → phase_after_batch rest ≢ phase.Waiting v k
batch_near [] v k e = cc
batch_near (x ∷ xs) v k e = cc

pub batch_keeps : {I : Type 0} (children : I → List I) (s : Setup) (old new : World I) (p : ℕ)
    → IsLawful s old → Step children s old (Batch p) new → IsLawful s new
batch_keeps children s old new p L st =
    let l = st.in_range.0 in
    let i = L.inner p l in
    let working : (old.place p).phase ≡ phase.Working = st.enabled.0 in
    let one : (old.place p).credit ≡ credit.One = st.enabled.1 in
    let t = batch_tries s.tries (old.place p).tries st.rest i.tries in
    let some : 0 < length st.taken = st.choice.0 in
    let n = (old.place p).count.items in
    alone s old new p _ st.becomes l L (record {
      edge = refl;
      inner = record {
        fits = rw one (batch_fits st.rest);
        tries = t.0;
        items = (let e = i.items in omega (arith, length-append (old.place p).done st.taken));
        naps = i.naps;
        asks = (let a = i.asks in let m = more s.tries n (length st.taken) some in let t1 = t.1
            in omega arith);
        sent = i.sent;
        wakes = i.wakes;
        near = λ v k e. absurd (batch_near st.rest v k e);
        unmarked = λ k t n g e. cc;
      };
      gone = λ g. absurd ((batch_waits st.rest kind.Steal 0).1 g);
      quiet = λ z. (z, λ n. n);
      thief = λ k v m.
          let T : ThiefSide s k p v (record (old.place p) { phase = phase.Working }) (old.edge k p v) =
          thief_same (L.thief k p v l m) (sym working) (λ z. z) in
          record {
            there = T.there;
            steal = λ e d x. T.steal e (λ y. cc) refl;
            waited = λ x. absurd (let w = (batch_waits st.rest k v).0 in cc);
            line = λ e d. absurd (⊎_elim (λ x. cc) (λ x. cc) (T.line e d));
            armed = T.armed;
            quiet = T.quiet;
            loot = T.loot;
          };
      victim = λ k t m. record { pending = λ x. absurd (cc); unseen = λ x. refl };
      can_give = λ x y. absurd (cc);
      counted = (let o = L.counted p l in record {
        asks = o.asks;
        lines = o.lines;
        line_asks = (let a = o.line_asks in let f = free_le s old p in
            let r = batch_rests st.rest (idle_lines_of s old p) in
            let m = more (degree s p) n (length st.taken) some in omega arith);
      });
      balanced = record { live = refl; asks = refl; given = refl; line_given = refl; units = refl };
    })
