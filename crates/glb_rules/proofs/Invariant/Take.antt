-- Take keeps the invariant.
use Rattle.std.proofs.Common.{◌≡◌, ◌≢◌, ℕ, ◌+◌, ◌<◌, ◌≤◌, ◌⊎◌, false, not, List, ◌++◌, length, refl}
use Rattle.std.proofs.Common.{inl, inr, ⊎_elim, arith, length-append}
use Rattle.std.proofs.lemmas.List.Sorted.{length_permutation}
use Rattle.glb_rules.specs.World.{Loot, Refused, Setup, World, busy_count, waits_on}
use Rattle.glb_rules.specs.Effects.{Change, after, of_kind, wake_count, credit_after_take, touched}
use Rattle.glb_rules.specs.Steps.{IsReady, Step}
use Rattle.glb_rules.specs.Setups.{IsProper, bit}
use Rattle.glb_rules.specs.Lawful.{Counted, Inner, IsLawful, PhaseFits, idle_lines_of, no_credit}
use Rattle.glb_rules.specs.Lawful.{sum_of_own_edges}
use Rattle.glb_rules.proofs.EdgeLemmas.Marks.{apart, is_there}
use Rattle.glb_rules.proofs.Invariant.Frames.{pick}
use Rattle.glb_rules.proofs.Invariant.Keeping.{Balanced}
use Rattle.glb_rules.proofs.Invariant.ThiefEvents.{by_thief, idle_again, moved_on, waits_else}
use Rattle.glb_rules.specs.declared.kinds.Kind.{Kind}
use Rattle.glb_rules.specs.declared.kinds.Kind.TheVariants as kind
use Rattle.glb_rules.specs.declared.kinds.Phase.TheVariants as phase
use Rattle.glb_rules.specs.declared.kinds.Credit.{Credit}
use Rattle.glb_rules.specs.declared.kinds.Credit.TheVariants as credit
use Rattle.glb_rules.specs.declared.local.Local.{Local}
use Rattle.glb_rules.specs.declared.event.Event.TheVariants as event

-- what is known of a place that takes
abbrev Taker : {I : Type 0} → Kind → Local I → Type 0
Taker k a = ((a.credit ≡ credit.One) × (wake_count a.phase ≡ 0))
    ⊎ ((a.credit ≡ credit.Zero) × (wake_count a.phase ≡ 1) × (k ≡ kind.Line))

taker : {I : Type 0} (s : Setup) (k : Kind) (p v : ℕ) (a : Local I) → Inner s p a
    → ((a.phase ≡ phase.Waiting v k) × (a.credit ≡ credit.One)) ⊎ ((k ≡ kind.Line) × IsReady a)
    → Taker k a
taker s k p v a i d = ⊎_elim
    (λ w. inl (w.1, rw w.0 refl))
    (λ r. ⊎_elim
    (λ (z : a.phase ≡ phase.Asleep).
    let f : PhaseFits phase.Asleep a.credit (length a.bag) = rw z at i.fits
    in inr (f.1, rw z refl, r.0))
    (λ y. ⊎_elim
    (λ (z : a.phase ≡ phase.Idle). let f : PhaseFits phase.Idle a.credit (length a.bag) = rw z at i.fits
    in inl (f.1, rw z refl))
    (λ z. inl (z.1, rw z.0 refl))
    y)
    r.1)
    d

-- a taker waits on no other edge, and is not Gone
pub taker_waits : {I : Type 0} (k : Kind) (v : ℕ) (a : Local I)
    → ((a.phase ≡ phase.Waiting v k) × (a.credit ≡ credit.One)) ⊎ ((k ≡ kind.Line) × IsReady a) →
    (a.phase ≢ phase.Gone) × ((j : Kind) (u : ℕ) → (j ≢ k) ⊎ (u ≢ v) → waits_on j u a.phase ≡ false)
taker_waits k v a d = ⊎_elim
    (λ w. rw w.0 (λ e. cc, λ j u x. waits_else k v j u x))
    (λ r. ⊎_elim
    (λ (z : a.phase ≡ phase.Asleep). rw z (λ e. cc, λ j u x. refl))
    (λ y. ⊎_elim
    (λ (z : a.phase ≡ phase.Idle). rw z (λ e. cc, λ j u x. refl))
    (λ z. rw z.0 (λ e. cc, λ j u x. refl))
    y)
    r.1)
    d

pub took_not_zero : (c : Credit) → credit_after_take c ≢ credit.Zero
took_not_zero credit.Zero e = cc
took_not_zero credit.One e = cc
took_not_zero credit.Minted e = cc
took_not_zero credit.Taken e = cc

take_balanced : {I : Type 0} (s : Setup) (p v : ℕ) (k : Kind) (taken rest : List I) (a : Change I)
    → a.edge ≡ Loot taken → Taker k a.place → Balanced k a (after s (event.Take p v k) taken rest a)
take_balanced s p v kind.Steal taken rest a e d = record {
  live = ⊎_elim (λ x. let y : a.place.credit ≡ credit.One = x.0 in rw (e, y) (omega arith))
      (λ x. let y : a.place.credit ≡ credit.Zero = x.0 in rw (e, y) (omega arith)) d;
  asks = rw e (omega arith);
  given = rw e (omega arith);
  line_given = omega arith;
  units = rw e (omega arith);
}
take_balanced s p v kind.Line taken rest a e d = record {
  live = ⊎_elim (λ x. let y : a.place.credit ≡ credit.One = x.0 in rw (e, y) (omega arith))
      (λ x. let y : a.place.credit ≡ credit.Zero = x.0 in rw (e, y) (omega arith)) d;
  asks = omega arith;
  given = omega arith;
  line_given = rw e (omega arith);
  units = rw e (omega arith);
}

take_counted : {I : Type 0} (s : Setup) (old : World I) (p v : ℕ) (k : Kind) (taken rest : List I)
    → old.edge k p v ≡ Loot taken →
    Counted s p (old.place p) (sum_of_own_edges s old kind.Steal p busy_count) (sum_of_own_edges s old kind.Line p busy_count) (idle_lines_of s old p)
    → (n m f : ℕ) →
    n + pick kind.Steal k (busy_count (old.edge k p v))
    ≡ sum_of_own_edges s old kind.Steal p busy_count + pick kind.Steal k 0 →
    m + pick kind.Line k (busy_count (old.edge k p v))
    ≡ sum_of_own_edges s old kind.Line p busy_count + pick kind.Line k 0 →
    Counted s p (after s (event.Take p v k) taken rest (touched old (event.Take p v k))).place n m f
take_counted s old p v kind.Steal taken rest is c n m f en em =
    let e : n + 1 ≡ sum_of_own_edges s old kind.Steal p busy_count + 0 = rw is at en in
    let e3 : m + 0 ≡ sum_of_own_edges s old kind.Line p busy_count + 0 = em in
    record {
      asks = (let a = c.asks in omega arith);
      lines = (let a = c.lines in omega arith);
      line_asks =
          (let a = c.line_asks in omega arith);
    }
take_counted s old p v kind.Line taken rest is c n m f en em =
    let e : n + 0 ≡ sum_of_own_edges s old kind.Steal p busy_count + 0 = en in
    let e3 : m + 1 ≡ sum_of_own_edges s old kind.Line p busy_count + 0 = rw is at em in
    record {
      asks = (let a = c.asks in omega arith);
      lines = (let a = c.lines in omega arith);
      line_asks =
          (let a = c.line_asks in omega arith);
    }

take_naps : {I : Type 0} (k : Kind) (a : Local I) (n w b : ℕ) → Taker k a → n + b
    ≡ w + no_credit a.credit
    → n + b ≡ (w + wake_count a.phase) + no_credit (credit_after_take a.credit)
take_naps k a n w b d h = ⊎_elim
    (λ x. let y : a.credit ≡ credit.One = x.0 in let z : wake_count a.phase ≡ 0 = x.1
    in rw (y, z) (let g : n + b ≡ w + 0 = rw y at h in omega arith))
    (λ x. let y : a.credit ≡ credit.Zero = x.0 in let z : wake_count a.phase ≡ 1 = x.1
    in rw (y, z) (let g : n + b ≡ w + 1 = rw y at h in omega arith))
    d

take_wakes : {I : Type 0} (k : Kind) (a : Local I) (w g : ℕ) → Taker k a → w ≤ g
    → w + wake_count a.phase ≤ g + of_kind k 0 1
take_wakes k a w g d h = ⊎_elim
    (λ x. let z : wake_count a.phase ≡ 0 = x.1 in omega arith)
    (λ x. let z : wake_count a.phase ≡ 1 = x.1 in rw x.2 (omega arith))
    d

pub take_keeps : {I : Type 0} (children : I
    → List I) (s : Setup) (old new : World I) (p v : ℕ) (k : Kind)
    → IsProper s → IsLawful s old → Step children s old (event.Take p v k) new → IsLawful s new
take_keeps children s old new p v k P L st =
    let l = st.in_range.0 in
    let m = st.in_range.2 in
    let i = L.inner p l in
    let is : old.edge k p v ≡ Loot st.taken = st.choice.0 in
    let T = L.thief k p v l m in
    let t = taker s k p v (old.place p) i st.enabled.1 in
    let w = taker_waits k v (old.place p) st.enabled.1 in
    let some : 0 < length st.taken = T.loot st.taken is in
    let long = length_permutation (st.taken ++ (old.place p).bag) st.rest st.choice.1 in
    by_thief s old new p k v _ st.becomes m l L (record {
      apart = apart s P k p v (is_there T (λ z. cc));
      inner = record {
        fits = (
          omega (arith, length-append st.taken (old.place p).bag),
          took_not_zero (old.place p).credit,
        );
        tries = i.tries;
        items = i.items;
        naps = take_naps k (old.place p) (old.place p).count.sleeps (old.place p).count.wakes
            (bit (not (s.awake p))) t i.naps;
        asks = (let a = i.asks in omega arith);
        sent = i.sent;
        wakes = take_wakes k (old.place p) (old.place p).count.wakes (old.place p).count.line_got t i.wakes;
        near = λ u j e. absurd (cc);
        unmarked = λ j u n g. absurd (n refl);
      };
      live = refl;
      stop = refl;
      not_gone = λ e. cc;
      thief_else = λ j u n d.
          moved_on (L.thief j p u l n) (w.1 j u d) w.0 refl
          (λ z. absurd (took_not_zero (old.place p).credit z));
      thief_named = idle_again refl (took_not_zero (old.place p).credit);
      marks = refl;
      still_asked = λ e. absurd (cc);
      can_give = λ x y. ⊎_elim
          (λ z. let q : (old.place p).credit ≡ credit.One = z.0 in
          let r : credit_after_take credit.One ≡ credit.Minted = rw q at y in cc)
          (λ z. let q : (old.place p).credit ≡ credit.Zero = z.0 in
          let r : credit_after_take credit.Zero ≡ credit.Minted = rw q at y in cc) t;
      wants = λ x. absurd (⊎_elim (λ y. cc) (λ y. let z : old.edge k p v ≡ Refused = y.1 in cc) x);
      counted = λ n o f en em ef. take_counted s old p v k st.taken st.rest is (L.counted p l) n o f en em;
      balanced = take_balanced s p v k st.taken st.rest (touched old (event.Take p v k)) is t;
    })
