-- Shrug keeps the invariant.
use Rattle.std.proofs.Common.{◌≡◌, ℕ, ◌+◌, true, false, cond, List, length, refl, sym, subst, inr}
use Rattle.std.proofs.Common.{⊎_elim, arith}
use Rattle.glb_rules.specs.World.{Refused, Setup, World, WorldEdge, busy_count, has_line}
use Rattle.glb_rules.specs.World.{idle_count}
use Rattle.glb_rules.specs.Effects.{Change, after, after_shrug, touched}
use Rattle.glb_rules.specs.Steps.{Step}
use Rattle.glb_rules.specs.Setups.{IsProper}
use Rattle.glb_rules.specs.Lawful.{Counted, IsLawful, PhaseFits, ThiefSide, idle_lines_of}
use Rattle.glb_rules.specs.Lawful.{sum_of_own_edges}
use Rattle.glb_rules.proofs.EdgeLemmas.Marks.{apart, is_there}
use Rattle.glb_rules.proofs.Invariant.Frames.{pick}
use Rattle.glb_rules.proofs.Invariant.Keeping.{Balanced}
use Rattle.glb_rules.proofs.Invariant.ThiefEvents.{by_thief, idle_again, moved_on, waits_else}
use Rattle.glb_rules.specs.declared.kinds.Kind.{Kind}
use Rattle.glb_rules.specs.declared.kinds.Kind.TheVariants as kind
use Rattle.glb_rules.specs.declared.kinds.Phase.TheVariants as phase
use Rattle.glb_rules.specs.declared.kinds.Credit.TheVariants as credit
use Rattle.glb_rules.specs.declared.local.Local.{Local}
use Rattle.glb_rules.specs.declared.event.Event.TheVariants as event

shrug_balanced : {I : Type 0} (s : Setup) (p v : ℕ) (k : Kind) (taken rest : List I) (a : Change I)
    → a.edge ≡ Refused → Balanced k a (after s (event.Shrug p v k) taken rest a)
shrug_balanced s p v kind.Steal taken rest a e =
    record { live = rw e refl; asks = rw e refl; given = rw e refl; line_given = refl; units = rw e refl }
shrug_balanced s p v kind.Line taken rest a e =
    record { live = refl; asks = refl; given = refl; line_given = refl; units = refl }

shrug_cell : {I : Type 0} (s : Setup) (k : Kind) (p v : ℕ) (a b : Local I) (e : WorldEdge I) → e
    ≡ Refused
    → ThiefSide s k p v a e → b.phase ≡ phase.Idle → b.credit ≡ credit.One
    → ThiefSide s k p v b (after_shrug k e)
shrug_cell s kind.Steal p v a b e is T i c = idle_again (rw i refl) (λ z. cc)
shrug_cell s kind.Line p v a b e is T i c = record {
  there = T.there;
  steal = λ x. absurd (cc);
  waited = λ x. absurd (let y : false ≡ true = rw i at x in cc);
  line = λ x d. absurd (cc);
  armed = λ z. absurd (cc);
  quiet = λ z. absurd (cc);
  loot = λ xs x. absurd (cc);
}

shrug_counted : {I : Type 0} (s : Setup) (old : World I) (p v : ℕ) (k : Kind) (taken rest : List I)
    → (old.place p).phase ≡ phase.Waiting v k → old.edge k p v ≡ Refused →
    Counted s p (old.place p) (sum_of_own_edges s old kind.Steal p busy_count) (sum_of_own_edges s old kind.Line p busy_count) (idle_lines_of s old p)
    → (n m f : ℕ) →
    n + pick kind.Steal k (busy_count (old.edge k p v)) ≡ sum_of_own_edges s old kind.Steal p busy_count + pick kind.Steal k
    (busy_count (after_shrug k (old.edge k p v))) →
    m + pick kind.Line k (busy_count (old.edge k p v)) ≡ sum_of_own_edges s old kind.Line p busy_count + pick kind.Line k
    (busy_count (after_shrug k (old.edge k p v))) →
    f + pick kind.Line k (cond (has_line s p v) (idle_count (old.edge k p v)) 0) ≡ idle_lines_of s old p + pick kind.Line
    k (cond (has_line s p v) (idle_count (after_shrug k (old.edge k p v))) 0) →
    Counted s p (after s (event.Shrug p v k) taken rest (touched old (event.Shrug p v k))).place n m f
shrug_counted s old p v kind.Steal taken rest w is c n m f en em ef =
    let e : n + 1 ≡ sum_of_own_edges s old kind.Steal p busy_count + 0 = rw is at en in
    let e2 : f + 0 ≡ idle_lines_of s old p + 0 = ef in
    let e3 : m + 0 ≡ sum_of_own_edges s old kind.Line p busy_count + 0 = em in
    record {
      asks = (let a = c.asks in omega arith);
      lines = (let a = c.lines in omega arith);
      line_asks =
          (let a = rw w at c.line_asks in omega arith);
    }
shrug_counted s old p v kind.Line taken rest w is c n m f en em ef =
    let e : n + 0 ≡ sum_of_own_edges s old kind.Steal p busy_count + 0 = en in
    let e2 : f ≡ idle_lines_of s old p = omega arith in
    let e3 : m ≡ sum_of_own_edges s old kind.Line p busy_count = omega arith in
    record {
      asks = (let a = c.asks in omega arith);
      lines = (let a = c.lines in omega arith);
      line_asks =
          (let a = rw w at c.line_asks in omega arith);
    }

pub shrug_keeps : {I : Type 0} (children : I → List I) (s : Setup) (old new : World I) (p v : ℕ)
    (k : Kind) → IsProper s → IsLawful s old → Step children s old (event.Shrug p v k) new
    → IsLawful s new
shrug_keeps children s old new p v k P L st =
    let l = st.in_range.0 in
    let m = st.in_range.2 in
    let i = L.inner p l in
    let waits : (old.place p).phase ≡ phase.Waiting v k = st.enabled.0 in
    let is : old.edge k p v ≡ Refused = st.enabled.1 in
    let f : PhaseFits (phase.Waiting v k) (old.place p).credit (length (old.place p).bag) =
    rw waits at i.fits in
    let one : (old.place p).credit ≡ credit.One = f.1 in
    let T = L.thief k p v l m in
    by_thief s old new p k v _ st.becomes m l L (record {
      apart = apart s P k p v (is_there T (λ z. cc));
      inner = record {
        fits = f;
        tries = i.tries;
        items = i.items;
        naps = i.naps;
        asks =
            (let a = rw waits at i.asks in a);
        sent = i.sent;
        wakes = i.wakes;
        near = λ u j e. absurd (cc);
        unmarked = λ j u n g. i.unmarked j u (rw waits (λ e. cc)) (rw waits (λ e. cc));
      };
      live = refl;
      stop = refl;
      not_gone = λ e. cc;
      thief_else = λ j u n d.
          moved_on (L.thief j p u l n) (rw waits (waits_else k v j u d)) (rw waits (λ e. cc)) refl (λ z. z);
      thief_named = shrug_cell s k p v (old.place p) _ (old.edge k p v) is T refl one;
      marks = refl;
      still_asked = λ e. absurd (cc);
      can_give = λ x. absurd (cc);
      wants = λ w. ⊎_elim (λ x. absurd (cc))
          (λ x. inr (x.0, subst (λ j. after_shrug j (old.edge j p v) ≡ Refused) (sym x.0) (rw x.0 at is)))
          w;
      counted = shrug_counted s old p v k st.taken st.rest waits is (L.counted p l);
      balanced = shrug_balanced s p v k st.taken st.rest (touched old (event.Shrug p v k)) is;
    })
