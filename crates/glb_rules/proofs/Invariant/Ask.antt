-- Ask keeps the invariant.
use Rattle.std.proofs.Common.{◌≡◌, ℕ, ◌+◌, ◌<◌, true, false, List, length, refl, inl, arith}
use Rattle.glb_rules.specs.World.{Asked, Idle, Setup, World, busy_count, has_edge, has_line}
use Rattle.glb_rules.specs.World.{waits_on}
use Rattle.glb_rules.specs.Effects.{Change, after, touched}
use Rattle.glb_rules.specs.Steps.{Step}
use Rattle.glb_rules.specs.Setups.{IsProper}
use Rattle.glb_rules.specs.Lawful.{IsLawful, PhaseFits, ThiefSide, idle_lines_of, sum_of_own_edges}
use Rattle.glb_rules.proofs.EdgeLemmas.Marks.{apart}
use Rattle.glb_rules.proofs.Invariant.Keeping.{Balanced}
use Rattle.glb_rules.proofs.Invariant.ThiefEvents.{by_thief, moved_on, waits_else, waits_self}
use Rattle.glb_rules.specs.declared.kinds.Kind.{Kind}
use Rattle.glb_rules.specs.declared.kinds.Kind.TheVariants as kind
use Rattle.glb_rules.specs.declared.kinds.Phase.TheVariants as phase
use Rattle.glb_rules.specs.declared.kinds.Credit.TheVariants as credit
use Rattle.glb_rules.specs.declared.local.Local.{Local}
use Rattle.glb_rules.specs.declared.event.Event.TheVariants as event

ask_cell : {I : Type 0} {s : Setup} {k : Kind} {p v : ℕ} {b : Local I} → has_edge s k p v ≡ true
    → b.phase ≡ phase.Waiting v k → b.credit ≡ credit.One → ThiefSide s k p v b Asked
ask_cell {k = k} {v = v} there w c = record {
  there = λ z. absurd (cc);
  steal = λ e d x. absurd
      (let y : waits_on k v (phase.Waiting v k) ≡ false = rw w at x in let z = waits_self k v in cc);
  waited = λ x e. cc;
  line = λ e d. inl (rw w (waits_self k v));
  armed = λ z. absurd (cc);
  quiet = λ z. absurd (cc);
  loot = λ xs e. absurd (cc);
}

ask_balanced : {I : Type 0} (s : Setup) (p v : ℕ) (k : Kind) (taken rest : List I) (a : Change I)
    → a.edge ≡ Idle → Balanced k a (after s (event.Ask p v k) taken rest a)
ask_balanced s p v kind.Steal taken rest a e =
    record {
      live = rw e refl;
      asks = rw e (omega arith);
      given = rw e refl;
      line_given = refl;
      units =
          rw e refl;
    }
ask_balanced s p v kind.Line taken rest a e =
    record {
      live = rw e refl;
      asks = omega arith;
      given = omega arith;
      line_given = rw e refl;
      units =
          rw e refl;
    }

pub ask_steal_keeps : {I : Type 0} (children : I → List I) (s : Setup) (old new : World I) (p v : ℕ)
    → IsProper s → IsLawful s old → Step children s old (event.Ask p v kind.Steal) new
    → IsLawful s new
ask_steal_keeps children s old new p v P L st =
    let l = st.in_range.0 in
    let m = st.in_range.2 in
    let i = L.inner p l in
    let rested : (old.place p).phase ≡ phase.Idle = st.enabled.0 in
    let some : 0 < (old.place p).tries = st.enabled.1 in
    let is : old.edge kind.Steal p v ≡ Idle = st.enabled.3 in
    let f : PhaseFits phase.Idle (old.place p).credit (length (old.place p).bag) = rw rested at i.fits in
    let one : (old.place p).credit ≡ credit.One = f.1 in
    by_thief s old new p kind.Steal v _ st.becomes m l L (record {
      apart = apart s P kind.Steal p v st.enabled.2;
      inner = record {
        fits = f;
        tries = (let t = i.tries in omega arith);
        items = i.items;
        naps = i.naps;
        asks = (let a = rw rested at i.asks in omega arith);
        sent = i.sent;
        wakes = i.wakes;
        near =
            λ u j e. (let q : v ≡ u = cc in omega arith);
        unmarked = λ j u n g.
            i.unmarked j u (rw rested (λ e. cc)) (rw rested (λ e. cc));
      };
      live = refl;
      stop = refl;
      not_gone = λ e. cc;
      thief_else = λ j u n d.
          moved_on (L.thief j p u l n) (rw rested refl) (rw rested (λ e. cc))
          (waits_else kind.Steal v j u d) (λ z. z);
      thief_named = ask_cell st.enabled.2 refl one;
      marks = refl;
      still_asked = λ e. refl;
      can_give = λ x. absurd (cc);
      wants = λ w. inl refl;
      counted = λ n o f en em ef.
          let c = L.counted p l in
          let en' : n + 0 ≡ sum_of_own_edges s old kind.Steal p busy_count + 1 = rw is at en in
          record {
            asks = (let a = c.asks in omega arith);
            lines = (let a = c.lines in omega arith);
            line_asks = (let a = rw rested at c.line_asks in let b : f + 0 ≡ idle_lines_of s old p + 0 = ef
                in omega arith);
          };
      balanced = ask_balanced s p v kind.Steal st.taken st.rest (touched old (event.Ask p v kind.Steal)) is;
    })

pub ask_line_keeps : {I : Type 0} (children : I → List I) (s : Setup) (old new : World I) (p v : ℕ)
    → IsProper s → IsLawful s old → Step children s old (event.Ask p v kind.Line) new
    → IsLawful s new
ask_line_keeps children s old new p v P L st =
    let l = st.in_range.0 in
    let m = st.in_range.2 in
    let i = L.inner p l in
    let rested : (old.place p).phase ≡ phase.Idle = st.enabled.0 in
    let there : has_line s p v ≡ true = st.enabled.2 in
    let is : old.edge kind.Line p v ≡ Idle = st.enabled.3 in
    let f : PhaseFits phase.Idle (old.place p).credit (length (old.place p).bag) = rw rested at i.fits in
    let one : (old.place p).credit ≡ credit.One = f.1 in
    by_thief s old new p kind.Line v _ st.becomes m l L (record {
      apart = apart s P kind.Line p v there;
      inner = record {
        fits = f;
        tries = i.tries;
        items = i.items;
        naps = i.naps;
        asks =
            (let a = rw rested at i.asks in omega arith);
        sent = i.sent;
        wakes = i.wakes;
        near = λ u j e.
            (let q : v ≡ u = cc in omega arith);
        unmarked = λ j u n g.
            i.unmarked j u (rw rested (λ e. cc)) (rw rested (λ e. cc));
      };
      live = refl;
      stop = refl;
      not_gone = λ e. cc;
      thief_else = λ j u n d.
          moved_on (L.thief j p u l n) (rw rested refl) (rw rested (λ e. cc))
          (waits_else kind.Line v j u d) (λ z. z);
      thief_named = ask_cell there refl one;
      marks = refl;
      still_asked = λ e. refl;
      can_give = λ x. absurd (cc);
      wants = λ w. inl refl;
      counted = λ n o f en em ef.
          let c = L.counted p l in
          let em' : o + 0 ≡ sum_of_own_edges s old kind.Line p busy_count + 1 = rw is at em in
          let ef' : f + 1 ≡ idle_lines_of s old p + 0 = rw (is, there) at ef in
          record {
            asks = (let a = c.asks in let b : n + 0 ≡ sum_of_own_edges s old kind.Steal p busy_count + 0 = en
                in omega arith);
            lines = (let a = c.lines in omega arith);
            line_asks =
                (let a = rw rested at c.line_asks in omega arith);
          };
      balanced = ask_balanced s p v kind.Line st.taken st.rest (touched old (event.Ask p v kind.Line)) is;
    })
