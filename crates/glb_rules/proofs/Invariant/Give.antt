-- Give keeps the invariant.
use Rattle.std.proofs.Common.{◌≡◌, ◌≢◌, ℕ, ◌+◌, ◌*◌, ◌≤◌, ◌⊎◌, true, List, refl, ⊎_elim, arith, ◌^◌}
use Rattle.glb_rules.specs.World.{Asked, Idle, Refused, Setup, World, has_edge, units_of}
use Rattle.glb_rules.specs.Effects.{Change, after, of_kind, touched}
use Rattle.glb_rules.specs.Steps.{Step}
use Rattle.glb_rules.specs.Setups.{IsProper}
use Rattle.glb_rules.specs.Lawful.{IsLawful}
use Rattle.glb_rules.proofs.EdgeLemmas.Marks.{apart, is_there}
use Rattle.glb_rules.proofs.Invariant.Keeping.{Balanced}
use Rattle.glb_rules.proofs.Invariant.VictimEvents.{served, victim_at, victim_set}
use Rattle.glb_rules.specs.declared.kinds.Kind.{Kind}
use Rattle.glb_rules.specs.declared.kinds.Kind.TheVariants as kind
use Rattle.glb_rules.specs.declared.kinds.Phase.TheVariants as phase
use Rattle.glb_rules.specs.declared.kinds.Credit.TheVariants as credit
use Rattle.glb_rules.specs.declared.kinds.Mark.TheVariants as mark
use Rattle.glb_rules.specs.declared.event.Event.TheVariants as event

give_balanced : {I : Type 0} (s : Setup) (p t : ℕ) (k : Kind) (taken rest : List I) (a : Change I)
    → a.place.credit ≡ credit.Minted → (a.edge ≡ Asked) ⊎ ((k ≡ kind.Line) × (a.edge ≡ Refused))
    → Balanced k a (after s (event.Give p t k) taken rest a)
give_balanced s p t kind.Steal taken rest a c d = ⊎_elim
    (λ (e : a.edge ≡ Asked).
    record {
      live = rw (c, e) (omega arith);
      asks = rw e (omega arith);
      given = rw e (omega arith);
      line_given = omega arith;
      units = rw e (omega arith);
    })
    (λ x. absurd (cc)) d
give_balanced s p t kind.Line taken rest a c d = ⊎_elim
    (λ (e : a.edge ≡ Asked).
    record {
      live = rw (c, e) (omega arith);
      asks = omega arith;
      given = omega arith;
      line_given =
          rw e (omega arith);
      units = rw e (omega arith);
    })
    (λ x. let e : a.edge ≡ Refused = x.1
    in record {
      live = rw (c, e) (omega arith);
      asks = omega arith;
      given = omega arith;
      line_given =
          rw e (omega arith);
      units = rw e (omega arith);
    })
    d

-- one gift more allows its units
sent_more : (k : Kind) (sent g l u : ℕ) → sent ≤ 2 ^ 64 * (g + l) → u ≤ 2 ^ 64
    → sent + u ≤ 2 ^ 64 * ((g + of_kind k 1 0) + (l + of_kind k 0 1))
sent_more kind.Steal sent g l u h j = omega arith
sent_more kind.Line sent g l u h j = omega arith

pub give_keeps : {I : Type 0} (children : I
    → List I) (s : Setup) (old new : World I) (p t : ℕ) (k : Kind)
    → IsProper s → IsLawful s old → Step children s old (event.Give p t k) new → IsLawful s new
give_keeps children s old new p t k P L st =
    let l = st.in_range.0 in
    let m = st.in_range.1 in
    let i = L.inner p l in
    let working : (old.place p).phase ≡ phase.Working = st.enabled.0 in
    let minted : (old.place p).credit ≡ credit.Minted = st.enabled.1 in
    let T = L.thief k t p m l in
    let busy_edge : old.edge k t p ≢ Idle =
    (λ z. ⊎_elim (λ (e : old.edge k t p ≡ Asked). cc)
    (λ x. let e : old.edge k t p ≡ Refused = x.1 in cc) st.enabled.2) in
    let there : has_edge s k t p ≡ true = is_there T busy_edge in
    served s old new p k t _ st.becomes l m L (record {
      apart = apart s P k t p there;
      inner = record {
        fits = rw working (st.choice.1, λ z. cc);
        tries = i.tries;
        items = i.items;
        naps = rw minted at i.naps;
        asks = i.asks;
        sent = sent_more k (old.place p).count.sent_units (old.place p).count.given
            (old.place p).count.line_given (units_of st.taken) i.sent (omega arith);
        wakes = i.wakes;
        near = i.near;
        unmarked = λ j u n g. absurd (n working);
      };
      live = refl;
      stop = refl;
      same_phase = refl;
      not_gone = rw working (λ e. cc);
      same_credit = λ z. absurd (cc);
      thief_named = record {
        there = λ z. absurd (cc);
        steal = λ e d x. absurd (busy_edge (T.steal e d x));
        waited = λ x e. cc;
        line = λ e d. absurd (cc);
        armed = λ z e x. tt;
        quiet = λ z e. absurd (busy_edge (T.quiet z e));
        loot = λ xs e. (let q : st.taken ≡ xs = cc in rw (← q) st.choice.0);
      };
      victim_else = λ j u n d. victim_set k t mark.Clear j u p refl d (L.victim j u p n l);
      victim_named = victim_at (old.place p) k t p mark.Clear refl (λ x. absurd (cc)) there;
      can_give = λ x y. absurd (cc);
      counted = (let o = L.counted p l
          in record { asks = o.asks; lines = o.lines; line_asks = o.line_asks });
      same_busy = ⊎_elim (λ (e : old.edge k t p ≡ Asked). rw e refl) (λ x. rw x.1 refl) st.enabled.2;
      same_idle = ⊎_elim (λ (e : old.edge k t p ≡ Asked). rw e refl) (λ x. rw x.1 refl) st.enabled.2;
      balanced = give_balanced s p t k st.taken st.rest (touched old (event.Give p t k)) minted
          st.enabled.2;
    })
