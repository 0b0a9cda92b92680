-- Deny keeps the invariant.
use Rattle.std.proofs.Common.{◌≡◌, ◌≢◌, ℕ, ◌<◌, true, List, length, refl, ⊎_elim, arith}
use Rattle.glb_rules.specs.World.{Asked, Setup, World, has_edge}
use Rattle.glb_rules.specs.Effects.{Change, after, touched}
use Rattle.glb_rules.specs.Steps.{Step}
use Rattle.glb_rules.specs.Setups.{IsProper}
use Rattle.glb_rules.specs.Lawful.{IsLawful, ThiefSide}
use Rattle.glb_rules.proofs.EdgeLemmas.Marks.{apart, is_there, unmarked_put}
use Rattle.glb_rules.proofs.Invariant.Keeping.{Balanced}
use Rattle.glb_rules.proofs.Invariant.VictimEvents.{served, victim_at, victim_set}
use Rattle.glb_rules.specs.declared.kinds.Kind.{Kind}
use Rattle.glb_rules.specs.declared.kinds.Kind.TheVariants as kind
use Rattle.glb_rules.specs.declared.kinds.Phase.TheVariants as phase
use Rattle.glb_rules.specs.declared.kinds.Mark.TheVariants as mark
use Rattle.glb_rules.specs.declared.event.Event.TheVariants as event

deny_balanced : {I : Type 0} (s : Setup) (p t : ℕ) (k : Kind) (taken rest : List I) (a : Change I)
    → a.edge ≡ Asked → Balanced k a (after s (event.Deny p t k) taken rest a)
deny_balanced s p t kind.Steal taken rest a e =
    record {
      live = rw e refl;
      asks = rw e (omega arith);
      given = rw e refl;
      line_given = refl;
      units =
          rw e refl;
    }
deny_balanced s p t kind.Line taken rest a e =
    record {
      live = rw e refl;
      asks = omega arith;
      given = omega arith;
      line_given = rw e refl;
      units =
          rw e refl;
    }

pub deny_keeps : {I : Type 0} (children : I
    → List I) (s : Setup) (old new : World I) (p t : ℕ) (k : Kind)
    → IsProper s → IsLawful s old → Step children s old (event.Deny p t k) new → IsLawful s new
deny_keeps children s old new p t k P L st =
    let l = st.in_range.0 in
    let m = st.in_range.1 in
    let i = L.inner p l in
    let is : old.edge k t p ≡ Asked = st.enabled.0 in
    let T : ThiefSide s k t p (old.place t) Asked = rw is at (L.thief k t p m l) in
    let there : has_edge s k t p ≡ true = is_there T (λ e. cc) in
    served s old new p k t _ st.becomes l m L (record {
      apart = apart s P k t p there;
      inner = record {
        fits = i.fits;
        tries = i.tries;
        items = i.items;
        naps = i.naps;
        asks = i.asks;
        sent = i.sent;
        wakes = i.wakes;
        near = i.near;
        unmarked = λ j u n g.
            unmarked_put (old.place p).marks k t j u (i.unmarked j u n g);
      };
      live = refl;
      stop = refl;
      same_phase = refl;
      not_gone = st.enabled.1;
      same_credit = λ z. z;
      thief_named = record {
        there = λ z. absurd (cc);
        steal = λ e d x. absurd (let y = T.steal e d x in cc);
        waited = λ x e. cc;
        line = λ e d. absurd (cc);
        armed = λ z e x. tt;
        quiet = λ z e. absurd (let y = T.quiet z e in cc);
        loot = λ xs e. absurd (cc);
      };
      victim_else = λ j u n d. victim_set k t mark.Clear j u p refl d (L.victim j u p n l);
      victim_named = victim_at (old.place p) k t p mark.Clear refl (λ x. absurd (cc)) there;
      can_give = λ x y. absurd
          (let g = L.can_give p l x y
          in ⊎_elim (λ (d : (old.place p).phase ≢ phase.Working). d x)
          (λ (d : length (old.place p).bag < 2). let g0 = g.0 in omega arith) st.enabled.2);
      counted = (let o = L.counted p l
          in record { asks = o.asks; lines = o.lines; line_asks = o.line_asks });
      same_busy = rw is refl;
      same_idle = rw is refl;
      balanced = deny_balanced s p t k st.taken st.rest (touched old (event.Deny p t k)) is;
    })
