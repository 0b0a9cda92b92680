-- Look keeps the invariant.
use Rattle.std.proofs.Common.{◌≡◌, ℕ, true, List, refl}
use Rattle.glb_rules.specs.World.{Asked, Idle, Loot, Refused, Setup, World, WorldEdge, has_edge}
use Rattle.glb_rules.specs.World.{state_of}
use Rattle.glb_rules.specs.Events.{name_of}
use Rattle.glb_rules.specs.Effects.{mark_after_look}
use Rattle.glb_rules.specs.Steps.{Step}
use Rattle.glb_rules.specs.Setups.{IsProper}
use Rattle.glb_rules.specs.Lawful.{IsLawful}
use Rattle.glb_rules.proofs.EdgeLemmas.Marks.{apart}
use Rattle.glb_rules.proofs.Invariant.Keeping.{wanted_kept}
use Rattle.glb_rules.proofs.Invariant.VictimEvents.{served, victim_at, victim_set}
use Rattle.glb_rules.specs.declared.kinds.Kind.{Kind}
use Rattle.glb_rules.specs.declared.kinds.Phase.TheVariants as phase
use Rattle.glb_rules.specs.declared.kinds.Mark.TheVariants as mark
use Rattle.glb_rules.specs.declared.event.Event.TheVariants as event

looked_asked : {I : Type 0} (e : WorldEdge I) → mark_after_look (state_of e) ≡ mark.Pending → e
    ≡ Asked
looked_asked Idle q = absurd (cc)
looked_asked Asked q = refl
looked_asked Refused q = absurd (cc)
looked_asked (Loot xs) q = absurd (cc)

pub look_keeps : {I : Type 0} (children : I
    → List I) (s : Setup) (old new : World I) (p t : ℕ) (k : Kind)
    → IsProper s → IsLawful s old → Step children s old (event.Look p t k) new → IsLawful s new
look_keeps children s old new p t k P L st =
    let l = st.in_range.0 in
    let m = st.in_range.1 in
    let i = L.inner p l in
    let working : (old.place p).phase ≡ phase.Working = st.enabled.0 in
    let there : has_edge s k t p ≡ true = st.enabled.1 in
    served s old new p k t _ st.becomes l m L (record {
      apart = apart s P k t p there;
      inner = record {
        fits = i.fits;
        tries = i.tries;
        items = i.items;
        naps = i.naps;
        asks = i.asks;
        sent = i.sent;
        wakes = i.wakes;
        near = i.near;
        unmarked = λ j u n g. absurd (n working);
      };
      live = refl;
      stop = refl;
      same_phase = refl;
      not_gone = rw working (λ e. cc);
      same_credit = λ z. z;
      thief_named = L.thief k t p m l;
      victim_else = λ j u n d.
          victim_set k t (mark_after_look (state_of (old.edge k t p))) j u p refl d (L.victim j u p n l);
      victim_named = victim_at (old.place p) k t p (mark_after_look (state_of (old.edge k t p))) refl
          (looked_asked (old.edge k t p)) there;
      can_give = λ x y. (
        (L.can_give p l x y).0,
        wanted_kept s old new p (name_of k t p) _ st.becomes l m l p (λ e w. w) (L.can_give p l x y).1,
      );
      counted = (let o = L.counted p l
          in record { asks = o.asks; lines = o.lines; line_asks = o.line_asks });
      same_busy = refl;
      same_idle = refl;
      balanced = record { live = refl; asks = refl; given = refl; line_given = refl; units = refl };
    })
