-- Sleep keeps the invariant.
use Rattle.std.proofs.Common.{◌≡◌, ℕ, ◌≤◌, true, List, length, refl, sym, ⊎_elim, arith}
use Rattle.glb_rules.specs.World.{IsArmed, Setup, World, has_edge}
use Rattle.glb_rules.specs.Steps.{Step}
use Rattle.glb_rules.specs.Lawful.{IsLawful, PhaseFits, ThiefSide}
use Rattle.glb_rules.proofs.Invariant.PlaceEvents.{alone, thief_same, worth_le}
use Rattle.glb_rules.specs.declared.kinds.Kind.TheVariants as kind
use Rattle.glb_rules.specs.declared.kinds.Phase.TheVariants as phase
use Rattle.glb_rules.specs.declared.kinds.Credit.TheVariants as credit
use Rattle.glb_rules.specs.declared.event.Event.TheVariants.{Sleep}

pub sleep_keeps : {I : Type 0} (children : I → List I) (s : Setup) (old new : World I) (p : ℕ)
    → IsLawful s old → Step children s old (Sleep p) new → IsLawful s new
sleep_keeps children s old new p L st =
    let l = st.in_range.0 in
    let i = L.inner p l in
    let idle : (old.place p).phase ≡ phase.Idle = st.enabled.0 in
    let fits : PhaseFits phase.Idle (old.place p).credit (length (old.place p).bag) = rw idle at i.fits in
    let one : (old.place p).credit ≡ credit.One = fits.1 in
    let live : 1 ≤ old.live = rw one at (worth_le L p l) in
    let empty : length (old.place p).bag ≡ 0 = fits.0 in
    alone s old new p _ st.becomes l L (record {
      edge = refl;
      inner = record {
        fits = (empty, refl);
        tries = i.tries;
        items = i.items;
        naps = let n = rw one at i.naps in omega arith;
        asks = let a = i.asks in omega arith;
        sent = i.sent;
        wakes = i.wakes;
        near = λ v k e. absurd (cc);
        unmarked = λ k t n g. i.unmarked k t (rw idle (λ e. cc)) (rw idle (λ e. cc));
      };
      gone = λ g. absurd (cc);
      quiet = λ z. (z, λ n. omega arith);
      thief = λ k v m.
          let T : ThiefSide s k p v (record (old.place p) { phase = phase.Idle }) (old.edge k p v) =
          thief_same (L.thief k p v l m) (sym idle) (λ z. z) in
          record {
            there = T.there;
            steal = λ e d. T.steal e (λ x. cc);
            waited = λ x. absurd (cc);
            line = λ e d. absurd (⊎_elim (λ x. cc) (λ x. cc) (T.line e d));
            armed = λ z e. elim k as
                (λ j. j ≡ kind.Line → has_edge s j p v ≡ true → IsArmed (old.edge j p v))
                [ kind.Steal ↦ (λ x. absurd (cc)) | kind.Line ↦ (λ x y. st.enabled.2 v m y) ] e;
            quiet = λ z e. T.steal e (λ x. cc) refl;
            loot = T.loot;
          };
      victim = λ k t m. let o = L.victim k t p m l in record { pending = o.pending; unseen = o.unseen };
      can_give = λ x y. absurd (cc);
      counted = let o = L.counted p l
          in record { asks = o.asks; lines = o.lines; line_asks = (let a = o.line_asks in omega arith) };
      balanced = record {
        live = rw one (omega arith);
        asks = refl;
        given = refl;
        line_given = refl;
        units = refl;
      };
    })
