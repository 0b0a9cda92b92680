-- Burn keeps the invariant.
use Rattle.std.proofs.Common.{◌≡◌, ℕ, ◌≤◌, List, length, refl, arith}
use Rattle.glb_rules.specs.World.{Setup, World}
use Rattle.glb_rules.specs.Steps.{Step}
use Rattle.glb_rules.specs.Lawful.{IsLawful, PhaseFits}
use Rattle.glb_rules.proofs.Invariant.PlaceEvents.{alone, thief_same, worth_le}
use Rattle.glb_rules.specs.declared.kinds.Phase.{Phase}
use Rattle.glb_rules.specs.declared.kinds.Phase.TheVariants as phase
use Rattle.glb_rules.specs.declared.kinds.Credit.TheVariants as credit
use Rattle.glb_rules.specs.declared.event.Event.TheVariants.{Burn}

burnt : (f : Phase) (n : ℕ) → PhaseFits f credit.Taken n → PhaseFits f credit.One n
burnt phase.Working n h = (h.0, λ z. cc)
burnt phase.Idle n h = (h.0, refl)
burnt (phase.Waiting v k) n h = (h.0, refl)
burnt phase.Asleep n h = let e = h.1 in absurd (cc)
burnt phase.Gone n h = λ z. absurd (cc)

pub burn_keeps : {I : Type 0} (children : I → List I) (s : Setup) (old new : World I) (p : ℕ)
    → IsLawful s old → Step children s old (Burn p) new → IsLawful s new
burn_keeps children s old new p L st =
    let l = st.in_range.0 in
    let i = L.inner p l in
    let taken : (old.place p).credit ≡ credit.Taken = st.enabled in
    let live : 2 ≤ old.live = rw taken at (worth_le L p l) in
    alone s old new p _ st.becomes l L (record {
      edge = refl;
      inner = record {
        fits = burnt (old.place p).phase (length (old.place p).bag) (rw taken at i.fits);
        tries = i.tries;
        items = i.items;
        naps = rw taken at i.naps;
        asks = i.asks;
        sent = i.sent;
        wakes = i.wakes;
        near = i.near;
        unmarked = i.unmarked;
      };
      gone = λ g z. absurd (let e = L.gone p l g z in omega arith);
      quiet = λ z. (z, λ n. absurd (omega arith));
      thief = λ k v m. thief_same (L.thief k p v l m) refl (λ z. cc);
      victim = λ k t m. let o = L.victim k t p m l in record { pending = o.pending; unseen = o.unseen };
      can_give = λ x y. absurd (cc);
      counted = let o = L.counted p l in record { asks = o.asks; lines = o.lines; line_asks = o.line_asks };
      balanced = record {
        live = rw taken (omega arith);
        asks = refl;
        given = refl;
        line_given = refl;
        units = refl;
      };
    })
