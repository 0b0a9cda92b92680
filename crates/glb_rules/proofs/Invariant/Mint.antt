-- Mint keeps the invariant.
use Rattle.std.proofs.Common.{◌≡◌, ℕ, ◌≤◌, List, length, refl, arith}
use Rattle.glb_rules.specs.World.{Setup, World}
use Rattle.glb_rules.specs.Steps.{Step}
use Rattle.glb_rules.specs.Lawful.{IsLawful, PhaseFits}
use Rattle.glb_rules.proofs.Invariant.PlaceEvents.{alone, thief_same, worth_le}
use Rattle.glb_rules.specs.declared.kinds.Phase.TheVariants as phase
use Rattle.glb_rules.specs.declared.kinds.Credit.TheVariants as credit
use Rattle.glb_rules.specs.declared.event.Event.TheVariants.{Mint}

pub mint_keeps : {I : Type 0} (children : I → List I) (s : Setup) (old new : World I) (p : ℕ)
    → IsLawful s old → Step children s old (Mint p) new → IsLawful s new
mint_keeps children s old new p L st =
    let l = st.in_range.0 in
    let i = L.inner p l in
    let working : (old.place p).phase ≡ phase.Working = st.enabled.0 in
    let one : (old.place p).credit ≡ credit.One = st.enabled.1 in
    let live : 1 ≤ old.live = rw one at (worth_le L p l) in
    alone s old new p _ st.becomes l L (record {
      edge = refl;
      inner = record {
        fits = rw working (
          (let f : PhaseFits phase.Working (old.place p).credit
              (length (old.place p).bag) = rw working at i.fits in f.0),
          λ z. cc,
        );
        tries = i.tries;
        items = i.items;
        naps = (let n = rw one at i.naps in n);
        asks = i.asks;
        sent = i.sent;
        wakes = i.wakes;
        near = i.near;
        unmarked = i.unmarked;
      };
      gone = λ g. absurd (cc);
      quiet = λ z. (z, λ n. absurd (omega arith));
      thief = λ k v m. thief_same (L.thief k p v l m) refl (λ z. cc);
      victim = λ k t m. let o = L.victim k t p m l in record { pending = o.pending; unseen = o.unseen };
      can_give = λ x y. (st.enabled.2, st.enabled.3);
      counted = let o = L.counted p l in record { asks = o.asks; lines = o.lines; line_asks = o.line_asks };
      balanced = record {
        live = rw one (omega arith);
        asks = refl;
        given = refl;
        line_given = refl;
        units = refl;
      };
    })
