-- Leave and Halt keep the invariant.
use Rattle.std.proofs.Common.{ℕ, ◌<◌, List, length, refl, inr, ⊎_elim, arith}
use Rattle.glb_rules.specs.World.{Setup, World}
use Rattle.glb_rules.specs.Steps.{Step}
use Rattle.glb_rules.specs.Lawful.{IsLawful, PhaseFits}
use Rattle.glb_rules.proofs.Invariant.PlaceEvents.{alone}
use Rattle.glb_rules.specs.declared.kinds.Phase.{Phase}
use Rattle.glb_rules.specs.declared.kinds.Phase.TheVariants as phase
use Rattle.glb_rules.specs.declared.kinds.Credit.{Credit}
use Rattle.glb_rules.specs.declared.event.Event.TheVariants.{Halt, Leave}

-- a place that is not Gone and has no credit has no items
left : (f : Phase) (c : Credit) (n : ℕ) → PhaseFits f c n → PhaseFits phase.Gone c n
left phase.Working c n h = λ z. absurd (h.1 z)
left phase.Idle c n h = λ z. h.0
left (phase.Waiting v k) c n h = λ z. h.0
left phase.Asleep c n h = λ z. h.0
left phase.Gone c n h = h

pub leave_keeps : {I : Type 0} (children : I → List I) (s : Setup) (old new : World I) (p : ℕ)
    → IsLawful s old → Step children s old (Leave p) new → IsLawful s new
leave_keeps children s old new p L st =
    let l = st.in_range.0 in
    let i = L.inner p l in
    alone s old new p _ st.becomes l L (record {
      edge = refl;
      inner = record {
        fits = left (old.place p).phase (old.place p).credit (length (old.place p).bag) i.fits;
        tries = i.tries;
        items = i.items;
        naps = i.naps;
        asks = let a = i.asks in omega arith;
        sent = i.sent;
        wakes = i.wakes;
        near = λ v k e. absurd (cc);
        unmarked = λ k t n g. absurd (g refl);
      };
      gone = λ g z. ⊎_elim (λ x. x) (λ x. absurd (x z)) st.enabled.1;
      quiet = λ z. (z, λ n. n);
      thief = λ k v m.
          let T = L.thief k p v l m in
          record {
            there = T.there;
            steal = λ e d. absurd (d refl);
            waited = λ x. absurd (cc);
            line = λ e d. inr refl;
            armed = T.armed;
            quiet = T.quiet;
            loot = T.loot;
          };
      victim = λ k t m. let o = L.victim k t p m l in record { pending = o.pending; unseen = o.unseen };
      can_give = λ x y. absurd (cc);
      counted = let o = L.counted p l
          in record { asks = o.asks; lines = o.lines; line_asks = (let a = o.line_asks in omega arith) };
      balanced = record { live = refl; asks = refl; given = refl; line_given = refl; units = refl };
    })

pub halt_keeps : {I : Type 0} (children : I → List I) (s : Setup) (old new : World I) (p n : ℕ)
    → IsLawful s old → Step children s old (Halt p n) new → IsLawful s new
halt_keeps children s old new p n L st =
    let l = st.in_range.0 in
    let i = L.inner p l in
    let some : 0 < n = ⊎_elim (λ x. omega arith) (λ x. omega arith) st.enabled.1 in
    alone s old new p _ st.becomes l L (record {
      edge = refl;
      inner = i;
      gone = λ g z. absurd (omega arith);
      quiet = λ z. absurd (omega arith);
      thief = λ k v m. L.thief k p v l m;
      victim = λ k t m. L.victim k t p m l;
      can_give = L.can_give p l;
      counted = L.counted p l;
      balanced = record { live = refl; asks = refl; given = refl; line_given = refl; units = refl };
    })
