-- Events that change a place and none of its edges keep what its record keeps by itself.
use Rattle.std.proofs.Common.{◌≡◌, ◌≢◌, ℕ, ◌+◌, ◌*◌, ◌<◌, ◌≤◌, ◌⊎◌, Bool, true, false, cond, List}
use Rattle.std.proofs.Common.{[], ◌∷◌, length, max, refl, inl, inr, ⊎_elim, arith, length-append}
use Rattle.std.proofs.Common.{◌∙◌}
use Rattle.std.proofs.Math.Nat.{mul-add, mul-le-mul_left}
use Rattle.glb_rules.specs.World.{IsArmed, has_line, waits_on}
use Rattle.glb_rules.specs.Effects.{phase_after_batch, tries_after}
use Rattle.glb_rules.specs.Setups.{bit, degree}
use Rattle.glb_core.specs.Lifelines.{setup_of}
use Rattle.glb_rules.specs.Lawful.{Inner, PhaseFits, at_rest}
use Rattle.glb_rules.specs.declared.kinds.Kind.{Kind}
use Rattle.glb_rules.specs.declared.kinds.Kind.TheVariants as kind
use Rattle.glb_rules.specs.declared.kinds.Edge.{Edge}
use Rattle.glb_rules.specs.declared.kinds.Edge.TheVariants as seen
use Rattle.glb_rules.specs.declared.kinds.Phase.{Phase}
use Rattle.glb_rules.specs.declared.kinds.Phase.TheVariants as phase
use Rattle.glb_rules.specs.declared.kinds.Credit.{Credit}
use Rattle.glb_rules.specs.declared.kinds.Credit.TheVariants as credit
use Rattle.glb_rules.proofs.Sums.Totals.{sum_le}
use Rattle.glb_cube.specs.Lines.{Cube}
use Rattle.glb_rules.specs.declared.params.Params.{Params}
use Rattle.glb_place.specs.declared.record.Record.{Record}
use Rattle.glb_place.specs.Records.{edge_like, known_at, setup_in}
use Rattle.glb_place.specs.Rows.{batch_row, mint_row, burn_row, sleep_row, leave_row, halt_row}
use Rattle.glb_inbox.specs.inner.Members.{idle_when}
use Rattle.glb_inbox.specs.inner.Rule.{IsArmedWhen, Sound, own_setup, own_free}

-- lines do not depend on who is awake
pub line_alike : (c : Cube) (q : Params) (a b : ℕ → Bool) (t v : ℕ)
    → has_line (setup_of c q a) t v ≡ has_line (setup_of c q b) t v
unfolding has_line
line_alike c q a b t v = refl

module _ {I : Type 0} (awake : ℕ → Bool) (r : Record I) (S : Sound awake r) where
  abbrev i : Inner (own_setup awake r) r.place r.local
  i = S.inner

  pub sound_minted : r.local.phase ≡ phase.Working → r.local.credit ≡ credit.One
      → Sound awake (mint_row r)
  sound_minted working one = record {
    near = S.near;
    inner = record {
      fits = rw working (
        (let f : PhaseFits phase.Working r.local.credit (length r.local.bag) =
            rw working at i.fits in f.0),
        λ z. cc,
      );
      tries = i.tries;
      items = i.items;
      naps = (let n = rw one at i.naps in n);
      asks = i.asks;
      sent = i.sent;
      wakes = i.wakes;
      near = i.near;
      unmarked = i.unmarked;
    };
    counted = let o = S.counted in record {
      asks = o.asks;
      lines = o.lines;
      line_asks = o.line_asks;
    };
    lone = S.lone;
    there = S.there;
    steal = S.steal;
    armed = λ v l z. absurd (cc);
    quiet = λ v l z. absurd (cc);
    gone = S.gone;
  }

  fits_burnt : (f : Phase) (n : ℕ) → PhaseFits f credit.Taken n → PhaseFits f credit.One n
  fits_burnt phase.Working n h = (h.0, λ z. cc)
  fits_burnt phase.Idle n h = (h.0, refl)
  fits_burnt (phase.Waiting v k) n h = (h.0, refl)
  fits_burnt phase.Asleep n h = let e = h.1 in absurd (cc)
  fits_burnt phase.Gone n h = λ z. absurd (cc)

  pub sound_burnt : r.local.credit ≡ credit.Taken → Sound awake (burn_row r)
  sound_burnt taken = record {
    near = S.near;
    inner = record {
      fits = fits_burnt r.local.phase (length r.local.bag) (rw taken at i.fits);
      tries = i.tries;
      items = i.items;
      naps = rw taken at i.naps;
      asks = i.asks;
      sent = i.sent;
      wakes = i.wakes;
      near = i.near;
      unmarked = i.unmarked;
    };
    counted = let o = S.counted in record {
      asks = o.asks;
      lines = o.lines;
      line_asks = o.line_asks;
    };
    lone = S.lone;
    there = S.there;
    steal = S.steal;
    armed = λ v l z. absurd (cc);
    quiet = λ v l z. absurd (cc);
    gone = S.gone;
  }

  armed_like : (x : Edge) → IsArmed {I = I} (edge_like x) → IsArmedWhen x
  armed_like seen.Idle h = h
  armed_like seen.Asked h = h
  armed_like seen.Refused h = h
  armed_like seen.Loot h = h

  pub sound_slept : r.local.phase ≡ phase.Idle
      → ((v : ℕ) → v < r.lines.places → has_line (setup_in r) r.place v ≡ true
      → IsArmed {I = I} (edge_like (known_at r.known kind.Line r.place v)))
      → Sound awake (sleep_row r)
  sound_slept idle ready =
      let fits : PhaseFits phase.Idle r.local.credit (length r.local.bag) = rw idle at i.fits in
      let one : r.local.credit ≡ credit.One = fits.1 in
      let empty : length r.local.bag ≡ 0 = fits.0 in
      record {
        near = S.near;
        inner = record {
          fits = (empty, refl);
          tries = i.tries;
          items = i.items;
          naps = let n = rw one at i.naps in omega arith;
          asks = let a = i.asks in omega arith;
          sent = i.sent;
          wakes = i.wakes;
          near = λ v k e. absurd (cc);
          unmarked = λ k t n g. i.unmarked k t (rw idle (λ e. cc)) (rw idle (λ e. cc));
        };
        counted = let o = S.counted
            in record {
              asks = o.asks;
              lines = o.lines;
              line_asks =
                  (let a = o.line_asks in omega arith);
            };
        lone = S.lone;
        there = S.there;
        steal = λ v l n w. S.steal v l (rw idle (λ e. cc)) (rw idle refl);
        armed = λ v l z h. armed_like _
            (ready v l (line_alike r.lines r.params (λ p. false) awake r.place v ∙ h));
        quiet = λ v l z. S.steal v l (rw idle (λ e. cc)) (rw idle refl);
        gone = λ g. absurd (cc);
      }

  -- a place that is not Gone and has no credit has no items
  fits_left : (f : Phase) (c : Credit) (n : ℕ) → PhaseFits f c n → PhaseFits phase.Gone c n
  fits_left phase.Working c n h = λ z. absurd (h.1 z)
  fits_left phase.Idle c n h = λ z. h.0
  fits_left (phase.Waiting v k) c n h = λ z. h.0
  fits_left phase.Asleep c n h = λ z. h.0
  fits_left phase.Gone c n h = h

  -- the place leaves, having read live as 0 or a code
  pub sound_left : (over : Bool) (code : ℕ) → (over ≡ true) ⊎ (code ≢ 0)
      → Sound awake (record (leave_row r) { over = over; code = code })
  sound_left over code why = record {
    near = S.near;
    inner = record {
      fits = fits_left r.local.phase r.local.credit (length r.local.bag) i.fits;
      tries = i.tries;
      items = i.items;
      naps = i.naps;
      asks = let a = i.asks in omega arith;
      sent = i.sent;
      wakes = i.wakes;
      near = λ v k e. absurd (cc);
      unmarked = λ k t n g. absurd (g refl);
    };
    counted = let o = S.counted
        in record {
          asks = o.asks;
          lines = o.lines;
          line_asks = (let a = o.line_asks in omega arith);
        };
    lone = S.lone;
    there = S.there;
    steal = λ v l n w. absurd (n refl);
    armed = S.armed;
    quiet = S.quiet;
    gone = λ g. why;
  }

  pub sound_halted : (c : ℕ) → Sound awake (halt_row c r)
  sound_halted c = record {
    near = S.near;
    inner = i;
    counted = S.counted;
    lone = S.lone;
    there = S.there;
    steal = S.steal;
    armed = S.armed;
    quiet = S.quiet;
    gone = λ g. ⊎_elim (λ (o : r.over ≡ true). inl o) (λ (n : r.code ≢ 0).
        inr (λ (z : max r.code c ≡ 0). n (omega arith))) (S.gone g);
  }

  -- an item done allows a multiple more
  more : (w n k : ℕ) → 0 < k → w * n + w ≤ w * (n + k)
  more w n k l = let e = mul-add w n k in let d : w * 1 ≤ w * k = mul-le-mul_left w l in omega arith

  pub free_le : own_free awake r ≤ degree (own_setup awake r) r.place
  free_le = sum_le r.lines.places
      (λ v. cond (has_line (own_setup awake r) r.place v)
      (idle_when (known_at r.known kind.Line r.place v)) 0)
      (λ v. bit (has_line (own_setup awake r) r.place v)) (λ v l.
      each (has_line (own_setup awake r) r.place v) (known_at r.known kind.Line r.place v))
    where
      one : (e : Edge) → idle_when e ≤ 1
      one seen.Idle = omega arith
      one seen.Asked = omega arith
      one seen.Refused = omega arith
      one seen.Loot = omega arith

      each : (b : Bool) (e : Edge) → cond b (idle_when e) 0 ≤ bit b
      each true e = one e
      each false e = omega arith

  -- what a bag that is left behind makes of a Working place
  batch_fits : (rest : List I) → PhaseFits (phase_after_batch rest) credit.One (length rest)
  batch_fits [] = (refl, refl)
  batch_fits (x ∷ xs) = (omega arith, λ z. cc)

  batch_tries : (w n : ℕ) (rest : List I) → n ≤ w → (tries_after w n rest ≤ w)
      × (at_rest (phase_after_batch rest) (tries_after w n rest) ≤ w)
  batch_tries w n [] l = (omega arith, omega arith)
  batch_tries w n (x ∷ xs) l = (l, omega arith)

  batch_rests : (rest : List I) (n : ℕ) → at_rest (phase_after_batch rest) n ≤ n
  batch_rests [] n = omega arith
  batch_rests (x ∷ xs) n = omega arith

  batch_waits : (rest : List I) (k : Kind) (v : ℕ) → (waits_on k v (phase_after_batch rest) ≡ false)
      × (phase_after_batch rest ≢ phase.Gone)
  batch_waits [] k v = (refl, λ e. cc)
  batch_waits (x ∷ xs) k v = (refl, λ e. cc)

  batch_near : (rest : List I) (v : ℕ) (k : Kind) → phase_after_batch rest ≢ phase.Waiting v k
  batch_near [] v k e = cc
  batch_near (x ∷ xs) v k e = cc

  pub sound_settled : (total : ℕ) (taken rest : List I) → r.local.phase ≡ phase.Working
      → r.local.credit ≡ credit.One
      → 0 < length taken → Sound awake (batch_row total taken rest r)
  sound_settled total taken rest working one some =
      let n = r.local.count.items in
      let most = (own_setup awake r).tries in
      let t = batch_tries most r.local.tries rest i.tries in
      record {
        near = S.near;
        inner = record {
          fits = rw one (batch_fits rest);
          tries = t.0;
          items = (let e = i.items in omega (arith, length-append r.local.done taken));
          naps = i.naps;
          asks = (let a = i.asks in let m = more most n (length taken) some in let t1 =
              t.1 in omega arith);
          sent = i.sent;
          wakes = i.wakes;
          near = λ v k e. absurd (batch_near rest v k e);
          unmarked = λ k t n g e. cc;
        };
        counted = (let o = S.counted in record {
          asks = o.asks;
          lines = o.lines;
          line_asks = (let a = o.line_asks in let f = free_le in
              let b = batch_rests rest (own_free awake r) in
              let m = more (degree (own_setup awake r) r.place) n (length taken) some in
              omega arith);
        });
        lone = S.lone;
        there = S.there;
        steal = λ v l d w. S.steal v l (rw working (λ e. cc)) (rw working refl);
        armed = λ v l z. absurd (cc);
        quiet = λ v l z. absurd (cc);
        gone = λ g. absurd ((batch_waits rest kind.Steal 0).1 g);
      }
