-- Events of a thief on one of its own edges keep what its record keeps by itself.
use Rattle.std.proofs.Common.{◌≡◌, ◌≢◌, ℕ, ◌+◌, ◌<◌, ◌≤◌, ◌⊎◌, Bool, true, false, not, cond, List}
use Rattle.std.proofs.Common.{◌++◌, length, refl, inl, inr, ⊎_elim, arith, length-append, ◌∙◌}
use Rattle.std.proofs.lemmas.Bool.{cases_eq}
use Rattle.glb_rules.specs.World.{Idle, Asked, Refused, Loot, has_edge, has_line, waits_on}
use Rattle.glb_rules.specs.Effects.{of_kind, wake_count, credit_after_take}
use Rattle.glb_rules.specs.Steps.{IsReady}
use Rattle.glb_rules.specs.Setups.{bit}
use Rattle.glb_rules.specs.Lawful.{Inner, Counted, PhaseFits, no_credit}
use Rattle.glb_rules.specs.declared.kinds.Kind.{Kind}
use Rattle.glb_rules.specs.declared.kinds.Kind.TheVariants as kind
use Rattle.glb_rules.specs.declared.kinds.Edge.{Edge}
use Rattle.glb_rules.specs.declared.kinds.Edge.TheVariants as seen
use Rattle.glb_rules.specs.declared.kinds.Phase.TheVariants as phase
use Rattle.glb_rules.specs.declared.kinds.Credit.{Credit}
use Rattle.glb_rules.specs.declared.kinds.Credit.TheVariants as credit
use Rattle.glb_rules.specs.declared.local.Local.{Local}
use Rattle.glb_rules.proofs.CallerLemmas.{sum_zero}
use Rattle.glb_rules.proofs.CallerLemmas.{kind_cases}
use Rattle.glb_rules.proofs.Invariant.ThiefEvents.{waits_else, waits_self}
use Rattle.glb_place.specs.declared.record.Record.{Record}
use Rattle.glb_place.specs.Records.{edge_like, known_at}
use Rattle.glb_place.specs.Rows.{ask_row, shrug_row, take_row as takes_in}
use Rattle.glb_inbox.specs.inner.Members.{idle_when, busy_when}
use Rattle.glb_inbox.specs.inner.Rule.{Sound, own_setup, own_free, own_busy}
use Rattle.glb_inbox.proofs.Knowing.{more, hit, miss, own_here, own_away}

-- what an edge that is read so is known as
pub like_idle : {I : Type 0} (x : Edge) → edge_like {I = I} x ≡ Idle → x ≡ seen.Idle
like_idle seen.Idle e = refl
like_idle seen.Asked e = absurd (cc)
like_idle seen.Refused e = absurd (cc)
like_idle seen.Loot e = absurd (cc)

pub like_asked : {I : Type 0} (x : Edge) → edge_like {I = I} x ≡ Asked → x ≡ seen.Asked
like_asked seen.Idle e = absurd (cc)
like_asked seen.Asked e = refl
like_asked seen.Refused e = absurd (cc)
like_asked seen.Loot e = absurd (cc)

pub like_refused : {I : Type 0} (x : Edge) → edge_like {I = I} x ≡ Refused → x ≡ seen.Refused
like_refused seen.Idle e = absurd (cc)
like_refused seen.Asked e = absurd (cc)
like_refused seen.Refused e = refl
like_refused seen.Loot e = absurd (cc)

pub like_loot : {I : Type 0} (x : Edge) (xs : List I) → edge_like x ≡ Loot xs → x ≡ seen.Loot
like_loot seen.Idle xs e = absurd (cc)
like_loot seen.Asked xs e = absurd (cc)
like_loot seen.Refused xs e = absurd (cc)
like_loot seen.Loot xs e = refl

steal_line : kind.Steal ≢ kind.Line
steal_line e = cc

line_steal : kind.Line ≢ kind.Steal
line_steal e = cc

module _ {I : Type 0} (awake : ℕ → Bool) (r : Record I) (S : Sound awake r) where
  abbrev p : ℕ
  p = r.place

  abbrev s_of : Record I → ℕ
  s_of x = x.lines.places

  abbrev i : Inner (own_setup awake r) r.place r.local
  i = S.inner

  -- an edge that is known as other than Idle is there
  pub is_there : (k : Kind) (v : ℕ) → v < r.lines.places → known_at r.known k p v ≢ seen.Idle
      → has_edge (own_setup awake r) k p v ≡ true
  is_there k v l n = go (has_edge (own_setup awake r) k p v) refl
    where
      go : (b : Bool) → has_edge (own_setup awake r) k p v ≡ b → has_edge (own_setup awake r) k p v
          ≡ true
      go true e = e
      go false e = absurd (n (S.there k v l e))

  -- edges that are not there stay so
  there_else : (k : Kind) (v : ℕ) (x : Edge) → has_edge (own_setup awake r) k p v ≡ true
      → (j : Kind) (w : ℕ) → w < r.lines.places → has_edge (own_setup awake r) j p w ≡ false
      → known_at (more r.known k p v x) j p w ≡ seen.Idle
  there_else k v x is j w l e =
      ⊎_elim
      (λ (a : j ≡ k). ⊎_elim
      (λ (b : w ≡ v). absurd (let z : has_edge (own_setup awake r) k p v ≡ false =
      rw (a, b) at e in cc))
      (λ (b : w ≢ v). miss r.known k p v x j p w (inr (inr b)) ∙ S.there j w l e)
      (cases_eq w v))
      (λ (a : j ≢ k). miss r.known k p v x j p w (inl a) ∙ S.there j w l e)
      (kind_cases j k)

  -- where the place waits on no steal edge, all are Idle
  none_busy : r.local.phase ≢ phase.Gone → ((v : ℕ) → waits_on kind.Steal v r.local.phase ≡ false)
      → own_busy kind.Steal r ≡ 0
  none_busy n w = sum_zero r.lines.places (λ v. busy_when (known_at r.known kind.Steal p v))
      (λ v l. rw (S.steal v l n (w v)) refl)

  abbrev free_of : ℕ → Edge → ℕ
  free_of v x = cond (has_line (own_setup awake r) p v) (idle_when x) 0

  pub sound_asked_steal : (v : ℕ) → v < r.lines.places → r.local.phase ≡ phase.Idle
      → 0 < r.local.tries
      → has_edge (own_setup awake r) kind.Steal p v ≡ true → known_at r.known kind.Steal p v
      ≡ seen.Idle
      → Sound awake (ask_row v kind.Steal r)
  sound_asked_steal v vl rested some is was =
      let f : PhaseFits phase.Idle r.local.credit (length r.local.bag) = rw rested at i.fits in
      let one : r.local.credit ≡ credit.One = f.1 in
      let zero : own_busy kind.Steal r ≡ 0 = none_busy (rw rested (λ e. cc))
      (λ w. rw rested refl) in
      let here : own_busy kind.Steal (ask_row v kind.Steal r) + 0 ≡ own_busy kind.Steal r + 1 =
      rw was at (own_here r.known kind.Steal p v seen.Asked r.lines.places (λ w. busy_when) vl) in
      let away = own_away r.known kind.Steal p v seen.Asked r.lines.places in
      record {
        near = S.near;
        inner = record {
          fits = f;
          tries = (let t = i.tries in omega arith);
          items = i.items;
          naps = i.naps;
          asks = (let a = rw rested at i.asks in omega arith);
          sent = i.sent;
          wakes = i.wakes;
          near = λ u j e. (let q : v ≡ u = cc in omega arith);
          unmarked = λ j u n g. i.unmarked j u (rw rested (λ e. cc)) (rw rested (λ e. cc));
        };
        counted = (let c = S.counted in record {
          asks = (let a = c.asks in omega arith);
          lines = (let a = c.lines in let q : own_busy kind.Line (ask_row v kind.Steal r)
              ≡ own_busy kind.Line r =
              away (λ w. busy_when) kind.Line p (inl line_steal) in omega arith);
          line_asks = (let a = rw rested at c.line_asks in omega arith);
        });
        lone = omega arith;
        there = there_else kind.Steal v seen.Asked is;
        steal = λ w l n x. ⊎_elim
            (λ (b : w ≡ v). absurd (let y : waits_on kind.Steal v (phase.Waiting v kind.Steal)
            ≡ false = rw b at x in let z = waits_self kind.Steal v in cc))
            (λ (b : w ≢ v). miss r.known kind.Steal p v seen.Asked kind.Steal p w (inr (inr b))
            ∙ S.steal w l (rw rested (λ e. cc)) (rw rested refl))
            (cases_eq w v);
        armed = λ w l z. absurd (cc);
        quiet = λ w l z. absurd (cc);
        gone = λ g. absurd (cc);
      }

  pub sound_asked_line : (v : ℕ) → v < r.lines.places → r.local.phase ≡ phase.Idle
      → r.local.tries ≡ 0
      → has_edge (own_setup awake r) kind.Line p v ≡ true → known_at r.known kind.Line p v
      ≡ seen.Idle
      → Sound awake (ask_row v kind.Line r)
  sound_asked_line v vl rested none is was =
      let f : PhaseFits phase.Idle r.local.credit (length r.local.bag) = rw rested at i.fits in
      let one : r.local.credit ≡ credit.One = f.1 in
      let here : own_busy kind.Line (ask_row v kind.Line r) + 0 ≡ own_busy kind.Line r + 1 =
      rw was at (own_here r.known kind.Line p v seen.Asked r.lines.places (λ w. busy_when) vl) in
      let free : own_free awake (ask_row v kind.Line r) + 1 ≡ own_free awake r + 0 =
      rw (was, is) at (own_here r.known kind.Line p v seen.Asked r.lines.places free_of vl) in
      let away : own_busy kind.Steal (ask_row v kind.Line r) ≡ own_busy kind.Steal r =
      own_away r.known kind.Line p v seen.Asked r.lines.places (λ w. busy_when) kind.Steal p
      (inl steal_line) in
      record {
        near = S.near;
        inner = record {
          fits = f;
          tries = i.tries;
          items = i.items;
          naps = i.naps;
          asks = (let a = rw rested at i.asks in omega arith);
          sent = i.sent;
          wakes = i.wakes;
          near = λ u j e. (let q : v ≡ u = cc in omega arith);
          unmarked = λ j u n g. i.unmarked j u (rw rested (λ e. cc)) (rw rested (λ e. cc));
        };
        counted = (let c = S.counted in record {
          asks = (let a = c.asks in omega arith);
          lines = (let a = c.lines in omega arith);
          line_asks = (let a = rw rested at c.line_asks in omega arith);
        });
        lone = (let a = S.lone in omega arith);
        there = there_else kind.Line v seen.Asked is;
        steal = λ w l n x. miss r.known kind.Line p v seen.Asked kind.Steal p w (inl steal_line)
            ∙ S.steal w l (rw rested (λ e. cc)) (rw rested refl);
        armed = λ w l z. absurd (cc);
        quiet = λ w l z. absurd (cc);
        gone = λ g. absurd (cc);
      }

  -- a steal request that was refused is given up
  pub sound_shrugged_steal : (v : ℕ) → v < r.lines.places → r.local.phase
      ≡ phase.Waiting v kind.Steal
      → known_at r.known kind.Steal p v ≡ seen.Refused → Sound awake (shrug_row v kind.Steal r)
  sound_shrugged_steal v vl waits was =
      let f : PhaseFits (phase.Waiting v kind.Steal) r.local.credit (length r.local.bag) =
      rw waits at i.fits in
      let one : r.local.credit ≡ credit.One = f.1 in
      let is = is_there kind.Steal v vl (rw was (λ e. cc)) in
      let here : own_busy kind.Steal (shrug_row v kind.Steal r) + 1 ≡ own_busy kind.Steal r + 0 =
      rw was at (own_here r.known kind.Steal p v seen.Idle r.lines.places (λ w. busy_when) vl) in
      let free : own_free awake (shrug_row v kind.Steal r) ≡ own_free awake r =
      own_away r.known kind.Steal p v seen.Idle r.lines.places free_of kind.Line p
      (inl line_steal) in
      let away : own_busy kind.Line (shrug_row v kind.Steal r) ≡ own_busy kind.Line r =
      own_away r.known kind.Steal p v seen.Idle r.lines.places (λ w. busy_when) kind.Line p
      (inl line_steal) in
      record {
        near = S.near;
        inner = record {
          fits = f;
          tries = i.tries;
          items = i.items;
          naps = i.naps;
          asks = (let a = rw waits at i.asks in a);
          sent = i.sent;
          wakes = i.wakes;
          near = λ u j e. absurd (cc);
          unmarked = λ j u n g. i.unmarked j u (rw waits (λ e. cc)) (rw waits (λ e. cc));
        };
        counted = (let c = S.counted in record {
          asks = (let a = c.asks in omega arith);
          lines = (let a = c.lines in omega arith);
          line_asks = (let a = rw waits at c.line_asks in omega arith);
        });
        lone = (let a = S.lone in omega arith);
        there = there_else kind.Steal v seen.Idle is;
        steal = λ w l n x. ⊎_elim
            (λ (b : w ≡ v). rw b (hit r.known kind.Steal p v seen.Idle))
            (λ (b : w ≢ v). miss r.known kind.Steal p v seen.Idle kind.Steal p w (inr (inr b))
            ∙ S.steal w l (rw waits (λ e. cc))
            (rw waits (waits_else kind.Steal v kind.Steal w (inr b))))
            (cases_eq w v);
        armed = λ w l z. absurd (cc);
        quiet = λ w l z. absurd (cc);
        gone = λ g. absurd (cc);
      }

  -- a line stays Refused
  pub sound_shrugged_line : (v : ℕ) → r.local.phase ≡ phase.Waiting v kind.Line
      → Sound awake (shrug_row v kind.Line r)
  sound_shrugged_line v waits =
      let f : PhaseFits (phase.Waiting v kind.Line) r.local.credit (length r.local.bag) =
      rw waits at i.fits in
      let one : r.local.credit ≡ credit.One = f.1 in
      record {
        near = S.near;
        inner = record {
          fits = f;
          tries = i.tries;
          items = i.items;
          naps = i.naps;
          asks = (let a = rw waits at i.asks in a);
          sent = i.sent;
          wakes = i.wakes;
          near = λ u j e. absurd (cc);
          unmarked = λ j u n g. i.unmarked j u (rw waits (λ e. cc)) (rw waits (λ e. cc));
        };
        counted = (let c = S.counted in record {
          asks = (let a = c.asks in omega arith);
          lines = (let a = c.lines in omega arith);
          line_asks = (let a = rw waits at c.line_asks in omega arith);
        });
        lone = S.lone;
        there = S.there;
        steal = λ w l n x. S.steal w l (rw waits (λ e. cc)) (rw waits refl);
        armed = λ w l z. absurd (cc);
        quiet = λ w l z. absurd (cc);
        gone = λ g. absurd (cc);
      }

  -- what is known of a place that takes
  abbrev pub Taker : Kind → Local I → Type 0
  Taker k a = ((a.credit ≡ credit.One) × (wake_count a.phase ≡ 0))
      ⊎ ((a.credit ≡ credit.Zero) × (wake_count a.phase ≡ 1) × (k ≡ kind.Line))

  abbrev pub MayTake : Kind → ℕ → Type 0
  MayTake k v = ((r.local.phase ≡ phase.Waiting v k) × (r.local.credit ≡ credit.One))
      ⊎ ((k ≡ kind.Line) × IsReady r.local)

  pub taker : (k : Kind) (v : ℕ) → MayTake k v → Taker k r.local
  taker k v d = ⊎_elim
      (λ w. inl (w.1, rw w.0 refl))
      (λ x. ⊎_elim
      (λ (z : r.local.phase ≡ phase.Asleep).
      let f : PhaseFits phase.Asleep r.local.credit (length r.local.bag) = rw z at i.fits
      in inr (f.1, rw z refl, x.0))
      (λ y. ⊎_elim
      (λ (z : r.local.phase ≡ phase.Idle). let f : PhaseFits phase.Idle r.local.credit
      (length r.local.bag) = rw z at i.fits
      in inl (f.1, rw z refl))
      (λ z. inl (z.1, rw z.0 refl))
      y)
      x.1)
      d

  -- a taker waits on no other edge, and is not Gone
  taker_waits : (k : Kind) (v : ℕ) → MayTake k v
      → (r.local.phase ≢ phase.Gone)
      × ((j : Kind) (u : ℕ) → (j ≢ k) ⊎ (u ≢ v) → waits_on j u r.local.phase ≡ false)
  taker_waits k v d = ⊎_elim
      (λ w. rw w.0 (λ e. cc, λ j u x. waits_else k v j u x))
      (λ x. ⊎_elim
      (λ (z : r.local.phase ≡ phase.Asleep). rw z (λ e. cc, λ j u x. refl))
      (λ y. ⊎_elim
      (λ (z : r.local.phase ≡ phase.Idle). rw z (λ e. cc, λ j u x. refl))
      (λ z. rw z.0 (λ e. cc, λ j u x. refl))
      y)
      x.1)
      d

  pub took_not_zero : (c : Credit) → credit_after_take c ≢ credit.Zero
  took_not_zero credit.Zero e = cc
  took_not_zero credit.One e = cc
  took_not_zero credit.Minted e = cc
  took_not_zero credit.Taken e = cc

  take_naps : (k : Kind) (a : Local I) (n w b : ℕ) → Taker k a → n + b ≡ w + no_credit a.credit
      → n + b ≡ (w + wake_count a.phase) + no_credit (credit_after_take a.credit)
  take_naps k a n w b d h = ⊎_elim
      (λ x. let y : a.credit ≡ credit.One = x.0 in let z : wake_count a.phase ≡ 0 = x.1
      in rw (y, z) (let g : n + b ≡ w + 0 = rw y at h in omega arith))
      (λ x. let y : a.credit ≡ credit.Zero = x.0 in let z : wake_count a.phase ≡ 1 = x.1
      in rw (y, z) (let g : n + b ≡ w + 1 = rw y at h in omega arith))
      d

  take_wakes : (k : Kind) (a : Local I) (w g : ℕ) → Taker k a → w ≤ g
      → w + wake_count a.phase ≤ g + of_kind k 0 1
  take_wakes k a w g d h = ⊎_elim
      (λ x. let z : wake_count a.phase ≡ 0 = x.1 in omega arith)
      (λ x. let z : wake_count a.phase ≡ 1 = x.1 in rw x.2 (omega arith))
      d

  took_counted : (k : Kind) (v : ℕ) (part rest : List I) → v < r.lines.places
      → known_at r.known k p v ≡ seen.Loot
      → Counted (own_setup awake r) p (takes_in v k part rest r).local
      (own_busy kind.Steal (takes_in v k part rest r))
      (own_busy kind.Line (takes_in v k part rest r))
      (own_free awake (takes_in v k part rest r))
      × (own_busy kind.Steal (takes_in v k part rest r) ≤ own_busy kind.Steal r)
  took_counted kind.Steal v part rest vl was =
      let here : own_busy kind.Steal (takes_in v kind.Steal part rest r) + 1
      ≡ own_busy kind.Steal r + 0 =
      rw was at (own_here r.known kind.Steal p v seen.Idle r.lines.places (λ w. busy_when) vl) in
      let away : own_busy kind.Line (takes_in v kind.Steal part rest r) ≡ own_busy kind.Line r =
      own_away r.known kind.Steal p v seen.Idle r.lines.places (λ w. busy_when) kind.Line p
      (inl line_steal) in
      let c = S.counted in (
        record {
          asks = (let a = c.asks in omega arith);
          lines = (let a = c.lines in omega arith);
          line_asks = (let a = c.line_asks in omega arith);
        },
        omega arith,
      )
  took_counted kind.Line v part rest vl was =
      let here : own_busy kind.Line (takes_in v kind.Line part rest r) + 1
      ≡ own_busy kind.Line r + 0 =
      rw was at (own_here r.known kind.Line p v seen.Idle r.lines.places (λ w. busy_when) vl) in
      let away : own_busy kind.Steal (takes_in v kind.Line part rest r) ≡ own_busy kind.Steal r =
      own_away r.known kind.Line p v seen.Idle r.lines.places (λ w. busy_when) kind.Steal p
      (inl steal_line) in
      let c = S.counted in (
        record {
          asks = (let a = c.asks in omega arith);
          lines = (let a = c.lines in omega arith);
          line_asks = (let a = c.line_asks in omega arith);
        },
        omega arith,
      )

  pub sound_took : (k : Kind) (v : ℕ) (part : List I) → v < r.lines.places
      → known_at r.known k p v ≡ seen.Loot
      → MayTake k v → 0 < length part → Sound awake (takes_in v k part (part ++ r.local.bag) r)
  sound_took k v part vl was d some =
      let t = taker k v d in
      let w = taker_waits k v d in
      let is = is_there k v vl (rw was (λ e. cc)) in
      let q = took_counted k v part (part ++ r.local.bag) vl was in
      record {
        near = S.near;
        inner = record {
          fits = (omega (arith, length-append part r.local.bag), took_not_zero r.local.credit);
          tries = i.tries;
          items = i.items;
          naps = take_naps k r.local r.local.count.sleeps r.local.count.wakes (bit (not (awake p)))
              t i.naps;
          asks = (let a = i.asks in omega arith);
          sent = i.sent;
          wakes = take_wakes k r.local r.local.count.wakes r.local.count.line_got t i.wakes;
          near = λ u j e. absurd (cc);
          unmarked = λ j u n g. absurd (n refl);
        };
        counted = q.0;
        lone = (let a = S.lone in let b = q.1 in omega arith);
        there = there_else k v seen.Idle is;
        steal = λ u l n x. ⊎_elim
            (λ (same : (kind.Steal ≡ k) × (u ≡ v)). rw (same.0, same.1)
            (hit r.known k p v seen.Idle))
            (λ (d : (kind.Steal ≢ k) ⊎ (u ≢ v)). miss r.known k p v seen.Idle kind.Steal p u
            (⊎_elim (λ a. inl a) (λ a. inr (inr a)) d) ∙ S.steal u l w.0 (w.1 kind.Steal u d))
            (both k u v);
        armed = λ u l z. absurd (took_not_zero r.local.credit z);
        quiet = λ u l z. absurd (took_not_zero r.local.credit z);
        gone = λ g. absurd (cc);
      }
    where
      both : (k : Kind) (u v : ℕ) → ((kind.Steal ≡ k) × (u ≡ v)) ⊎ ((kind.Steal ≢ k) ⊎ (u ≢ v))
      both k u v = ⊎_elim
          (λ (a : kind.Steal ≡ k). ⊎_elim (λ (b : u ≡ v). inl (a, b)) (λ (b : u ≢ v). inr (inr b))
          (cases_eq u v))
          (λ (a : kind.Steal ≢ k). inr (inl a)) (kind_cases kind.Steal k)
