-- What a place does as the victim of an edge, and its looks, keep what its record keeps by itself.
use Rattle.std.proofs.Common.{◌≡◌, ◌≢◌, ℕ, ◌+◌, ◌*◌, ◌^◌, ◌<◌, ◌≤◌, Bool, true, false, cond, ◌&&◌}
use Rattle.std.proofs.Common.{List, length, refl, sym, inl, inr, ⊎_elim, arith, ◌∙◌, ap, subst}
use Rattle.std.proofs.lemmas.Bool.{cases_eq}
use Rattle.glb_rules.specs.World.{has_line, mark_at, units_of}
use Rattle.glb_laws.specs.Sums.{sum_to}
use Rattle.glb_rules.specs.Effects.{of_kind}
use Rattle.glb_rules.specs.Decision.{is_mark}
use Rattle.glb_rules.specs.Events.{name_of}
use Rattle.glb_rules.specs.Lawful.{Inner, Counted}
use Rattle.glb_rules.specs.declared.kinds.Kind.{Kind}
use Rattle.glb_rules.specs.declared.kinds.Kind.TheVariants as kind
use Rattle.glb_rules.specs.declared.kinds.Edge.{Edge}
use Rattle.glb_rules.specs.declared.kinds.Edge.TheVariants as seen
use Rattle.glb_rules.specs.declared.kinds.Mark.TheVariants as mark
use Rattle.glb_rules.specs.declared.kinds.Phase.{Phase}
use Rattle.glb_rules.specs.declared.kinds.Phase.TheVariants as phase
use Rattle.glb_rules.specs.declared.kinds.Credit.TheVariants as credit
use Rattle.glb_rules.specs.declared.kinds.Side.TheVariants as side
use Rattle.glb_rules.specs.declared.local.Local.{Local}
use Rattle.glb_rules.proofs.CallerLemmas.{unmarked_put}
use Rattle.glb_rules.proofs.CallerLemmas.{kind_cases}
use Rattle.glb_place.specs.declared.record.Record.{Record}
use Rattle.glb_place.specs.Records.{known_at}
use Rattle.glb_place.specs.Rows.{known_row, deny_row, give_row, mark_row}
use Rattle.glb_place.specs.Calls.{CanFind, look_row, is_working}
use Rattle.glb_inbox.specs.inner.Members.{idle_when, busy_when}
use Rattle.glb_inbox.specs.inner.Rule.{IsArmedWhen, Sound, own_setup, own_free, own_busy}
use Rattle.glb_inbox.proofs.Knowing.{more, hit, miss, own_here, own_away}

steal_line : kind.Steal ≢ kind.Line
steal_line e = cc

module _ {I : Type 0} (awake : ℕ → Bool) (r : Record I) (S : Sound awake r) where
  abbrev p : ℕ
  p = r.place

  abbrev i : Inner (own_setup awake r) r.place r.local
  i = S.inner

  abbrev free_of : ℕ → Edge → ℕ
  free_of v x = cond (has_line (own_setup awake r) p v) (idle_when x) 0

  -- an in-edge is learnt, and phase, credit and the counters of its own requests stay
  module _ (t : ℕ) (k : Kind) (x : Edge) (other : p ≢ t) where
    own_same : (g : ℕ → Edge → ℕ) (j : Kind)
        → sum_to r.lines.places (λ w. g w (known_at (more r.known k t p x) j p w))
        ≡ sum_to r.lines.places (λ w. g w (known_at r.known j p w))
    own_same g j = own_away r.known k t p x r.lines.places g j p (inr other)

    known_same : (j : Kind) (w : ℕ) → known_at (more r.known k t p x) j p w ≡ known_at r.known j p w
    known_same j w = miss r.known k t p x j p w (inr (inl other))

    -- the part after, which may differ in credit, bag, marks and what it counts of its gifts
    pub sound_served : (b : Local I) → Inner (own_setup awake r) p b → b.phase ≡ r.local.phase
        → (b.credit ≡ credit.Zero → r.local.credit ≡ credit.Zero)
        → Counted (own_setup awake r) p b (own_busy kind.Steal r) (own_busy kind.Line r)
        (own_free awake r)
        → Sound awake (known_row (name_of k t p) x (record r { local = b }))
    sound_served b inner same paid counted = record {
      near = S.near;
      inner = inner;
      counted = rw (
        own_same (λ v. busy_when) kind.Steal,
        own_same (λ v. busy_when) kind.Line,
        own_same free_of kind.Line,
      ) counted;
      lone = rw (own_same (λ v. busy_when) kind.Steal) S.lone;
      there = λ j w l e. known_same j w ∙ S.there j w l e;
      steal = λ w l g d. known_same kind.Steal w ∙ S.steal w l (rw same at g) (rw same at d);
      armed = λ w l z h. rw (known_same kind.Line w) (S.armed w l (paid z) h);
      quiet = λ w l z. known_same kind.Steal w ∙ S.quiet w l (paid z);
      gone = λ g. S.gone (rw same at g);
    }

  pub sound_denied : (t : ℕ) (k : Kind) → p ≢ t → Sound awake (deny_row t k r)
  sound_denied t k other = sound_served t k seen.Refused other _
      (record {
        fits = i.fits;
        tries = i.tries;
        items = i.items;
        naps = i.naps;
        asks = i.asks;
        sent = i.sent;
        wakes = i.wakes;
        near = i.near;
        unmarked = λ j u n g. unmarked_put r.local.marks k t j u (i.unmarked j u n g);
      })
      refl (λ z. z) (let o = S.counted in record {
        asks = o.asks;
        lines = o.lines;
        line_asks = o.line_asks;
      })

  -- one gift more allows its units
  sent_more : (k : Kind) (sent g l u : ℕ) → sent ≤ 2 ^ 64 * (g + l) → u ≤ 2 ^ 64
      → sent + u ≤ 2 ^ 64 * ((g + of_kind k 1 0) + (l + of_kind k 0 1))
  sent_more kind.Steal sent g l u h j = omega arith
  sent_more kind.Line sent g l u h j = omega arith

  pub sound_gave : (t : ℕ) (k : Kind) (part rest : List I) → p ≢ t → r.local.phase ≡ phase.Working
      → r.local.credit ≡ credit.Minted → 0 < length rest → Sound awake (give_row t k part rest r)
  sound_gave t k part rest other working minted some = sound_served t k seen.Loot other _
      (record {
        fits = rw working (some, λ z. cc);
        tries = i.tries;
        items = i.items;
        naps = rw minted at i.naps;
        asks = i.asks;
        sent = sent_more k r.local.count.sent_units r.local.count.given r.local.count.line_given
            (units_of part) i.sent (omega arith);
        wakes = i.wakes;
        near = i.near;
        unmarked = λ j u n g. absurd (n working);
      })
      refl (λ z. absurd (cc)) (let o =
      S.counted in record { asks = o.asks; lines = o.lines; line_asks = o.line_asks })

  -- an in-edge is looked at
  pub sound_seen_in : (t : ℕ) (k : Kind) (x : Edge) → p ≢ t
      → Sound awake (known_row (name_of k t p) x r)
  sound_seen_in t k x other = sound_served t k x other r.local i refl (λ z. z) S.counted

  working_is : (f : Phase) → is_working f ≡ true → f ≡ phase.Working
  working_is phase.Working e = refl
  working_is phase.Idle e = cc
  working_is (phase.Waiting v k) e = cc
  working_is phase.Asleep e = cc
  working_is phase.Gone e = cc

  pub sound_marked : (t : ℕ) (k : Kind) (x : Edge) → p ≢ t → r.local.phase ≡ phase.Working
      → Sound awake (mark_row t k x r)
  sound_marked t k x other working = sound_served t k x other _
      (record {
        fits = i.fits;
        tries = i.tries;
        items = i.items;
        naps = i.naps;
        asks = i.asks;
        sent = i.sent;
        wakes = i.wakes;
        near = i.near;
        unmarked = λ j u n g. absurd (n working);
      })
      refl (λ z. z) (let o = S.counted in record {
        asks = o.asks;
        lines = o.lines;
        line_asks = o.line_asks;
      })

  and_left : (a b : Bool) → (a && b) ≡ true → a ≡ true
  and_left true b e = refl
  and_left false b e = e

  pub sound_looked_in : (t : ℕ) (k : Kind) (x : Edge) → p ≢ t
      → Sound awake (look_row t k side.Inward x r)
  sound_looked_in t k x other =
      go (is_working r.local.phase && is_mark mark.Unseen (mark_at r.local.marks k t)) refl
    where
      go : (b : Bool) → (is_working r.local.phase && is_mark mark.Unseen
          (mark_at r.local.marks k t)) ≡ b
          → Sound awake (cond b (mark_row t k x r) (known_row (name_of k t p) x r))
      go true e = sound_marked t k x other
          (working_is r.local.phase
          (and_left (is_working r.local.phase) (is_mark mark.Unseen (mark_at r.local.marks k t)) e))
      go false e = sound_seen_in t k x other

  -- what a look outward may find: an edge that is Idle stays so, and one that is armed stays so
  found_busy : (k : Kind) (a x : Edge) → CanFind mark.Unseen k side.Outward a x
      → busy_when x ≡ busy_when a
  found_busy k seen.Idle seen.Idle h = refl
  found_busy k seen.Asked seen.Asked h = refl
  found_busy k seen.Asked seen.Refused h = refl
  found_busy k seen.Asked seen.Loot h = refl
  found_busy k seen.Refused seen.Refused h = refl
  found_busy kind.Line seen.Refused seen.Loot h = refl
  found_busy k seen.Loot seen.Loot h = refl
  found_busy kind.Steal seen.Idle seen.Asked h = absurd h
  found_busy kind.Line seen.Idle seen.Asked h = absurd h
  found_busy kind.Steal seen.Idle seen.Refused h = absurd h
  found_busy kind.Line seen.Idle seen.Refused h = absurd h
  found_busy kind.Steal seen.Idle seen.Loot h = absurd h
  found_busy kind.Line seen.Idle seen.Loot h = absurd h
  found_busy kind.Steal seen.Asked seen.Idle h = absurd h
  found_busy kind.Line seen.Asked seen.Idle h = absurd h
  found_busy kind.Steal seen.Refused seen.Idle h = absurd h
  found_busy kind.Line seen.Refused seen.Idle h = absurd h
  found_busy k seen.Refused seen.Asked h = refl
  found_busy kind.Steal seen.Refused seen.Loot h = absurd h
  found_busy kind.Steal seen.Loot seen.Idle h = absurd h
  found_busy kind.Line seen.Loot seen.Idle h = absurd h
  found_busy k seen.Loot seen.Asked h = refl
  found_busy k seen.Loot seen.Refused h = refl

  busy_idle : (a x : Edge) → busy_when x ≡ busy_when a → idle_when x ≡ idle_when a
  busy_idle seen.Idle seen.Idle e = refl
  busy_idle seen.Idle seen.Asked e = absurd (cc)
  busy_idle seen.Idle seen.Refused e = absurd (cc)
  busy_idle seen.Idle seen.Loot e = absurd (cc)
  busy_idle seen.Asked seen.Idle e = absurd (cc)
  busy_idle seen.Asked seen.Asked e = refl
  busy_idle seen.Asked seen.Refused e = refl
  busy_idle seen.Asked seen.Loot e = refl
  busy_idle seen.Refused seen.Idle e = absurd (cc)
  busy_idle seen.Refused seen.Asked e = refl
  busy_idle seen.Refused seen.Refused e = refl
  busy_idle seen.Refused seen.Loot e = refl
  busy_idle seen.Loot seen.Idle e = absurd (cc)
  busy_idle seen.Loot seen.Asked e = refl
  busy_idle seen.Loot seen.Refused e = refl
  busy_idle seen.Loot seen.Loot e = refl

  busy_none : (a x : Edge) → busy_when x ≡ busy_when a → a ≡ seen.Idle → x ≡ seen.Idle
  busy_none a seen.Idle e h = refl
  busy_none a seen.Asked e h = absurd (let z : 1 ≡ busy_when seen.Idle = rw h at e in omega arith)
  busy_none a seen.Refused e h = absurd (let z : 1 ≡ busy_when seen.Idle = rw h at e in omega arith)
  busy_none a seen.Loot e h = absurd (let z : 1 ≡ busy_when seen.Idle = rw h at e in omega arith)

  found_armed : (k : Kind) (a x : Edge) → CanFind mark.Unseen k side.Outward a x → IsArmedWhen a
      → IsArmedWhen x
  found_armed k seen.Idle x h z = absurd z
  found_armed k seen.Asked x h z = absurd z
  found_armed k seen.Refused seen.Refused h z = tt
  found_armed k seen.Refused seen.Loot h z = tt
  found_armed kind.Steal seen.Refused seen.Idle h z = absurd h
  found_armed kind.Line seen.Refused seen.Idle h z = absurd h
  found_armed kind.Steal seen.Refused seen.Asked h z = absurd h
  found_armed kind.Line seen.Refused seen.Asked h z = absurd h
  found_armed k seen.Loot seen.Loot h z = tt
  found_armed k seen.Loot seen.Refused h z = tt
  found_armed kind.Steal seen.Loot seen.Idle h z = absurd h
  found_armed kind.Line seen.Loot seen.Idle h z = absurd h
  found_armed kind.Steal seen.Loot seen.Asked h z = absurd h
  found_armed kind.Line seen.Loot seen.Asked h z = absurd h

  pub sound_looked_out : (v : ℕ) (k : Kind) (x : Edge) → v < r.lines.places
      → CanFind mark.Unseen k side.Outward (known_at r.known k p v) x
      → Sound awake (look_row v k side.Outward x r)
  sound_looked_out v k x vl found =
      let same : busy_when x ≡ busy_when (known_at r.known k p v) =
      found_busy k (known_at r.known k p v) x found in
      record {
        near = S.near;
        inner = i;
        counted = rw (busy kind.Steal same, busy kind.Line same, free same) S.counted;
        lone = rw (busy kind.Steal same) S.lone;
        there = λ j w l e. else_or j w (λ y. y ≡ seen.Idle) (λ a b.
            busy_none _ x same (rw (a, b) at (S.there j w l e))) (S.there j w l e);
        steal = λ w l n d. else_or kind.Steal w (λ y. y ≡ seen.Idle)
            (λ a b. busy_none _ x same (rw (a, b) at (S.steal w l n d))) (S.steal w l n d);
        armed = λ w l z h. else_or kind.Line w IsArmedWhen (λ a b.
            found_armed k _ x found (rw (a, b) at (S.armed w l z h))) (S.armed w l z h);
        quiet = λ w l z. else_or kind.Steal w (λ y. y ≡ seen.Idle)
            (λ a b. busy_none _ x same (rw (a, b) at (S.quiet w l z))) (S.quiet w l z);
        gone = S.gone;
      }
    where
      busy : (j : Kind) → busy_when x ≡ busy_when (known_at r.known k p v)
          → own_busy j (look_row v k side.Outward x r) ≡ own_busy j r
      busy j same = ⊎_elim
          (λ (a : j ≡ k). rw a (let e = own_here r.known k p v x r.lines.places (λ w. busy_when)
          vl in omega arith))
          (λ (a : j ≢ k). own_away r.known k p v x r.lines.places (λ w. busy_when) j p (inl a))
          (kind_cases j k)

      free : busy_when x ≡ busy_when (known_at r.known k p v)
          → own_free awake (look_row v k side.Outward x r) ≡ own_free awake r
      free same = ⊎_elim
          (λ (a : kind.Line ≡ k). rw a
          (let e = own_here r.known k p v x r.lines.places free_of vl in
          let q : free_of v x ≡ free_of v (known_at r.known k p v) =
          ap (λ y. cond (has_line (own_setup awake r) p v) y 0) (busy_idle _ x same) in
          omega arith))
          (λ (a : kind.Line ≢ k). own_away r.known k p v x r.lines.places free_of kind.Line p
          (inl a))
          (kind_cases kind.Line k)

      else_or : (j : Kind) (w : ℕ) (F : Edge → Type 0) → (j ≡ k → w ≡ v → F x)
          → F (known_at r.known j p w) → F (known_at (more r.known k p v x) j p w)
      else_or j w F here away = ⊎_elim
          (λ (a : j ≡ k). ⊎_elim
          (λ (b : w ≡ v). subst F (sym (rw (a, b) (hit r.known k p v x))) (here a b))
          (λ (b : w ≢ v). subst F (sym (miss r.known k p v x j p w (inr (inr b)))) away)
          (cases_eq w v))
          (λ (a : j ≢ k). subst F (sym (miss r.known k p v x j p w (inl a))) away)
          (kind_cases j k)
