-- Where decisions alone have led, a place that has minted knows somebody who wants work.
use Rattle.std.proofs.Common.{◌≡◌, ◌≢◌, ℕ, ◌<◌, ◌⊎◌, true, List, length, refl, sym, ap, ◌∙◌, subst}
use Rattle.std.proofs.Common.{inl, inr, ⊎_elim, arith, Bool, false, ◌&&◌, ◌||◌}
use Rattle.std.proofs.lemmas.Bool.{cases_eq}
use Rattle.glb_rules.specs.World.{state_of, Idle, Loot, Refused, Setup, World, WorldEdge, mark_at}
use Rattle.glb_rules.specs.Effects.{Change, after_shrug, credit_after_take}
use Rattle.glb_rules.specs.Steps.{Becomes, Step}
use Rattle.glb_rules.specs.Lawful.{IsLawful, PhaseFits}
use Rattle.glb_rules.specs.Sight.{IsIn, Sight}
use Rattle.glb_rules.proofs.Decisions.Sees.{Sees}
use Rattle.glb_rules.specs.Decision.{is_mark, is_line, is_state, decide, is_wanted}
use Rattle.glb_rules.proofs.Decisions.Actors.{every_decision}
use Rattle.glb_rules.proofs.Decisions.Events.{refused_is, wants_is}
use Rattle.glb_rules.proofs.EdgeLemmas.Marks.{set_mark_else}
use Rattle.glb_rules.proofs.Invariant.Frames.{name_cases}
use Rattle.glb_rules.specs.declared.kinds.Kind.{Kind}
use Rattle.glb_rules.specs.declared.kinds.Kind.TheVariants as kind
use Rattle.glb_rules.specs.declared.kinds.Phase.TheVariants as phase
use Rattle.glb_rules.specs.declared.kinds.Credit.{Credit}
use Rattle.glb_rules.specs.declared.kinds.Credit.TheVariants as credit
use Rattle.glb_rules.specs.declared.kinds.Mark.{Mark}
use Rattle.glb_rules.specs.declared.kinds.Mark.TheVariants as mark
use Rattle.glb_rules.specs.declared.kinds.Edge.{Edge}
use Rattle.glb_rules.specs.declared.kinds.Edge.TheVariants as edge_state
use Rattle.glb_rules.specs.declared.local.EdgeName.{EdgeName}
use Rattle.glb_rules.specs.declared.local.Local.{Local}
use Rattle.glb_rules.specs.declared.place_state.PlaceState.{PlaceState}
use Rattle.glb_rules.specs.declared.edges.InEdge.{InEdge}
use Rattle.glb_rules.specs.declared.event.Event.{Event}
use Rattle.glb_rules.specs.declared.event.Event.TheVariants as event
use Rattle.glb_rules.specs.declared.event.Action.TheVariants.{Do}
use Rattle.glb_rules.specs.Schedules.{KnowsWhoAsks, MintersKnowWhoAsks}

-- a decision to mint is made where the place knows who wants work
abbrev pub IsMeant : {I : Type 0} → Setup → World I → Event → Type 0
IsMeant s w (event.Mint q) = KnowsWhoAsks s w q
IsMeant s w _ = Unit {0}

module _ {I : Type 0} (s : Setup) (old new : World I) (p : ℕ) (c : EdgeName) (b : Change I)
    (h : Becomes old new p c b) where
  -- a lead of q stays if q's Pending marks stay and a held line of the cell stays held
  lead_kept : (q : ℕ)
      → ((k : Kind) (t : ℕ) → mark_at (old.place q).marks k t ≡ mark.Pending
      → mark_at (new.place q).marks k t ≡ mark.Pending) →
      (c.victim ≡ q → c.kind ≡ kind.Line → old.edge c.kind c.thief c.victim ≡ Refused → b.edge
      ≡ Refused)
      → KnowsWhoAsks s old q → KnowsWhoAsks s new q
  lead_kept q m d w = (
    w.0,
    w.1,
    w.2,
    w.3,
    ⊎_elim (λ x. inl (m w.0 w.1 x)) (λ x. inr (
      x.0,
      ⊎_elim
          (λ same. rw (same.0, same.1, same.2)
          (h.edge ∙ d (sym same.2) (sym same.0 ∙ x.0)
          (let o : old.edge w.0 w.1 q ≡ Refused = x.1 in rw (same.0, same.1, same.2) at o)))
          (λ other. h.other_edges w.0 w.1 q other ∙ x.1)
          (name_cases c w.0 w.1 q),
    )) w.4,
  )

  -- every place is led, if the others' lines stay held and the actor is led
  led_kept : MintersKnowWhoAsks s old
      → (c.victim ≢ p → c.kind ≡ kind.Line → old.edge c.kind c.thief c.victim ≡ Refused
      → b.edge ≡ Refused) →
      (b.place.phase ≡ phase.Working → b.place.credit ≡ credit.Minted → KnowsWhoAsks s new p)
      → p < s.places
      → MintersKnowWhoAsks s new
  led_kept L d a l q m f g = ⊎_elim
      (λ (e : q ≡ p). rw e
      (a (ap (λ (x : Local I). x.phase) (sym h.place)
      ∙ subst (λ z. (new.place z).phase ≡ phase.Working) e f)
      (ap (λ (x : Local I). x.credit) (sym h.place)
      ∙ subst (λ z. (new.place z).credit ≡ credit.Minted) e g)))
      (λ (n : q ≢ p).
      let e = h.other_places q n in
      lead_kept q (λ k t x. rw e x) (λ z. d (λ y. n (sym z ∙ y)))
      (L q m (sym (ap (λ (x : Local I). x.phase) e) ∙ f) (sym (ap (λ (x : Local I). x.credit) e) ∙ g)))
      (cases_eq q p)

refused_still : {I : Type 0} (k : Kind) (e : WorldEdge I) → k ≡ kind.Line → after_shrug k e ≡ e
refused_still kind.Steal e q = absurd (cc)
refused_still kind.Line e q = refl

took_minted : (c : Credit) → credit_after_take c ≡ credit.Minted → c ≡ credit.Minted
took_minted credit.Zero e = absurd (cc)
took_minted credit.One e = absurd (cc)
took_minted credit.Minted e = refl
took_minted credit.Taken e = absurd (cc)

-- a step keeps the leads, if who mints has one
pub led_step : {I : Type 0} (children : I → List I) (s : Setup) (old new : World I) (e : Event)
    → IsLawful s old → IsMeant s old e → MintersKnowWhoAsks s old → Step children s old e new
    → MintersKnowWhoAsks s new
led_step children s old new (event.Look p t k) L m d st =
    led_kept s old new p _ _ st.becomes d (λ n. absurd (n refl))
    (λ f g. lead_kept s old new p _ _ st.becomes p
    (λ j u x. rw st.becomes.place (⊎_elim
    (λ (y : (j ≡ k) × (u ≡ t)).
    absurd (let z : mark_at (old.place p).marks k t ≡ mark.Pending =
    subst (λ i. mark_at (old.place p).marks i t ≡ mark.Pending) y.0
    (subst (λ i. mark_at (old.place p).marks j i ≡ mark.Pending) y.1 x) in let w = st.enabled.2 in cc))
    (λ n. set_mark_else (mark_at (old.place p).marks) k t _ j u n ∙ x)
    (split k t j u)))
    (λ e l r. r) (d p st.in_range.0 f g)) st.in_range.0
  where
    split : (i : Kind) (w : ℕ) (k : Kind) (t : ℕ) → ((k ≡ i) × (t ≡ w)) ⊎ ((k ≢ i) ⊎ (t ≢ w))
    split i w k t = grind (arith, Rattle.glb_rules.proofs.Invariant.Frames.kind_cases k i, cases_eq t w)
led_step children s old new (event.Batch p) L m d st =
    led_kept s old new p _ _ st.becomes d (λ n. absurd (n refl))
    (λ f g. absurd (let c = st.enabled.1 in cc)) st.in_range.0
led_step children s old new (event.Ask p v kind.Steal) L m d st =
    led_kept s old new p _ _ st.becomes d (λ n k r. absurd (cc)) (λ f. absurd (cc)) st.in_range.0
led_step children s old new (event.Ask p v kind.Line) L m d st =
    led_kept s old new p _ _ st.becomes d
    (λ n k r. absurd (let i : old.edge kind.Line p v ≡ Idle = st.enabled.3 in cc)) (λ f. absurd (cc))
    st.in_range.0
led_step children s old new (event.Deny p t k) L m d st =
    led_kept s old new p _ _ st.becomes d (λ n. absurd (n refl))
    (λ f g. absurd (let x = (L.can_give p st.in_range.0 f g).0
    in ⊎_elim (λ (y : (old.place p).phase ≢ phase.Working). y f)
    (λ (y : length (old.place p).bag < 2). omega arith) st.enabled.2)) st.in_range.0
led_step children s old new (event.Mint p) L m d st =
    led_kept s old new p _ _ st.becomes d (λ n. absurd (n refl))
    (λ f g. lead_kept s old new p _ _ st.becomes p (λ j u x. rw st.becomes.place x) (λ e l r. r) m)
    st.in_range.0
led_step children s old new (event.Give p t k) L m d st =
    led_kept s old new p _ _ st.becomes d (λ n. absurd (n refl)) (λ f g. absurd (cc)) st.in_range.0
led_step children s old new (event.Take p v k) L m d st =
    led_kept s old new p _ _ st.becomes d
    (λ n q r. absurd (let i : old.edge k p v ≡ Loot st.taken = st.choice.0 in cc))
    (λ f g. absurd (let c = took_minted (old.place p).credit g in ⊎_elim
    (λ x. let y : (old.place p).credit ≡ credit.One = x.1 in cc)
    (λ x. ⊎_elim
    (λ (y : (old.place p).phase ≡ phase.Asleep).
    let i : PhaseFits phase.Asleep credit.Minted (length (old.place p).bag) =
    rw (y, c) at (L.inner p st.in_range.0).fits in let j = i.1 in cc)
    (λ y. ⊎_elim
    (λ (z : (old.place p).phase ≡ phase.Idle).
    let i : PhaseFits phase.Idle credit.Minted (length (old.place p).bag) =
    rw (z, c) at (L.inner p st.in_range.0).fits in let j = i.1 in cc)
    (λ z. let j : (old.place p).credit ≡ credit.One = z.1 in cc) y) x.1)
    st.enabled.1)) st.in_range.0
led_step children s old new (event.Burn p) L m d st =
    led_kept s old new p _ _ st.becomes d (λ n. absurd (n refl)) (λ f g. absurd (cc)) st.in_range.0
led_step children s old new (event.Shrug p v k) L m d st =
    led_kept s old new p _ _ st.becomes d (λ n q r. refused_still k (old.edge k p v) q ∙ r)
    (λ f. absurd (cc)) st.in_range.0
led_step children s old new (event.Sleep p) L m d st =
    led_kept s old new p _ _ st.becomes d (λ n. absurd (n refl)) (λ f. absurd (cc)) st.in_range.0
led_step children s old new (event.Leave p) L m d st =
    led_kept s old new p _ _ st.becomes d (λ n. absurd (n refl)) (λ f. absurd (cc)) st.in_range.0
led_step children s old new (event.Halt p n) L m d st =
    led_kept s old new p _ _ st.becomes d (λ n. absurd (n refl))
    (λ f g. lead_kept s old new p _ _ st.becomes p (λ j u x. rw st.becomes.place x) (λ e l r. r)
    (d p st.in_range.0 f g)) st.in_range.0

pending_wants : (m : Mark) (k : Kind) (u : Edge) → m ≡ mark.Pending
    → (is_mark mark.Pending m || (is_line k && is_state edge_state.Refused u)) ≡ true
pending_wants m k u e = rw e refl

held_wants : (m : Mark) (k : Kind) (u : Edge) → k ≡ kind.Line → u ≡ edge_state.Refused
    → (is_mark mark.Pending m || (is_line k && is_state edge_state.Refused u)) ≡ true
held_wants m k u e f = rw (e, f) (last (is_mark mark.Pending m))
  where
    last : (b : Bool) → (b || true) ≡ true
    last true = refl
    last false = refl

module _ {I : Type 0} (s : Setup) (w : World I) (p : ℕ) (a : PlaceState) (z : Sight) (V : Sees s w p a z)
  where
    -- what a place sees of somebody who wants work is a lead
    pub lead_of : (x : InEdge) → IsIn x z.ins → is_wanted x ≡ true → KnowsWhoAsks s w p
    lead_of x i e =
        let v = V.ins x i in (
          x.kind,
          x.thief,
          v.0,
          v.1,
          ⊎_elim (λ m. inl (v.2 ∙ m)) (λ r. inr (r.0, refused_is (w.edge x.kind x.thief p) (rw v.3 r.1)))
              (wants_is x.mark x.kind x.edge e),
        )

    -- a decision to mint has a lead
    pub meant : (e : Event) → decide a z ≡ Do e → IsMeant s w e
    meant = every_decision a z (IsMeant s w)
        (record {
          look = λ t k. tt;
          batch = tt;
          ask = λ v k. tt;
          deny = λ t k. tt;
          give = λ t k. tt;
          take =
              λ v k. tt;
          burn = tt;
          shrug = λ v k. tt;
          sleep = tt;
        })
        (λ x i e. subst (λ q. KnowsWhoAsks s w q) (sym V.place) (lead_of x i e)) tt

    -- and a lead is seen
    pub lead_seen : KnowsWhoAsks s w p → (x : InEdge) × IsIn x z.ins × (is_wanted x ≡ true)
    lead_seen d =
        let x = V.all_ins d.0 d.1 d.2 d.3 in
        let v = V.ins x.0 x.1 in (
          x.0,
          x.1,
          ⊎_elim
              (λ m. pending_wants x.0.mark x.0.kind x.0.edge
              (sym v.2 ∙ subst (λ k. mark_at (w.place p).marks k x.0.thief ≡ mark.Pending) (sym x.2)
              (subst (λ t. mark_at (w.place p).marks d.0 t ≡ mark.Pending) (sym x.3) m)))
              (λ r. held_wants x.0.mark x.0.kind x.0.edge (x.2 ∙ r.0)
              (sym v.3 ∙ ap state_of
              (subst (λ k. w.edge k x.0.thief p ≡ Refused) (sym x.2)
              (subst (λ t. w.edge d.0 t p ≡ Refused) (sym x.3) r.1))))
              d.4,
        )
