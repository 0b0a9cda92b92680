-- While live is above 0, some place that decisions alone have led to does not poll.
use Rattle.std.proofs.Common.{◌≡◌, ◌≢◌, ℕ, ◌<◌, ◌⊎◌, Bool, true, false, cond, not, ◌&&◌, ◌||◌, ◌==◌}
use Rattle.std.proofs.Common.{nat_lt, length, Option, Some, None, refl, sym, ap, ◌∙◌, subst, inl}
use Rattle.std.proofs.Common.{inr, ⊎_elim, arith}
use Rattle.glb_rules.specs.World.{Asked, Idle, Loot, Refused, Setup, World, WorldEdge, has_edge}
use Rattle.glb_rules.specs.World.{loot_count, mark_at, state_of, credit_count}
use Rattle.glb_rules.specs.Lawful.{IsLawful, PhaseFits, sum_of_own_edges}
use Rattle.glb_rules.proofs.Decisions.Sees.{Sees}
use Rattle.glb_rules.specs.Sight.{Sight}
use Rattle.glb_rules.specs.Decision.{by_credit, by_phase, decide, first, is_line, is_mark}
use Rattle.glb_rules.specs.Decision.{is_pending, is_state, resting_action, or_else, waiting_action}
use Rattle.glb_rules.specs.Decision.{is_wanted, working_action}
use Rattle.glb_rules.proofs.Decisions.Events.{first_none}
use Rattle.glb_rules.specs.Schedules.{MintersKnowWhoAsks}
use Rattle.glb_rules.proofs.Sums.Totals.{sum_zero}
use Rattle.glb_rules.proofs.Invariant.ThiefEvents.{waits_self}
use Rattle.glb_rules.specs.declared.kinds.Kind.{Kind}
use Rattle.glb_rules.specs.declared.kinds.Kind.TheVariants as kind
use Rattle.glb_rules.specs.declared.kinds.Phase.{Phase}
use Rattle.glb_rules.specs.declared.kinds.Phase.TheVariants as phase
use Rattle.glb_rules.specs.declared.kinds.Credit.{Credit}
use Rattle.glb_rules.specs.declared.kinds.Credit.TheVariants as credit
use Rattle.glb_rules.specs.declared.kinds.Mark.{Mark}
use Rattle.glb_rules.specs.declared.kinds.Mark.TheVariants as mark
use Rattle.glb_rules.specs.declared.kinds.Edge.{Edge}
use Rattle.glb_rules.specs.declared.kinds.Edge.TheVariants as edge_state
use Rattle.glb_rules.specs.declared.place_state.PlaceState.{PlaceState}
use Rattle.glb_rules.specs.declared.edges.InEdge.{InEdge}
use Rattle.glb_rules.specs.declared.edges.OutEdge.{OutEdge}
use Rattle.glb_rules.specs.declared.event.Event.{Event}
use Rattle.glb_rules.specs.declared.event.Event.TheVariants as event
use Rattle.glb_rules.specs.declared.event.Action.{Action}
use Rattle.glb_rules.specs.declared.event.Action.TheVariants.{Do, Poll}

-- who has nothing to do: it waits for an answer, or sleeps, and is asked for nothing
abbrev Idles : {I : Type 0} → World I → ℕ → Sight → Type 0
Idles w p z =
    (((v : ℕ) × ((k : Kind)
    × (((w.place p).phase ≡ phase.Waiting v k)
    × ((z.waited ≡ edge_state.Idle) ⊎ (z.waited ≡ edge_state.Asked)))))
    ⊎ (((w.place p).phase ≡ phase.Asleep)
    × (first (λ (y : OutEdge). is_state edge_state.Loot y.edge) z.outs ≡ None)))
    × (first (λ (x : InEdge). is_state edge_state.Asked x.edge) z.ins ≡ None)

none_else : {A : Type 0} (o : Option A) (f : A → Event) (b : Action) → or_else o (λ x. Do (f x)) b ≡ Poll
    → (o ≡ None) × (b ≡ Poll)
none_else None f b e = (refl, e)
none_else (Some x) f b e = absurd (cc)

module _ {I : Type 0} (s : Setup) (w : World I) (L : IsLawful s w) (D : MintersKnowWhoAsks s w) (stop : w.stop ≡ 0)
    (alive : 0 < w.live) where
  not_gone : (p : ℕ) → p < s.places → (w.place p).phase ≢ phase.Gone
  not_gone p l g = let e = L.gone p l g stop in omega arith

  module _ (p : ℕ) (l : p < s.places) (a : PlaceState) (z : Sight) (V : Sees s w p a z) where
    not_over : (not (z.stop == 0) || z.ended) ≡ false
    not_over = go (z.stop == 0) refl z.ended refl
      where
        go : (b : Bool) → (z.stop == 0) ≡ b → (d : Bool) → z.ended ≡ d → (not b || d) ≡ false
        go true q true r = absurd (let e = V.ended.0 r in omega arith)
        go true q false r = refl
        go false q d r = absurd
            (let e : z.stop ≡ 0 = V.stop ∙ stop in let n : (z.stop == 0) ≡ true = rw e refl in cc)

    waits : (v : ℕ) (k : Kind) (u : Edge) → waiting_action a v k u ≡ Poll → (u ≡ edge_state.Idle)
        ⊎ (u ≡ edge_state.Asked)
    waits v k edge_state.Idle e = inl refl
    waits v k edge_state.Asked e = inr refl
    waits v k edge_state.Refused e = absurd (cc)
    waits v k edge_state.Loot e = absurd (cc)

    by_phase_idles : (f : Phase) → (w.place p).phase ≡ f → by_phase f a z ≡ Poll → Idles w p z
    by_phase_idles phase.Working f e =
        let x = none_else (first _ z.ins) (λ (x : InEdge). event.Look a.place x.thief x.kind)
        (working_action a z) e in
        let y = none_else (cond (nat_lt 1 a.size) (first is_wanted z.ins) None)
        (λ (x : InEdge). event.Mint a.place) _ x.1 in
        let t = none_else (first is_pending z.ins) (λ (x : InEdge). event.Deny a.place x.thief x.kind)
        (Do (event.Batch a.place)) y.1 in
        let r = t.1 in absurd (cc)
    by_phase_idles phase.Idle f e =
        let x = none_else (first _ z.ins) (λ (x : InEdge). event.Deny a.place x.thief x.kind)
        (resting_action phase.Idle a z) e in
        let y = none_else (first _ z.outs) (λ (y : OutEdge). event.Take a.place y.victim kind.Line) _ x.1 in
        absurd (last (nat_lt 0 a.tries) y.1)
      where
        last : (b : Bool) → cond b (Do (event.Ask a.place a.victim kind.Steal))
            (or_else (first (λ (y : OutEdge). is_state edge_state.Idle y.edge) z.outs)
            (λ y. Do (event.Ask a.place y.victim kind.Line)) (Do (event.Sleep a.place))) ≡ Poll → ⊥
        last true e = cc
        last false e = let r =
            (none_else (first (λ (y : OutEdge). is_state edge_state.Idle y.edge) z.outs)
            (λ (y : OutEdge). event.Ask a.place y.victim kind.Line) (Do (event.Sleep a.place)) e).1 in cc
    by_phase_idles (phase.Waiting v k) f e =
        let x = none_else (first _ z.ins) (λ (x : InEdge). event.Deny a.place x.thief x.kind)
        (waiting_action a v k z.waited) e in
        (inl (v, (k, (f, waits v k z.waited x.1))), x.0)
    by_phase_idles phase.Asleep f e =
        let x = none_else (first _ z.ins) (λ (x : InEdge). event.Deny a.place x.thief x.kind)
        (resting_action phase.Asleep a z) e in
        let y = none_else (first _ z.outs) (λ (y : OutEdge). event.Take a.place y.victim kind.Line) Poll
        x.1 in
        (inr (f, y.0), x.0)
    by_phase_idles phase.Gone f e = absurd (not_gone p l f)

    minted_acts : (w.place p).credit ≡ credit.Minted → by_credit credit.Minted a z ≢ Poll
    minted_acts c e =
        let none = (none_else (first is_wanted z.ins) (λ (x : InEdge). event.Give a.place x.thief x.kind) Poll
        e).0 in
        let d = D p l (minted (w.place p).phase refl) c in
        let x = V.all_ins d.0 d.1 d.2 d.3 in
        let v = V.ins x.0 x.1 in
        let u : (is_mark mark.Pending x.0.mark || (is_line x.0.kind && is_state edge_state.Refused x.0.edge)) ≡
        false = first_none is_wanted z.ins none x.0 x.1 in
        ⊎_elim
        (λ m. let q : x.0.mark ≡ mark.Pending = sym v.2
        ∙ subst (λ k. mark_at (w.place p).marks k x.0.thief ≡ mark.Pending) (sym x.2)
        (subst (λ t. mark_at (w.place p).marks d.0 t ≡ mark.Pending) (sym x.3) m) in
        let y : (true || (is_line x.0.kind && is_state edge_state.Refused x.0.edge)) ≡ false = rw q at u in cc)
        (λ r. let q : edge_state.Refused ≡ x.0.edge =
        subst (λ k. edge_state.Refused ≡ x.0.edge) x.2
        (ap state_of (sym (subst (λ k. w.edge k x.0.thief p ≡ Refused) (sym x.2)
        (subst (λ t. w.edge d.0 t p ≡ Refused) (sym x.3) r.1))) ∙ v.3) in
        let k : x.0.kind ≡ kind.Line = x.2 ∙ r.0 in
        held x.0.mark (rw (← q) at (rw k at u)))
        d.4
      where
        held : (m : Mark) → (is_mark mark.Pending m || true) ≡ false → ⊥
        held mark.Unseen e = cc
        held mark.Clear e = cc
        held mark.Pending e = cc

        minted : (f : Phase) → (w.place p).phase ≡ f → (w.place p).phase ≡ phase.Working
        minted phase.Working f = f
        minted phase.Idle f =
            absurd (let i : PhaseFits phase.Idle credit.Minted (length (w.place p).bag) =
            rw (f, c) at (L.inner p l).fits in let q = i.1 in cc)
        minted (phase.Waiting v k) f =
            absurd (let i : PhaseFits (phase.Waiting v k) credit.Minted (length (w.place p).bag) =
            rw (f, c) at (L.inner p l).fits in let q = i.1 in cc)
        minted phase.Asleep f =
            absurd (let i : PhaseFits phase.Asleep credit.Minted (length (w.place p).bag) =
            rw (f, c) at (L.inner p l).fits in let q = i.1 in cc)
        minted phase.Gone f = absurd (not_gone p l f)

    pub idles : decide a z ≡ Poll → Idles w p z
    idles e = go a.credit (sym V.same_credit)
        (subst (λ b. cond b (Do (event.Leave a.place)) (by_credit a.credit a z) ≡ Poll) not_over e)
      where
        go : (c : Credit) → (w.place p).credit ≡ c → by_credit c a z ≡ Poll → Idles w p z
        go credit.Zero c e = by_phase_idles a.phase (sym V.same_phase) e
        go credit.One c e = by_phase_idles a.phase (sym V.same_phase) e
        go credit.Minted c e = absurd (minted_acts c e)
        go credit.Taken c e = absurd (cc)

  -- not all places poll
  pub somebody_acts : (states : ℕ → PlaceState) (views : ℕ → Sight)
      → ((p : ℕ) → p < s.places → Sees s w p (states p) (views p))
      → ((p : ℕ) → p < s.places → decide (states p) (views p) ≡ Poll) → ⊥
  somebody_acts states views V polls =
      let a = sum_zero s.places (λ p. credit_count (w.place p).credit) (λ p l. rw (zero p l) refl) in
      let b = sum_zero s.places (λ t. sum_of_own_edges s w kind.Steal t loot_count)
      (λ t l. sum_zero s.places (λ v. loot_count (w.edge kind.Steal t v))
      (λ v m. no_loot kind.Steal t v l m)) in
      let c = sum_zero s.places (λ t. sum_of_own_edges s w kind.Line t loot_count)
      (λ t l. sum_zero s.places (λ v. loot_count (w.edge kind.Line t v))
      (λ v m. no_loot kind.Line t v l m)) in
      let e = L.sums.live in
      omega arith
    where
      each : (p : ℕ) → p < s.places → Idles w p (views p)
      each p l = idles p l (states p) (views p) (V p l) (polls p l)

      -- an edge that is there is not Asked at a place that polls
      unasked : (k : Kind) (t q : ℕ) → t < s.places → q < s.places → has_edge s k t q ≡ true
          → w.edge k t q ≢ Asked
      unasked k t q l m h e =
          let x = (V q m).all_ins k t l h in
          let v = (V q m).ins x.0 x.1 in
          let u : is_state edge_state.Asked x.0.edge ≡ false =
          first_none (λ (x : InEdge). is_state edge_state.Asked x.edge) (views q).ins (each q m).1 x.0 x.1 in
          let st : edge_state.Asked ≡ x.0.edge =
          ap state_of (sym (subst (λ k. w.edge k x.0.thief q ≡ Asked) (sym x.2)
          (subst (λ t. w.edge k t q ≡ Asked) (sym x.3) e))) ∙ v.3 in
          let y : is_state edge_state.Asked edge_state.Asked ≡ false = rw (← st) at u in
          cc

      there : (k : Kind) (t v : ℕ) → t < s.places → v < s.places → w.edge k t v ≢ Idle
          → has_edge s k t v ≡ true
      there k t v l m n = go (has_edge s k t v) refl
        where
          go : (b : Bool) → has_edge s k t v ≡ b → has_edge s k t v ≡ true
          go true q = q
          go false q = absurd (n ((L.thief k t v l m).there q))

      asleep : (p : ℕ) → p < s.places → ((w.place p).phase ≡ phase.Asleep)
          × (first (λ (y : OutEdge). is_state edge_state.Loot y.edge) (views p).outs ≡ None)
      asleep p l = ⊎_elim
          (λ x. absurd (
          let f : (w.place p).phase ≡ phase.Waiting x.0 x.1.0 = x.1.1.0 in
          let m = (L.inner p l).near x.0 x.1.0 f in
          let n = (L.thief x.1.0 p x.0 l m).waited (rw f (waits_self x.1.0 x.0)) in
          let st = (V p l).waited x.0 x.1.0 ((V p l).same_phase ∙ f) in
          ⊎_elim (λ y. n (idle_state (w.edge x.1.0 p x.0) (sym st ∙ y)))
          (λ y. unasked x.1.0 p x.0 l m (there x.1.0 p x.0 l m n)
          (asked_state (w.edge x.1.0 p x.0) (sym st ∙ y))) x.1.1.1))
          (λ x. x)
          (each p l).0
        where
          idle_state : (e : WorldEdge I) → state_of e ≡ edge_state.Idle → e ≡ Idle
          idle_state Idle q = refl
          idle_state Asked q = absurd (cc)
          idle_state Refused q = absurd (cc)
          idle_state (Loot xs) q = absurd (cc)

          asked_state : (e : WorldEdge I) → state_of e ≡ edge_state.Asked → e ≡ Asked
          asked_state Idle q = absurd (cc)
          asked_state Asked q = refl
          asked_state Refused q = absurd (cc)
          asked_state (Loot xs) q = absurd (cc)

      zero : (p : ℕ) → p < s.places → (w.place p).credit ≡ credit.Zero
      zero p l = let f : PhaseFits phase.Asleep (w.place p).credit (length (w.place p).bag) =
          rw (asleep p l).0 at (L.inner p l).fits in f.1

      no_loot : (k : Kind) (t v : ℕ) → t < s.places → v < s.places → loot_count (w.edge k t v) ≡ 0
      no_loot kind.Steal t v l m = rw ((L.thief kind.Steal t v l m).quiet (zero t l) refl) refl
      no_loot kind.Line t v l m = go (w.edge kind.Line t v) refl
        where
          go : (e : WorldEdge I) → w.edge kind.Line t v ≡ e → loot_count (w.edge kind.Line t v) ≡ 0
          go Idle e = rw e refl
          go Asked e = rw e refl
          go Refused e = rw e refl
          go (Loot xs) e = absurd (
              let y = (V t l).all_outs v m (there kind.Line t v l m (λ q. cc)) in
              let o = (V t l).outs y.0 y.1 in
              let u : is_state edge_state.Loot y.0.edge ≡ false =
              first_none (λ (y : OutEdge). is_state edge_state.Loot y.edge) (views t).outs (asleep t l).1
              y.0 y.1 in
              let st : edge_state.Loot ≡ y.0.edge =
              ap state_of (sym (subst (λ i. w.edge kind.Line t i ≡ Loot xs) (sym y.2) e)) ∙ o.2 in
              let g : is_state edge_state.Loot edge_state.Loot ≡ false = rw (← st) at u in
              cc)
