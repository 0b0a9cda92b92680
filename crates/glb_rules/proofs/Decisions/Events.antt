-- Each decision is enabled.
use Rattle.std.proofs.Common.{◌≡◌, ◌≢◌, ℕ, ◌<◌, ◌≤◌, ◌⊎◌, Bool, true, false, cond, not, ◌&&◌, ◌||◌}
use Rattle.std.proofs.Common.{◌==◌, nat_lt, List, [], ◌∷◌, length, Option, Some, None, refl, sym}
use Rattle.std.proofs.Common.{◌∙◌, subst, inl, inr, ⊎_elim, arith}
use Rattle.std.proofs.lemmas.Bool.Decides.{nat_tests}
use Rattle.glb_rules.specs.World.{Asked, Idle, IsArmed, Loot, Refused, Setup, World, WorldEdge}
use Rattle.glb_rules.specs.World.{has_edge, has_line, mark_at, state_of, waits_on}
use Rattle.glb_rules.specs.Events.{IsInRange, IsThere}
use Rattle.glb_rules.specs.Steps.{AllClear, IsEnabled}
use Rattle.glb_rules.specs.Lawful.{IsLawful, PhaseFits}
use Rattle.glb_rules.specs.Sight.{IsIn, Sight}
use Rattle.glb_rules.specs.inner.OwnSide.{OwnSide}
use Rattle.glb_rules.proofs.Decisions.Sees.{Sees}
use Rattle.glb_rules.specs.Decision.{by_credit, by_phase, decide, deny_or, first, is_remembered}
use Rattle.glb_rules.specs.Decision.{is_line, is_mark, is_pending, is_state, is_unseen}
use Rattle.glb_rules.specs.Decision.{resting_action, or_else, take_or, waiting_action, is_wanted}
use Rattle.glb_rules.specs.Decision.{working_action}
use Rattle.glb_rules.proofs.EdgeLemmas.Marks.{eq_other, is_there}
use Rattle.glb_rules.proofs.Invariant.ThiefEvents.{waits_self}
use Rattle.glb_rules.specs.declared.kinds.Kind.{Kind}
use Rattle.glb_rules.specs.declared.kinds.Kind.TheVariants as kind
use Rattle.glb_rules.specs.declared.kinds.Phase.{Phase}
use Rattle.glb_rules.specs.declared.kinds.Phase.TheVariants as phase
use Rattle.glb_rules.specs.declared.kinds.Credit.{Credit}
use Rattle.glb_rules.specs.declared.kinds.Credit.TheVariants as credit
use Rattle.glb_rules.specs.declared.kinds.Mark.{Mark}
use Rattle.glb_rules.specs.declared.kinds.Mark.TheVariants as mark
use Rattle.glb_rules.specs.declared.kinds.Edge.{Edge}
use Rattle.glb_rules.specs.declared.kinds.Edge.TheVariants as edge_state
use Rattle.glb_rules.specs.declared.place_state.PlaceState.{PlaceState}
use Rattle.glb_rules.specs.declared.edges.InEdge.{InEdge}
use Rattle.glb_rules.specs.declared.edges.OutEdge.{OutEdge}
use Rattle.glb_rules.specs.declared.event.Event.{Event}
use Rattle.glb_rules.specs.declared.event.Event.TheVariants as event
use Rattle.glb_rules.specs.declared.event.Action.{Action}
use Rattle.glb_rules.specs.declared.event.Action.TheVariants.{Do, Poll}

pub first_some : {A : Type 0} (f : A → Bool) (xs : List A) (x : A) → first f xs ≡ Some x → IsIn x xs
    × (f x ≡ true)
first_some f [] x e = absurd (cc)
first_some f (y ∷ ys) x e = go (f y) refl (first_some f ys x)
  where
    go : (b : Bool) → f y ≡ b → (first f ys ≡ Some x → IsIn x ys × (f x ≡ true)) → IsIn x (y ∷ ys)
        × (f x ≡ true)
    go true q h = let d : Some y ≡ Some x = rw q at e in let c : y ≡ x = cc
        in (inl (sym c), subst (λ z. f z ≡ true) c q)
    go false q h = let d : first f ys ≡ Some x = rw q at e in let r = h d in (inr r.0, r.1)

pub first_none : {A : Type 0} (f : A → Bool) (xs : List A) → first f xs ≡ None → (x : A) → IsIn x xs
    → f x ≡ false
first_none f [] e x i = absurd i
first_none f (y ∷ ys) e x i = go (f y) refl (λ d j. first_none f ys d x j)
  where
    go : (b : Bool) → f y ≡ b → (first f ys ≡ None → IsIn x ys → f x ≡ false) → f x ≡ false
    go true q h = absurd (let d : Some y ≡ None = rw q at e in cc)
    go false q h = let d : first f ys ≡ None = rw q at e in ⊎_elim (λ c. rw c q) (λ j. h d j) i

unseen_is : (m : Mark) → is_mark mark.Unseen m ≡ true → m ≡ mark.Unseen
unseen_is mark.Unseen e = refl
unseen_is mark.Clear e = absurd (cc)
unseen_is mark.Pending e = absurd (cc)

pending_is : (m : Mark) → is_mark mark.Pending m ≡ true → m ≡ mark.Pending
pending_is mark.Unseen e = absurd (cc)
pending_is mark.Clear e = absurd (cc)
pending_is mark.Pending e = refl

clear_is : (m : Mark) → is_mark mark.Unseen m ≡ false → is_mark mark.Pending m ≡ false → m
    ≡ mark.Clear
clear_is mark.Unseen e f = absurd (cc)
clear_is mark.Clear e f = refl
clear_is mark.Pending e f = absurd (cc)

pub wants_is : (m : Mark) (k : Kind) (u : Edge)
    → (is_mark mark.Pending m || (is_line k && is_state edge_state.Refused u)) ≡ true
    → (m ≡ mark.Pending)
    ⊎ ((k ≡ kind.Line) × (is_state edge_state.Refused u ≡ true))
wants_is mark.Pending k u e = inl refl
wants_is mark.Clear kind.Line u e = inr (refl, e)
wants_is mark.Unseen kind.Line u e = inr (refl, e)
wants_is mark.Clear kind.Steal u e = absurd (cc)
wants_is mark.Unseen kind.Steal u e = absurd (cc)

wants_not : (m : Mark) (u : Edge)
    → (is_mark mark.Pending m || (true && is_state edge_state.Refused u)) ≡ false
    → is_state edge_state.Refused u ≡ false
wants_not mark.Pending u e = absurd (cc)
wants_not mark.Clear u e = e
wants_not mark.Unseen u e = e

module _ {I : Type 0} where
  asked_is : (e : WorldEdge I) → is_state edge_state.Asked (state_of e) ≡ true → e ≡ Asked
  asked_is Idle q = absurd (cc)
  asked_is Asked q = refl
  asked_is Refused q = absurd (cc)
  asked_is (Loot xs) q = absurd (cc)

  pub refused_is : (e : WorldEdge I) → is_state edge_state.Refused (state_of e) ≡ true → e ≡ Refused
  refused_is Idle q = absurd (cc)
  refused_is Asked q = absurd (cc)
  refused_is Refused q = refl
  refused_is (Loot xs) q = absurd (cc)

  idle_is : (e : WorldEdge I) → is_state edge_state.Idle (state_of e) ≡ true → e ≡ Idle
  idle_is Idle q = refl
  idle_is Asked q = absurd (cc)
  idle_is Refused q = absurd (cc)
  idle_is (Loot xs) q = absurd (cc)

  loot_is : (e : WorldEdge I) → is_state edge_state.Loot (state_of e) ≡ true → (xs : List I)
      × (e ≡ Loot xs)
  loot_is Idle q = absurd (cc)
  loot_is Asked q = absurd (cc)
  loot_is Refused q = absurd (cc)
  loot_is (Loot xs) q = (xs, refl)

  -- neither Idle nor Asked
  armed_is : (e : WorldEdge I) → is_state edge_state.Idle (state_of e) ≡ false → e ≢ Asked
      → IsArmed e
  armed_is Idle q n = absurd (cc)
  armed_is Asked q n = absurd (n refl)
  armed_is Refused q n = tt
  armed_is (Loot xs) q n = tt

module _ {I : Type 0} (s : Setup) (w : World I) (p : ℕ) (a : PlaceState) (z : Sight) (L : OwnSide s w p)
    (l : p < s.places)
    (here : (w.place p).phase ≢ phase.Gone) (V : Sees s w p a z) where
  abbrev Good : Event → Type 0
  Good e = IsInRange s e × IsEnabled s w e × IsThere s e

  hit : (f e : Event) → Good f → Do f ≡ Do e → Good e
  hit f e g q = let d : f ≡ e = cc in subst Good d g

  -- the same of an action
  abbrev Fine : Action → Type 0
  Fine act = (e : Event) → act ≡ Do e → Good e

  fine : (f : Event) → Good f → Fine (Do f)
  fine f g e q = hit f e g q

  poll : Fine Poll
  poll e q = absurd (cc)

  either : {A : Type 0} (o : Option A) (f : A → Action) (b : Action)
      → ((x : A) → o ≡ Some x → Fine (f x))
      → (o ≡ None → Fine b) → Fine (or_else o f b)
  either None f b h n = n refl
  either (Some x) f b h n = h x refl

  choose : (b : Bool) (x y : Action) → (b ≡ true → Fine x) → (b ≡ false → Fine y)
      → Fine (cond b x y)
  choose true x y f g = f refl
  choose false x y f g = g refl

  -- what an in-edge in the list says
  seen_in : (f : InEdge → Bool) (x : InEdge) → first f z.ins ≡ Some x → (x.thief < s.places)
      × (has_edge s x.kind x.thief p ≡ true) × (mark_at (w.place p).marks x.kind x.thief ≡ x.mark)
      × (state_of (w.edge x.kind x.thief p) ≡ x.edge) × (f x ≡ true)
  seen_in f x e = let i = first_some f z.ins x e in let v = V.ins x i.0 in (v.0, v.1, v.2, v.3, i.1)

  asked_in : (x : InEdge) → x.thief < s.places → mark_at (w.place p).marks x.kind x.thief ≡ x.mark
      → x.mark ≡ mark.Pending → w.edge x.kind x.thief p ≡ Asked
  asked_in x t m q = L.pending x.kind x.thief t (m ∙ q)

  -- an in-edge that wants work is Asked, or a line that is Refused
  wanted_in : (x : InEdge) → first is_wanted z.ins ≡ Some x → (x.thief < s.places)
      × (has_edge s x.kind x.thief p ≡ true)
      × ((w.edge x.kind x.thief p ≡ Asked)
      ⊎ ((x.kind ≡ kind.Line) × (w.edge x.kind x.thief p ≡ Refused)))
  wanted_in x e =
      let i = seen_in is_wanted x e in (
        i.0,
        i.1,
        ⊎_elim
            (λ m. inl (asked_in x i.0 i.2 m))
            (λ r. inr (r.0, refused_is (w.edge x.kind x.thief p) (rw i.3 r.1)))
            (wants_is x.mark x.kind x.edge i.4),
      )

  fits : PhaseFits (w.place p).phase (w.place p).credit (length (w.place p).bag)
  fits = L.fits

  -- Working, credit One, no edge Unseen
  working_fine : (w.place p).phase ≡ phase.Working → (w.place p).credit ≡ credit.One
      → first is_unseen z.ins ≡ None → Fine (working_action a z)
  working_fine f c n =
      let big = V.size in
      either (cond (nat_lt 1 a.size) (first is_wanted z.ins) None) _ _
      (λ x e. go x (nat_lt 1 a.size) refl e)
      (λ e. either (first is_pending z.ins) _ _
      (λ x d. let i = seen_in is_pending x d in let m = pending_is x.mark i.4 in
      let q = asked_in x i.0 i.2 m in
      rw V.place (fine (event.Deny p x.thief x.kind)
      ((l, i.0, l), (q, here, inr (short (nat_lt 1 a.size) refl e x d)), i.1)))
      (λ d. rw V.place (fine (event.Batch p)
      ((l, l, l), (f, c, clear d, held (nat_lt 1 a.size) refl e), tt))))
    where
      go : (x : InEdge) (b : Bool) → nat_lt 1 a.size ≡ b → cond b (first is_wanted z.ins) None
          ≡ Some x
          → Fine (Do (event.Mint a.place))
      go x true q e = let i = wanted_in x e in
          rw V.place (fine (event.Mint p) (
            (l, l, l),
            (
              f,
              c,
              (let y = V.size in let t : 1 < a.size = grind (arith, nat_tests)
                  in omega arith),
              (x.kind, x.thief, i.0, i.1, i.2),
            ),
            tt,
          ))
      go x false q e = absurd (cc)

      clear : first is_pending z.ins ≡ None → AllClear s p (w.place p)
      clear d k t m h =
          let x = V.all_ins k t m h in
          let v = V.ins x.0 x.1 in
          let u = clear_is x.0.mark (first_none is_unseen z.ins n x.0 x.1)
          (first_none is_pending z.ins d x.0 x.1) in
          subst (λ j. mark_at (w.place p).marks j t ≡ mark.Clear) x.2
          (subst (λ j. mark_at (w.place p).marks x.0.kind j ≡ mark.Clear) x.3 (v.2 ∙ u))

      short : (b : Bool) → nat_lt 1 a.size ≡ b → cond b (first is_wanted z.ins) None ≡ None
          → (x : InEdge)
          → first is_pending z.ins ≡ Some x → length (w.place p).bag < 2
      short true q e x d = absurd (
          let i = first_some is_pending z.ins x d in
          let u = first_none is_wanted z.ins e x i.0 in
          let m : is_mark mark.Pending x.mark ≡ true = i.1 in
          let u2 : (true || is_remembered x) ≡ false = rw m at u in cc)
      short false q e x d = let y = V.size in let t : a.size ≤ 1 = grind (arith, nat_tests) in omega arith

      held : (b : Bool) → nat_lt 1 a.size ≡ b → cond b (first is_wanted z.ins) None ≡ None
          → 1 < length (w.place p).bag → (t : ℕ) → t < s.places → has_line s t p ≡ true
          → w.edge kind.Line t p ≢ Refused
      held true q e big t m h r =
          let x = V.all_ins kind.Line t m h in
          let v = V.ins x.0 x.1 in
          let st : state_of (w.edge kind.Line t p) ≡ x.0.edge =
          subst (λ j. state_of (w.edge j t p) ≡ x.0.edge) x.2
          (subst (λ j. state_of (w.edge x.0.kind j p) ≡ x.0.edge) x.3 v.3) in
          let u : (is_mark mark.Pending x.0.mark || (is_line x.0.kind && is_state edge_state.Refused x.0.edge))
          ≡ false = first_none is_wanted z.ins e x.0 x.1 in
          let u2 : (is_mark mark.Pending x.0.mark || (true && is_state edge_state.Refused x.0.edge)) ≡ false =
          rw x.2 at u in
          let u3 = wants_not x.0.mark x.0.edge u2 in
          let st2 : edge_state.Refused ≡ x.0.edge = rw r at st in
          let u4 : is_state edge_state.Refused edge_state.Refused ≡ false = rw (← st2) at u3 in
          cc
      held false q e big t m h r =
          absurd (let y = V.size in let t : a.size ≤ 1 = grind (arith, nat_tests) in omega arith)

  -- who is not Working denies what is Asked
  denying_fine : (w.place p).phase ≢ phase.Working → (rest : Action) → Fine rest
      → Fine (deny_or a z rest)
  denying_fine n rest r = either (first (λ x. is_state edge_state.Asked x.edge) z.ins) _ _
      (λ x e. let i = seen_in (λ x. is_state edge_state.Asked x.edge) x e in
      rw V.place (fine (event.Deny p x.thief x.kind)
      ((l, i.0, l), (asked_is (w.edge x.kind x.thief p) (rw i.3 i.4), here, inl n), i.1)))
      (λ e. r)

  taking_fine : ((w.place p).phase ≡ phase.Asleep) ⊎ ((w.place p).phase ≡ phase.Idle)
      → (rest : Action)
      → (first (λ (y : OutEdge). is_state edge_state.Loot y.edge) z.outs ≡ None → Fine rest)
      → Fine (take_or a z rest)
  taking_fine q rest r = either (first (λ y. is_state edge_state.Loot y.edge) z.outs) _ _
      (λ y e. let i = first_some (λ (y : OutEdge). is_state edge_state.Loot y.edge) z.outs y e in
      let o = V.outs y i.0 in
      rw V.place (fine (event.Take p y.victim kind.Line) (
        (l, l, o.0),
        (
          loot_is (w.edge kind.Line p y.victim) (rw o.2 i.1),
          inr (refl, ⊎_elim (λ x. inl x) (λ x. inr (inl x)) q),
        ),
        o.1,
      )))
      r

  idle_fine : (w.place p).phase ≡ phase.Idle → Fine (resting_action phase.Idle a z)
  idle_fine f = taking_fine (inr f) _ (λ none.
      choose (nat_lt 0 a.tries) _ _
      (λ q.
      let t : 0 < a.tries = grind (arith, nat_tests) in
      let v = V.victim t in
      let tr = V.tries in
      rw V.place (fine (event.Ask p a.victim kind.Steal) (
        (l, l, v.0),
        (
          f,
          (omega arith),
          rw (eq_other p a.victim v.1) refl,
          L.steal a.victim v.0 (rw f refl),
        ),
        rw (eq_other p a.victim v.1) refl,
      )))
      (λ q.
      let t : a.tries ≤ 0 = grind (arith, nat_tests) in
      let tr = V.tries in
      let zero_tries : (w.place p).tries ≡ 0 = omega arith in
      either (first (λ y. is_state edge_state.Idle y.edge) z.outs) _ _
      (λ y e. let i = first_some (λ (y : OutEdge). is_state edge_state.Idle y.edge) z.outs y e in
      let o = V.outs y i.0 in
      rw V.place (fine (event.Ask p y.victim kind.Line)
      ((l, l, o.0), (f, zero_tries, o.1, idle_is (w.edge kind.Line p y.victim) (rw o.2 i.1)), o.1)))
      (λ e. rw V.place (fine (event.Sleep p) (
        (l, l, l),
        (
          f,
          zero_tries,
          λ v m h.
              let y = V.all_outs v m h in
              let o = V.outs y.0 y.1 in
              let st : state_of (w.edge kind.Line p v) ≡ y.0.edge =
              subst (λ j. state_of (w.edge kind.Line p j) ≡ y.0.edge) y.2 o.2 in
              armed_is (w.edge kind.Line p v)
              (rw st (first_none (λ (y : OutEdge). is_state edge_state.Idle y.edge) z.outs e y.0 y.1))
              (λ r. let g : waits_on kind.Line v phase.Idle ≡ true = rw f at (L.line v m r) in cc),
        ),
        tt,
      )))))

  waiting_fine : (v : ℕ) (k : Kind) → (w.place p).phase ≡ phase.Waiting v k
      → Fine (waiting_action a v k z.waited)
  waiting_fine v k f = rw (V.waited v k (V.same_phase ∙ f)) (go (w.edge k p v) refl)
    where
      go : (e : WorldEdge I) → w.edge k p v ≡ e → Fine (waiting_action a v k (state_of e))
      go Idle e = poll
      go Asked e = poll
      go Refused e = rw V.place
          (fine (event.Shrug p v k) ((l, l, (L.near v k f).0), (f, e), (L.near v k f).1))
      go (Loot xs) e = rw V.place
          (fine (event.Take p v k) (
            (l, l, (L.near v k f).0),
            (
              (xs, e),
              inl (
                f,
                (let i : PhaseFits (phase.Waiting v k) (w.place p).credit
                    (length (w.place p).bag) = rw f at fits in i.1),
              ),
            ),
            (L.near v k f).1,
          ))

  phase_fine : (f : Phase) → (w.place p).phase ≡ f → ((w.place p).credit ≡ credit.Zero)
      ⊎ ((w.place p).credit ≡ credit.One) → Fine (by_phase f a z)
  phase_fine phase.Working f c = either (first is_unseen z.ins) _ _
      (λ x e. let i = seen_in is_unseen x e
      in rw V.place (fine (event.Look p x.thief x.kind)
      ((l, i.0, l), (f, i.1, i.2 ∙ unseen_is x.mark i.4), i.1)))
      (λ e. working_fine f
      (⊎_elim (λ d. absurd
      (let i : PhaseFits phase.Working (w.place p).credit (length (w.place p).bag) = rw f at fits
      in i.1 d)) (λ d. d) c) e)
  phase_fine phase.Idle f c = denying_fine (rw f (λ x. cc)) _ (idle_fine f)
  phase_fine (phase.Waiting v k) f c = denying_fine (rw f (λ x. cc)) _ (waiting_fine v k f)
  phase_fine phase.Asleep f c = denying_fine (rw f (λ x. cc)) _ (taking_fine (inl f) _ (λ e. poll))
  phase_fine phase.Gone f c = absurd (here f)

  credit_fine : (c : Credit) → (w.place p).credit ≡ c → Fine (by_credit c a z)
  credit_fine credit.Zero c = phase_fine a.phase (sym V.same_phase) (inl c)
  credit_fine credit.One c = phase_fine a.phase (sym V.same_phase) (inr c)
  credit_fine credit.Minted c = either (first is_wanted z.ins) _ _
      (λ x e. let i = wanted_in x e
      in rw V.place (fine (event.Give p x.thief x.kind)
      ((l, i.0, l), (minted (w.place p).phase refl, c, i.2), i.1)))
      (λ e. poll)
    where
      minted : (f : Phase) → (w.place p).phase ≡ f → (w.place p).phase ≡ phase.Working
      minted phase.Working f = f
      minted phase.Idle f =
          absurd (let i : PhaseFits phase.Idle credit.Minted (length (w.place p).bag) = rw (f, c) at fits
          in let q = i.1 in cc)
      minted (phase.Waiting v k) f =
          absurd (let i : PhaseFits (phase.Waiting v k) credit.Minted (length (w.place p).bag) =
          rw (f, c) at fits in let q = i.1 in cc)
      minted phase.Asleep f =
          absurd (let i : PhaseFits phase.Asleep credit.Minted (length (w.place p).bag) =
          rw (f, c) at fits in let q = i.1 in cc)
      minted phase.Gone f = absurd (here f)
  credit_fine credit.Taken c = rw V.place (fine (event.Burn p) ((l, l, l), c, tt))

  -- each decision is enabled, and the edge that it names is there
  pub own_decided : (e : Event) → decide a z ≡ Do e → IsInRange s e × IsEnabled s w e × IsThere s e
  own_decided = choose (not (z.stop == 0) || z.ended) _ _
      (λ q. rw V.place (fine (event.Leave p)
      ((l, l, l), (here, over (z.stop == 0) refl z.ended refl q), tt)))
      (λ q. credit_fine a.credit (sym V.same_credit))
    where
      over : (b : Bool) → (z.stop == 0) ≡ b → (d : Bool) → z.ended ≡ d → (not b || d) ≡ true
          → (w.live ≡ 0) ⊎ (w.stop ≢ 0)
      over true q true r h = inl (V.ended.0 r)
      over true q false r h = absurd (cc)
      over false q d r h =
          inr (λ x. let y : z.stop ≡ 0 = V.stop ∙ x in let n : (z.stop == 0) ≡ true = rw y refl in cc)

module _ {I : Type 0} (s : Setup) (w : World I) (p : ℕ) (L : IsLawful s w) (l : p < s.places)
    (here : (w.place p).phase ≢ phase.Gone) where
  -- a lawful world has all that a decision rests on
  pub own_of : OwnSide s w p
  own_of = record {
    fits = (L.inner p l).fits;
    near = λ v k f. let m = (L.inner p l).near v k f
        in (m, is_there (L.thief k p v l m) ((L.thief k p v l m).waited (rw f (waits_self k v))));
    pending = λ k t m. (L.victim k t p m l).pending;
    steal = λ v m. (L.thief kind.Steal p v l m).steal refl here;
    line = λ v m r. ⊎_elim (λ x. x) (λ x. absurd (here x)) ((L.thief kind.Line p v l m).line refl r);
  }

  pub decided : (a : PlaceState) (z : Sight) → Sees s w p a z → (e : Event) → decide a z ≡ Do e
      → IsInRange s e × IsEnabled s w e × IsThere s e
  decided a z V = own_decided s w p a z own_of l here V
