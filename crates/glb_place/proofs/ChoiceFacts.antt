-- What a place decides by the in-edges at which it has not looked.
use Rattle.std.specs.Prelude.{Some, None}
use Rattle.std.proofs.Common.{◌≡◌, ◌≢◌, ℕ, zero, suc, ◌<◌, Bool, true, false, not, cond, ◌==◌, ◌||◌, nat_lt, Option, List, [], ◌∷◌, length, get_or, refl, ap, ◌∙◌, arith}
use Rattle.glb_rules.specs.Sight.{Sight}
use Rattle.glb_rules.specs.Decision.{decide, by_credit, by_phase, resting_action, working_action, waiting_action, take_or, idle_action, deny_or, first, is_unseen, is_pending, is_asked, is_idle, has_loot, is_wanted, or_else}
use Rattle.glb_rules.specs.declared.kinds.Kind.{Kind}
use Rattle.glb_rules.specs.declared.kinds.Phase.{Phase}
use Rattle.glb_rules.specs.declared.kinds.Phase.TheVariants as phase
use Rattle.glb_rules.specs.declared.kinds.Credit.{Credit}
use Rattle.glb_rules.specs.declared.kinds.Credit.TheVariants as credit
use Rattle.glb_rules.specs.declared.kinds.Edge.{Edge}
use Rattle.glb_rules.specs.declared.kinds.Edge.TheVariants as seen
use Rattle.glb_rules.specs.declared.place_state.PlaceState.{PlaceState}
use Rattle.glb_rules.specs.declared.edges.InEdge.{InEdge}
use Rattle.glb_rules.specs.declared.event.Event.{Event}
use Rattle.glb_rules.specs.declared.event.Event.TheVariants as event
use Rattle.glb_rules.specs.declared.event.Action.{Action}
use Rattle.glb_rules.specs.declared.event.Action.TheVariants.{Do, Poll}
use Rattle.glb_place.specs.inner.Seeing.{LookedBefore, NoLook}

-- the first member that passes
pub first_is : {A : Type 0} (f : A → Bool) (xs : List A) (at : ℕ) (d : A) → at < length xs
    → ((i : ℕ) (e : A) → i < at → f (get_or xs i e) ≡ false) → f (get_or xs at d) ≡ true
    → first f xs ≡ Some (get_or xs at d)
first_is f [] at d l before here = absurd (omega arith)
first_is f (x ∷ xs) zero d l before here = ap (λ b. cond b (Some x) (first f xs)) here
first_is f (x ∷ xs) (suc at) d l before here =
    ap (λ b. cond b (Some x) (first f xs)) (before 0 d (omega arith))
    ∙ first_is f xs at d (omega arith) (λ i e m. before (suc i) e (omega arith)) here

-- no member passes
pub first_is_none : {A : Type 0} (f : A → Bool) (xs : List A)
    → ((i : ℕ) (e : A) → i < length xs → f (get_or xs i e) ≡ false) → first f xs ≡ None
first_is_none f [] h = refl
first_is_none f (x ∷ xs) h =
    ap (λ b. cond b (Some x) (first f xs)) (h 0 x (omega arith))
    ∙ first_is_none f xs (λ i e m. h (suc i) e (omega arith))

-- a place that has one credit and an in-edge that is Unseen looks at it
pub looks_next : (a : PlaceState) (z : Sight) (at : ℕ) (d : InEdge) → a.phase ≡ phase.Working
    → a.credit ≡ credit.One → z.stop ≡ 0 → z.ended ≡ false → LookedBefore z.ins at → at
    < length z.ins
    → is_unseen (get_or z.ins at d) ≡ true
    → decide a z ≡ Do (event.Look a.place (get_or z.ins at d).thief (get_or z.ins at d).kind)
looks_next a z at d works one go on before within here =
    let leave = Do (event.Leave a.place) in
    let found : first is_unseen z.ins ≡ Some (get_or z.ins at d) =
    first_is is_unseen z.ins at d within before here
    in
    (λ i. cond (not (go i == 0) || on i) leave (by_credit (one i) a z))
    ∙ (λ i. by_phase (works i) a z)
    ∙ ap (λ o. or_else o (λ (x : InEdge). Do (event.Look a.place x.thief x.kind)) (working_action a z))
    found

-- the action is no look
abbrev Other : Action → Type 0
Other (Do e) = NoLook e
Other Poll = Unit {0}

-- a choice of two actions that are no looks is none
either : {A : Type 0} (o : Option A) (f : A → Action) (b : Action) → ((x : A) → Other (f x))
    → Other b
    → Other (or_else o f b)
either None f b h n = n
either (Some x) f b h n = h x

-- nor is one by a test
choose : (b : Bool) (x y : Action) → Other x → Other y → Other (cond b x y)
choose true x y h n = h
choose false x y h n = n

module _ (a : PlaceState) (z : Sight)
    (works : a.phase ≡ phase.Working → a.credit ≢ credit.Zero)
    (none : a.phase ≡ phase.Working → a.credit ≡ credit.One → first is_unseen z.ins ≡ None) where
  -- a place that has looked at all in-edges decides on no look while it works
  working_other : Other (working_action a z)
  working_other =
      either (cond (nat_lt 1 a.size) (first is_wanted z.ins) None) (λ x. Do (event.Mint a.place)) _
      (λ x. tt)
      (either (first is_pending z.ins) (λ (x : InEdge). Do (event.Deny a.place x.thief x.kind)) _
      (λ x. tt) tt)

  -- nor does one that may take
  taking_other : (rest : Action) → Other rest → Other (take_or a z rest)
  taking_other rest h = either (first has_loot z.outs) _ rest (λ x. tt) h

  -- nor one that may ask
  asking_other : Other (idle_action a z)
  asking_other = choose (nat_lt 0 a.tries) _ _ tt (either (first is_idle z.outs) _ _ (λ x. tt) tt)

  -- nor one that waits
  waiting_other : (v : ℕ) (k : Kind) (e : Edge) → Other (waiting_action a v k e)
  waiting_other v k seen.Idle = tt
  waiting_other v k seen.Asked = tt
  waiting_other v k seen.Refused = tt
  waiting_other v k seen.Loot = tt

  -- nor one in any phase but Working
  not_working_other : (f : Phase) → Other (resting_action f a z)
  not_working_other phase.Working = tt
  not_working_other phase.Idle = taking_other (idle_action a z) asking_other
  not_working_other (phase.Waiting v k) = waiting_other v k z.waited
  not_working_other phase.Asleep = taking_other Poll tt
  not_working_other phase.Gone = tt

  -- nor one that may refuse
  denying_other : (rest : Action) → Other rest → Other (deny_or a z rest)
  denying_other rest h = either (first is_asked z.ins) _ rest (λ x. tt) h

  -- in each phase
  phase_other : (f : Phase) → (f ≡ phase.Working → first is_unseen z.ins ≡ None)
      → Other (by_phase f a z)
  phase_other phase.Working h = rw (h refl) working_other
  phase_other phase.Idle h = denying_other (resting_action phase.Idle a z)
      (not_working_other phase.Idle)
  phase_other (phase.Waiting v k) h =
      denying_other (resting_action (phase.Waiting v k) a z) (not_working_other (phase.Waiting v k))
  phase_other phase.Asleep h = denying_other (resting_action phase.Asleep a z)
      (not_working_other phase.Asleep)
  phase_other phase.Gone h = denying_other (resting_action phase.Gone a z)
      (not_working_other phase.Gone)

  -- with each credit
  credit_other : (c : Credit) → a.credit ≡ c → Other (by_credit c a z)
  credit_other credit.Zero e = phase_other a.phase (λ w. absurd (works w e))
  credit_other credit.One e = phase_other a.phase (λ w. none w e)
  credit_other credit.Minted e = either (first is_wanted z.ins) _ Poll (λ x. tt) tt
  credit_other credit.Taken e = tt

  -- a place that has looked at all its in-edges, or cannot look, decides on another event
  pub no_look : (e : Event) → decide a z ≡ Do e → NoLook e
  no_look e d =
      let o : Other (decide a z) = choose (not (z.stop == 0) || z.ended) _ _ tt
      (credit_other a.credit refl) in
      let n : Other (Do e) = rw d at o in n
