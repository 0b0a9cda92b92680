-- Where decisions alone have led, and what a schedule finds there.
use Rattle.std.proofs.Common.{◌≡◌, ◌≢◌, ℕ, zero, suc, ◌+◌, ◌%◌, ◌<◌, ◌⊎◌, Bool, true, false, not}
use Rattle.std.proofs.Common.{◌||◌, ◌==◌, List, [], ◌∷◌, refl, inl, inr, ⊎_elim, arith, length}
use Rattle.std.proofs.lemmas.Nat.{mod_below}
use Rattle.std.proofs.lemmas.Bool.{cases_eq}
use Rattle.std.proofs.lemmas.Bool.Decides.{nat_tests}
use Rattle.glb_rules.specs.World.{Setup, World}
use Rattle.glb_rules.specs.Steps.{Step}
use Rattle.glb_rules.specs.Setups.{IsProper}
use Rattle.glb_rules.specs.Lawful.{IsLawful, PhaseFits}
use Rattle.glb_rules.specs.History.{start, Run, NoHalt, first_credit}
use Rattle.glb_rules.specs.Finish.{AllGone}
use Rattle.glb_rules.specs.Sight.{sight_at, state_at}
use Rattle.glb_rules.specs.Decision.{MintedSeesWant}
use Rattle.glb_rules.specs.Schedules.{decision, ScheduledTurn, ScheduledRun, IsDecided, DecidedRun}
use Rattle.glb_rules.proofs.Finish.NoneStuck.{gone_cases}
use Rattle.glb_rules.proofs.Invariant.Steps.{step_keeps}
use Rattle.glb_rules.proofs.Decisions.Led.{lead_seen, led_step, meant}
use Rattle.glb_rules.specs.Schedules.{MintersKnowWhoAsks}
use Rattle.glb_rules.proofs.Decisions.Actors.{decided_no_halt}
use Rattle.glb_rules.proofs.Decisions.Polling.{somebody_acts}
use Rattle.glb_rules.proofs.Decisions.Sights.{sees}
use Rattle.glb_rules.specs.declared.kinds.Phase.{Phase}
use Rattle.glb_rules.specs.declared.kinds.Phase.TheVariants as phase
use Rattle.glb_rules.specs.declared.kinds.Credit.TheVariants as credit
use Rattle.glb_rules.specs.declared.event.Event.{Event}
use Rattle.glb_rules.specs.declared.event.Event.TheVariants as event
use Rattle.glb_rules.specs.declared.event.Action.{Action}
use Rattle.glb_rules.specs.declared.event.Action.TheVariants.{Do, Poll}

-- all of the first places pass, or one has something to do
some_or_none : (n : ℕ) (act : ℕ → Action) → ((p : ℕ) → p < n → act p ≡ Poll)
    ⊎ ((p : ℕ) × (p < n) × ((e : Event) × (act p ≡ Do e)))
some_or_none zero act = inl (λ p l. absurd (omega arith))
some_or_none (suc n) act = ⊎_elim
    (λ polls. go (act n) refl polls)
    (λ some. let l = some.1 in inr (some.0, omega arith, some.2))
    (some_or_none n act)
  where
    go : (x : Action) → act n ≡ x → ((p : ℕ) → p < n → act p ≡ Poll)
        → ((p : ℕ) → p < suc n → act p ≡ Poll)
        ⊎ ((p : ℕ) × (p < suc n) × ((e : Event) × (act p ≡ Do e)))
    go (Do e) q polls = inr (n, omega arith, (e, q))
    go Poll q polls = inl
        (λ p l. ⊎_elim (λ (same : p ≡ n). rw same q) (λ (other : p ≢ n). polls p (omega arith))
        (cases_eq p n))

-- all of the first places are Gone, or one is not
some_here : {I : Type 0} (w : World I) (n : ℕ) → ((p : ℕ) → p < n → (w.place p).phase ≡ phase.Gone)
    ⊎ ((p : ℕ) × (p < n) × ((w.place p).phase ≢ phase.Gone))
some_here w zero = inl (λ p l. absurd (omega arith))
some_here w (suc n) = ⊎_elim
    (λ gone. ⊎_elim
    (λ here. inl (λ p l.
    ⊎_elim (λ (same : p ≡ n). rw same here) (λ (other : p ≢ n). gone p (omega arith)) (cases_eq p n)))
    (λ here. inr (n, omega arith, here))
    (gone_cases (w.place n).phase))
    (λ some. let l = some.1 in inr (some.0, omega arith, some.2))
    (some_here w n)

module _ {I : Type 0} (children : I → List I) (s : Setup) (seed : ℕ) where
  pub decided_run : (old : World I) (es : List Event) (new : World I)
      → DecidedRun children s seed old es new → Run children s old es new
  decided_run old [] new r = r
  decided_run old (e ∷ es) new r = (r.0, r.2, decided_run r.0 es new r.3)

  pub decided_run_halts_not : (old : World I) (es : List Event) (new : World I)
      → DecidedRun children s seed old es new → NoHalt es
  decided_run_halts_not old [] new r = tt
  decided_run_halts_not old (e ∷ es) new r =
      let d = r.1 in (
        decided_no_halt (state_at seed s old d.0) (sight_at s old d.0) e d.3,
        decided_run_halts_not r.0 es new r.3,
      )

module _ {I : Type 0} (children : I → List I) (s : Setup) (seed : ℕ) (P : IsProper s) where
  -- a turn of a schedule is the decision of a place
  pub turn_decided : (old new : World I) (n : ℕ) (e : Event)
      → ScheduledTurn children s seed old n e new
      → IsDecided seed s old e
  turn_decided old new n e t =
      ((n + t.ahead) % s.places, mod_below (n + t.ahead) s.places P.some, t.here, t.decides)

  pub schedule_decides : (old : World I) (ns : List ℕ) (es : List Event) (new : World I)
      → ScheduledRun children s seed old ns es new → DecidedRun children s seed old es new
  schedule_decides old [] [] new r = r
  schedule_decides old (n ∷ ns) (e ∷ es) new r =
      (r.0, turn_decided old r.0 n e r.1, r.1.step, schedule_decides r.0 ns es new r.2)
  schedule_decides old [] (e ∷ es) new r = absurd r
  schedule_decides old (n ∷ ns) [] new r = absurd r

  -- who mints by decision knows somebody who wants work
  pub decided_step_led : (old new : World I) (e : Event) → IsLawful s old → MintersKnowWhoAsks s old
      → IsDecided seed s old e → Step children s old e new → MintersKnowWhoAsks s new
  decided_step_led old new e L D d st =
      let V = sees seed s old d.0 P L d.1 in
      led_step children s old new e L
      (meant s old d.0 (state_at seed s old d.0) (sight_at s old d.0) V e d.3) D st

  pub decided_run_led : (old : World I) (es : List Event) (new : World I) → IsLawful s old
      → MintersKnowWhoAsks s old
      → DecidedRun children s seed old es new → IsLawful s new × MintersKnowWhoAsks s new
  decided_run_led old [] new L D r = rw r (L, D)
  decided_run_led old (e ∷ es) new L D r =
      decided_run_led r.0 es new (step_keeps children s old r.0 e P L r.2)
      (decided_step_led old r.0 e L D r.1 r.2) r.3

-- at the start nobody has minted
pub start_led : {I : Type 0} (s : Setup) (bags : ℕ → List I) → MintersKnowWhoAsks s (start s bags)
start_led s bags q l f c = absurd (minted (s.awake q) c)
  where
    minted : (b : Bool) → first_credit b ≡ credit.Minted → ⊥
    minted true e = cc
    minted false e = cc

module _ {I : Type 0} (seed : ℕ) (s : Setup) (w : World I) (P : IsProper s) (L : IsLawful s w)
    (D : MintersKnowWhoAsks s w) where
  -- while live is above 0 and nobody has halted, some place has something to do
  pub some_decision : w.stop ≡ 0 → 0 < w.live →
      (p : ℕ) × (p < s.places) × ((w.place p).phase ≢ phase.Gone)
      × ((e : Event) × (decision seed s w p ≡ Do e))
  some_decision z alive = ⊎_elim
      (λ polls. absurd (somebody_acts s w L D z alive (state_at seed s w) (sight_at s w)
      (λ p l. sees seed s w p P L l) polls))
      (λ some. (some.0, some.1, (λ g. let e = L.gone some.0 some.1 g z in omega arith), some.2))
      (some_or_none s.places (decision seed s w))

  over : (n : ℕ) (d : Bool) → (n ≢ 0) ⊎ (d ≡ true) → (not (n == 0) || d) ≡ true
  over n d h = ⊎_elim (λ (x : n ≢ 0). let e : (n == 0) ≡ false = grind (arith, nat_tests, x) in rw e refl)
      (λ (x : d ≡ true). rw x (last (not (n == 0)))) h
    where
      last : (b : Bool) → (b || true) ≡ true
      last true = refl
      last false = refl

  leaves : (p : ℕ) → (w.stop ≢ 0) ⊎ (w.live ≡ 0) → decision seed s w p ≡ Do (event.Leave p)
  leaves p h =
      let e : (not (w.stop == 0) || (w.live == 0)) ≡ true =
      over w.stop (w.live == 0) (⊎_elim (λ x. inl x) (λ x. inr (grind (arith, nat_tests, x))) h) in
      rw e refl

  -- every place is Gone, or some place has something to do
  pub some_turn : AllGone s w
      ⊎ ((p : ℕ) × (p < s.places) × ((w.place p).phase ≢ phase.Gone)
      × ((e : Event) × (decision seed s w p ≡ Do e)))
  some_turn = ⊎_elim
      (λ gone. inl gone)
      (λ here. ⊎_elim
      (λ (z : w.stop ≡ 0). ⊎_elim
      (λ (over : w.live ≡ 0). inr (here.0, here.1, here.2, (event.Leave here.0, leaves here.0 (inr over))))
      (λ (on : w.live ≢ 0). inr (some_decision z (omega arith)))
      (cases_eq w.live 0))
      (λ (n : w.stop ≢ 0). inr (here.0, here.1, here.2, (event.Leave here.0, leaves here.0 (inl n))))
      (cases_eq w.stop 0))
      (some_here w s.places)

  -- a place that has minted is Working
  minted_works : (p : ℕ) → p < s.places → (w.place p).phase ≢ phase.Gone
      → (w.place p).credit ≡ credit.Minted → (w.place p).phase ≡ phase.Working
  minted_works p l here c = go (w.place p).phase refl
    where
      fits : (f : Phase) → (w.place p).phase ≡ f
          → PhaseFits f credit.Minted (length (w.place p).bag)
      fits f e = rw (e, c) at (L.inner p l).fits

      go : (f : Phase) → (w.place p).phase ≡ f → (w.place p).phase ≡ phase.Working
      go phase.Working e = e
      go phase.Idle e = absurd (let i = (fits phase.Idle e).1 in cc)
      go (phase.Waiting v k) e = absurd (let i = (fits (phase.Waiting v k) e).1 in cc)
      go phase.Asleep e = absurd (let i = (fits phase.Asleep e).1 in cc)
      go phase.Gone e = absurd (here e)

  -- and sees who wants work
  pub minted_sees : (p : ℕ) → p < s.places → (w.place p).phase ≢ phase.Gone
      → MintedSeesWant (state_at seed s w p) (sight_at s w p)
  minted_sees p l here c =
      lead_seen s w p (state_at seed s w p) (sight_at s w p) (sees seed s w p P L l)
      (D p l (minted_works p l here c) c)
