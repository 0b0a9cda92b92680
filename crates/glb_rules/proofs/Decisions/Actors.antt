-- What holds of every event that a decision can be.
use Rattle.std.proofs.Common.{◌≡◌, ◌≢◌, ℕ, Bool, true, false, cond, not, ◌||◌, ◌==◌, nat_lt, Option}
use Rattle.std.proofs.Common.{Some, None, refl, subst}
use Rattle.glb_rules.specs.Events.{GoesOn, actor}
use Rattle.glb_rules.specs.Sight.{Sight, IsIn}
use Rattle.glb_rules.specs.Decision.{first, or_else, is_unseen, is_pending, is_asked, is_idle}
use Rattle.glb_rules.specs.Decision.{has_loot, is_wanted, working_action, waiting_action, take_or}
use Rattle.glb_rules.specs.Decision.{idle_action, deny_or, by_phase, by_credit, decide}
use Rattle.glb_rules.proofs.Decisions.Events.{first_some}
use Rattle.glb_rules.specs.declared.kinds.Kind.{Kind}
use Rattle.glb_rules.specs.declared.kinds.Kind.TheVariants as kind
use Rattle.glb_rules.specs.declared.kinds.Phase.{Phase}
use Rattle.glb_rules.specs.declared.kinds.Phase.TheVariants as phase
use Rattle.glb_rules.specs.declared.kinds.Credit.{Credit}
use Rattle.glb_rules.specs.declared.kinds.Credit.TheVariants as credit
use Rattle.glb_rules.specs.declared.kinds.Edge.{Edge}
use Rattle.glb_rules.specs.declared.kinds.Edge.TheVariants as edge_state
use Rattle.glb_rules.specs.declared.place_state.PlaceState.{PlaceState}
use Rattle.glb_rules.specs.declared.edges.InEdge.{InEdge}
use Rattle.glb_rules.specs.declared.event.Event.{Event}
use Rattle.glb_rules.specs.declared.event.Event.TheVariants as event
use Rattle.glb_rules.specs.declared.event.Action.{Action}
use Rattle.glb_rules.specs.declared.event.Action.TheVariants.{Do, Poll}

-- a fact holds of each event that a place with this number can decide on, but for Leave
pub record Rows (p : ℕ) (Good : Event → Type 0) : Type 0 where
  pub look : (t : ℕ) (k : Kind) → Good (event.Look p t k)
  pub batch : Good (event.Batch p)
  pub ask : (v : ℕ) (k : Kind) → Good (event.Ask p v k)
  pub deny : (t : ℕ) (k : Kind) → Good (event.Deny p t k)
  pub give : (t : ℕ) (k : Kind) → Good (event.Give p t k)
  pub take : (v : ℕ) (k : Kind) → Good (event.Take p v k)
  pub burn : Good (event.Burn p)
  pub shrug : (v : ℕ) (k : Kind) → Good (event.Shrug p v k)
  pub sleep : Good (event.Sleep p)

module _ (a : PlaceState) (z : Sight) (Good : Event → Type 0) (R : Rows a.place Good)
    (mint : (x : InEdge) → IsIn x z.ins → is_wanted x ≡ true → Good (event.Mint a.place)) where
  abbrev Fine : Action → Type 0
  Fine act = (e : Event) → act ≡ Do e → Good e

  fine : (f : Event) → Good f → Fine (Do f)
  fine f g e q = let d : f ≡ e = cc in subst Good d g

  poll : Fine Poll
  poll e q = absurd (cc)

  either : {A : Type 0} (o : Option A) (f : A → Action) (b : Action)
      → ((x : A) → o ≡ Some x → Fine (f x))
      → Fine b → Fine (or_else o f b)
  either None f b h n = n
  either (Some x) f b h n = h x refl

  choose : (b : Bool) (x y : Action) → Fine x → Fine y → Fine (cond b x y)
  choose true x y f g = f
  choose false x y f g = g

  mints : (b : Bool) (x : InEdge) → cond b (first is_wanted z.ins) None ≡ Some x
      → Good (event.Mint a.place)
  mints true x e = let i = first_some is_wanted z.ins x e in mint x i.0 i.1
  mints false x e = absurd (cc)

  working_fine : Fine (working_action a z)
  working_fine =
      either (cond (nat_lt 1 a.size) (first is_wanted z.ins) None) _ _
      (λ x e. fine _ (mints (nat_lt 1 a.size) x e))
      (either (first is_pending z.ins) _ _ (λ x e. fine _ (R.deny x.thief x.kind)) (fine _ R.batch))

  taking_fine : (rest : Action) → Fine rest → Fine (take_or a z rest)
  taking_fine rest r = either (first has_loot z.outs) _ _ (λ y e. fine _ (R.take y.victim kind.Line)) r

  asking_fine : Fine (idle_action a z)
  asking_fine =
      choose (nat_lt 0 a.tries) _ _ (fine _ (R.ask a.victim kind.Steal))
      (either (first is_idle z.outs) _ _ (λ y e. fine _ (R.ask y.victim kind.Line)) (fine _ R.sleep))

  denying_fine : (rest : Action) → Fine rest → Fine (deny_or a z rest)
  denying_fine rest r = either (first is_asked z.ins) _ _ (λ x e. fine _ (R.deny x.thief x.kind)) r

  waiting_fine : (v : ℕ) (k : Kind) (e : Edge) → Fine (waiting_action a v k e)
  waiting_fine v k edge_state.Idle = poll
  waiting_fine v k edge_state.Asked = poll
  waiting_fine v k edge_state.Refused = fine _ (R.shrug v k)
  waiting_fine v k edge_state.Loot = fine _ (R.take v k)

  phase_fine : (f : Phase) → Fine (by_phase f a z)
  phase_fine phase.Working =
      either (first is_unseen z.ins) _ _ (λ x e. fine _ (R.look x.thief x.kind)) working_fine
  phase_fine phase.Idle = denying_fine _ (taking_fine _ asking_fine)
  phase_fine (phase.Waiting v k) = denying_fine _ (waiting_fine v k z.waited)
  phase_fine phase.Asleep = denying_fine _ (taking_fine _ poll)
  phase_fine phase.Gone = denying_fine _ poll

  pub credit_fine : (c : Credit) → Fine (by_credit c a z)
  credit_fine credit.Zero = phase_fine a.phase
  credit_fine credit.One = phase_fine a.phase
  credit_fine credit.Minted = either (first is_wanted z.ins) _ _ (λ x e. fine _ (R.give x.thief x.kind)) poll
  credit_fine credit.Taken = fine _ R.burn

  -- what holds of each of these and of Leave holds of every decision
  pub every_decision : Good (event.Leave a.place) → (e : Event) → decide a z ≡ Do e → Good e
  every_decision leave = choose (not (z.stop == 0) || z.ended) _ _ (fine _ leave) (credit_fine a.credit)

-- a decided event is the deciding place's own
pub decided_actor : (a : PlaceState) (z : Sight) (e : Event) → decide a z ≡ Do e → actor e ≡ a.place
decided_actor a z = every_decision a z (λ e. actor e ≡ a.place)
    (record {
      look = λ t k. refl;
      batch = refl;
      ask = λ v k. refl;
      deny = λ t k. refl;
      give = λ t k. refl;
      take = λ v k. refl;
      burn = refl;
      shrug = λ v k. refl;
      sleep = refl;
    })
    (λ x i e. refl) refl

-- no place decides to halt the run
pub decided_no_halt : (a : PlaceState) (z : Sight) (e : Event) → decide a z ≡ Do e → (p c : ℕ)
    → e ≢ event.Halt p c
decided_no_halt a z = every_decision a z (λ e. (p c : ℕ) → e ≢ event.Halt p c)
    (record {
      look = λ t k p c x. cc;
      batch = λ p c x. cc;
      ask = λ v k p c x. cc;
      deny = λ t k p c x. cc;
      give = λ t k p c x. cc;
      take = λ v k p c x. cc;
      burn = λ p c x. cc;
      shrug = λ v k p c x. cc;
      sleep = λ p c x. cc;
    })
    (λ x i e p c y. cc) (λ p c x. cc)

-- who mints sees somebody who wants work
abbrev MintSees : Sight → Event → Type 0
MintSees z (event.Mint q) = (x : InEdge) × IsIn x z.ins × (is_wanted x ≡ true)
MintSees z _ = Unit {0}

-- a place that decides to mint sees who wants work
pub decided_mint : (a : PlaceState) (z : Sight) (p : ℕ) → decide a z ≡ Do (event.Mint p)
    → (x : InEdge)
    × IsIn x z.ins × (is_wanted x ≡ true)
decided_mint a z p d = every_decision a z (MintSees z)
    (record {
      look = λ t k. tt;
      batch = tt;
      ask = λ v k. tt;
      deny = λ t k. tt;
      give = λ t k. tt;
      take =
          λ v k. tt;
      burn = tt;
      shrug = λ v k. tt;
      sleep = tt;
    })
    (λ x i e. (x, i, e)) tt (event.Mint p) d

not_over : (n : ℕ) → n ≡ 0 → (d : Bool) → d ≡ false → (not (n == 0) || d) ≡ false
not_over n s d e = rw (s, e) refl

-- before the end a place decides neither to leave nor to halt
pub decided_goes : (a : PlaceState) (z : Sight) → z.stop ≡ 0 → z.ended ≡ false → (e : Event)
    → decide a z ≡ Do e → GoesOn e
decided_goes a z s n e d = credit_fine a z GoesOn
    (record {
      look = λ t k. tt;
      batch = tt;
      ask = λ v k. tt;
      deny = λ t k. tt;
      give = λ t k. tt;
      take =
          λ v k. tt;
      burn = tt;
      shrug = λ v k. tt;
      sleep = tt;
    })
    (λ x i e. tt) a.credit e (going (not (z.stop == 0) || z.ended) (not_over z.stop s z.ended n) d)
  where
    going : (b : Bool) → b ≡ false → cond b (Do (event.Leave a.place)) (by_credit a.credit a z)
        ≡ Do e
        → by_credit a.credit a z ≡ Do e
    going true n d = absurd (cc)
    going false n d = d
