-- Where a run is over every place leaves, one of them in each turn.
use Rattle.std.specs.Prelude.{Bool, true, false, not, cond, ◌||◌, ◌==◌}
use Rattle.std.proofs.Common.{◌≡◌, ◌≢◌, ℕ, suc, ◌+◌, ◌%◌, ◌<◌, ◌≤◌, ◌⊎◌, inl, inr, ⊎_elim}
use Rattle.std.proofs.Common.{List, refl, sym, ap, subst, ◌∙◌, arith}
use Rattle.std.proofs.lemmas.Bool.{cases_eq}
use Rattle.glb_laws.specs.Sums.{sum_to}
use Rattle.glb_rules.specs.World.{Setup, World}
use Rattle.glb_rules.specs.Lawful.{sum_of_places}
use Rattle.glb_rules.specs.Steps.{Step}
use Rattle.glb_rules.specs.Finish.{AllGone}
use Rattle.glb_rules.specs.Schedules.{decision, MintersKnowWhoAsks}
use Rattle.glb_rules.specs.declared.kinds.Phase.{Phase}
use Rattle.glb_rules.specs.declared.kinds.Phase.TheVariants as phase
use Rattle.glb_rules.specs.declared.place_state.PlaceState.{PlaceState}
use Rattle.glb_rules.specs.declared.event.Event.{Event}
use Rattle.glb_rules.specs.declared.event.Event.TheVariants as event
use Rattle.glb_rules.specs.declared.event.Action.TheVariants.{Do}
use Rattle.glb_rules.proofs.CallerLemmas.{across_change, eq_other, eq_self, led_step, sum_change}
use Rattle.glb_rules.proofs.CallerLemmas.{sum_most}
use Rattle.glb_core.specs.Tables.{WorldView}
use Rattle.glb_core.specs.Standing.{Represents, SimulatesFrom, HasNoCase, MemoryFails}
use Rattle.glb_core.proofs.CallerLemmas.{places_are, states_agree, memory_failed, failed_stop}
use Rattle.glb_turns.specs.inner.Turns.{IsOver, TakesTurn, FindsPlace}

-- 1 for a place that has left, else 0
abbrev gone_bit : Phase → ℕ
gone_bit phase.Working = 0
gone_bit phase.Idle = 0
gone_bit (phase.Waiting v k) = 0
gone_bit phase.Asleep = 0
gone_bit phase.Gone = 1

-- how many places have left
abbrev pub gone_count : {I : Type 0} → Setup → World I → ℕ
gone_count s w = sum_of_places s w (λ a. gone_bit a.phase)

gone_most : (f : Phase) → gone_bit f ≤ 1
gone_most phase.Working = omega arith
gone_most phase.Idle = omega arith
gone_most (phase.Waiting v k) = omega arith
gone_most phase.Asleep = omega arith
gone_most phase.Gone = omega arith

gone_cases : (f : Phase) → (f ≡ phase.Gone) ⊎ ((f ≢ phase.Gone) × (gone_bit f ≡ 0))
gone_cases phase.Working = inr (λ e. cc, refl)
gone_cases phase.Idle = inr (λ e. cc, refl)
gone_cases (phase.Waiting v k) = inr (λ e. cc, refl)
gone_cases phase.Asleep = inr (λ e. cc, refl)
gone_cases phase.Gone = inl refl

or_true : (b : Bool) → (b || true) ≡ true
or_true true = refl
or_true false = refl

-- where one of them is 0, numbers that are at most 1 add up to less than their number
one_less : (n p : ℕ) (f : ℕ → ℕ) → p < n → ((j : ℕ) → f j ≤ 1) → f p ≡ 0 → suc (sum_to n f) ≤ n
one_less n p f l most none =
    let g : ℕ → ℕ = λ j. cond (j == p) 1 (f j) in
    let at : g p ≡ 1 = rw (eq_self p) refl in
    let few : (j : ℕ) → j < n → g j ≤ 1 = λ j m. ⊎_elim
    (λ (e : j ≡ p). rw (e, eq_self p) (omega arith))
    (λ (e : j ≢ p). rw (eq_other j p e) (most j)) (cases_eq j p) in
    let changed : sum_to n g + f p ≡ sum_to n f + g p =
    sum_change n p f g l (λ j m d. rw (eq_other j p d) refl) in
    let total = sum_most n 1 g few in
    omega (arith, changed, at, none, total)

-- where as many have left as there are, all have
pub all_left : {I : Type 0} (s : Setup) (w : World I) → s.places ≤ gone_count s w → AllGone s w
all_left s w many p l = ⊎_elim (λ e. e)
    (λ n. let less = one_less s.places p (λ q. gone_bit (w.place q).phase) l
    (λ q. gone_most (w.place q).phase) n.1 in absurd (omega (arith, less, many)))
    (gone_cases (w.place p).phase)

-- the world is finished, or was halted
abbrev pub IsOverAt : {I : Type 0} → World I → Type 0
IsOverAt w = (w.stop ≢ 0) ⊎ (w.live ≡ 0)

-- there every place decides to leave
leaves : {I : Type 0} (seed : ℕ) (s : Setup) (w : World I) (p : ℕ) → IsOverAt w
    → decision seed s w p ≡ Do (event.Leave p)
leaves seed s w p h = ⊎_elim
    (λ (halted : w.stop ≢ 0). rw (eq_other w.stop 0 halted) refl)
    (λ (finished : w.live ≡ 0). rw (finished, or_true (not (w.stop == 0))) refl) h

module _ {B I V : Type 0} (items : B → List I) (code : ℕ) (known : (code ≡ 1) ⊎ (code ≡ 2)) where
  -- what the tables tell of the end holds in the world
  over_at : (s : Setup) (x : WorldView B V) (w : World I) → Represents items s x w → IsOver code x
      → IsOverAt w
  over_at s x w S h = ⊎_elim
      (λ (l : code ≤ x.stop). inl (λ z. ⊎_elim (λ (c : code ≡ 1). omega (arith, l, c, S.shows.stop, z))
      (λ (c : code ≡ 2). omega (arith, l, c, S.shows.stop, z)) known))
      (λ (z : x.live ≡ 0). inr (sym S.shows.live ∙ z)) h

  -- a turn there is that of a place that leaves
  pub turn_leaves : (children : I → List I) (value : I → V) (combine : V → V → V) (unit : V)
      (old new : WorldView B V) (n : ℕ) (s : Setup) (w : World I) → Represents items s old w
      → MintersKnowWhoAsks s w → IsOver code old
      → (t : TakesTurn items children value combine unit old new n s w)
      → IsOver code new × MintersKnowWhoAsks s t.next × (gone_count s t.next ≡ gone_count s w + 1)
  turn_leaves children value combine unit old new n s w S D h t =
      let q : ℕ = (n + t.turn.ahead) % s.places in
      let same : Do (event.Leave q) ≡ Do t.event =
      sym (leaves old.params.seed s w q (over_at s old w S h)) ∙ t.turn.decides in
      let is : t.event ≡ event.Leave q = cc in
      let st : Step children s w (event.Leave q) t.next =
      subst (λ e. Step children s w e t.next) is t.turn.step in
      let change = across_change s w t.next _ _ _ st.becomes (λ a. gone_bit a.phase) st.in_range.0 in
      let none : gone_bit (w.place q).phase ≡ 0 =
      ⊎_elim (λ e. absurd (t.turn.here e)) (λ e. e.1) (gone_cases (w.place q).phase) in (
        ⊎_elim
            (λ (l : code ≤ old.stop). inl (let a = S.shows.stop in let b = st.becomes.stop in
            let c = t.stands.shows.stop in omega arith))
            (λ (z : old.live ≡ 0). inr (let a = S.shows.live in let b = st.becomes.live in
            let c = t.stands.shows.live in omega arith)) h,
        led_step children s w t.next (event.Leave q) S.lawful tt D st,
        omega (arith, change, none),
      )

  -- and wants no memory
  pub turn_wants_none : (children : I → List I) (value : I → V) (combine : V → V → V) (unit : V)
      (old new : WorldView B V) (n p : ℕ) (e : Event) (s : Setup) (w : World I)
      → Represents items s old w
      → IsOver code old → FindsPlace old.params.seed s w n p e
      → MemoryFails items children value combine unit old e new → ⊥
  turn_wants_none children value combine unit old new n p e s w S h f m =
      let same : Do (event.Leave p) ≡ Do e =
      sym (leaves old.params.seed s w p (over_at s old w S h)) ∙ f.decides in
      let is : e ≡ event.Leave p = cc in
      subst (λ d. MemoryFails items children value combine unit old d new) is m

  -- a Halt of a place ends the run, also where the place has left already
  pub halt_over : (children : I → List I) (value : I → V) (combine : V → V → V) (unit : V)
      (old new : WorldView B V) (p k : ℕ) (s : Setup) (w : World I)
      → SimulatesFrom items children value combine unit old (event.Halt p code) k new s w
      → IsOver code new
  halt_over children value combine unit old new p k s w l =
      inl (let a = l.step.becomes.stop in let b = l.stands.shows.stop in omega arith)

  pub halted_already : (x : WorldView B V) (p : ℕ) (s : Setup) (w : World I)
      → Represents items s x w
      → p < x.cube.places → x.stop ≡ 0 → HasNoCase {I = I} items x (event.Halt p code) → IsOver code x
  halted_already x p s w S l running none = ⊎_elim
      (λ (gone : (w.place p).phase ≡ phase.Gone).
      let here : p < s.places = subst (λ n. p < n) (sym (places_are items s x w S.shows)) l in
      inr (S.shows.live ∙ S.lawful.gone p here gone (sym S.shows.stop ∙ running)))
      (λ here. absurd (none s w S (here.0, known)))
      (gone_cases (w.place p).phase)

-- worlds of one view agree on who has left
pub gone_alike : {B I V : Type 0} (items : B
    → List I) (x : WorldView B V) (s t : Setup) (w v : World I)
    → Represents items s x w → Represents items t x v → AllGone s w → AllGone t v
gone_alike items x s t w v S T gone p l =
    let below : p < x.cube.places = subst (λ n. p < n) (places_are items t x v T.shows) l in
    let there : p < s.places = subst (λ n. p < n) (sym (places_are items s x w S.shows)) below in
    ap (λ (a : PlaceState). a.phase) (states_agree items x s t w v S T p below) ∙ gone p there

-- an event that wants memory leaves the stop code as it was
pub failed_runs : {B I V : Type 0} (items : B → List I) (children : I → List I) (value : I → V)
    (combine : V → V → V) (unit : V) (old new : WorldView B V) (e : Event) (s : Setup) (w : World I)
    → Represents items s old w → MemoryFails items children value combine unit old e new
    → new.stop ≡ old.stop
failed_runs items children value combine unit old new e s w S m = ⊎_elim
    (λ part. let l = part.1 s w S in l.stands.shows.stop ∙ l.step.becomes.stop
    ∙ failed_stop items children value combine unit old new e w.stop m ∙ sym S.shows.stop)
    (λ a. (a.1 s w S).shows.stop ∙ sym S.shows.stop)
    (memory_failed items children value combine unit old new e m)
