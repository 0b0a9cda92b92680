-- What the decision of a place names, by the first member of what it sees that passes.
use Rattle.std.specs.Prelude.{Some, None}
use Rattle.std.proofs.Common.{◌≡◌, ◌≢◌, ℕ, zero, suc, ◌<◌, inl, inr, Bool, true, false, cond, not}
use Rattle.std.proofs.Common.{◌||◌, ◌==◌, nat_lt, Option, List, [], ◌∷◌, length, get_or, map, refl}
use Rattle.std.proofs.Common.{sym, ap, ◌∙◌, arith}
use Rattle.glb_rules.specs.Sight.{Sight, IsIn}
use Rattle.glb_rules.specs.Decision.{decide, by_credit, by_phase, working_action, first, is_unseen}
use Rattle.glb_rules.specs.Decision.{is_pending, is_wanted, or_else, MintedSeesWant}
use Rattle.glb_rules.proofs.Decisions.Events.{first_none}
use Rattle.glb_rules.specs.declared.kinds.Phase.TheVariants as phase
use Rattle.glb_rules.specs.declared.kinds.Credit.{Credit}
use Rattle.glb_rules.specs.declared.kinds.Credit.TheVariants as credit
use Rattle.glb_rules.specs.declared.place_state.PlaceState.{PlaceState}
use Rattle.glb_rules.specs.declared.edges.InEdge.{InEdge}
use Rattle.glb_rules.specs.declared.event.Event.{Event}
use Rattle.glb_rules.specs.declared.event.Event.TheVariants as event
use Rattle.glb_rules.specs.declared.event.Action.{Action}
use Rattle.glb_rules.specs.declared.event.Action.TheVariants.{Do, Poll}

-- the first member that passes
pub first_is : {A : Type 0} (f : A → Bool) (xs : List A) (at : ℕ) (d : A) → at < length xs
    → ((i : ℕ) (e : A) → i < at → f (get_or xs i e) ≡ false) → f (get_or xs at d) ≡ true
    → first f xs ≡ Some (get_or xs at d)
first_is f [] at d l before here = absurd (omega arith)
first_is f (x ∷ xs) zero d l before here = ap (λ b. cond b (Some x) (first f xs)) here
first_is f (x ∷ xs) (suc at) d l before here =
    ap (λ b. cond b (Some x) (first f xs)) (before 0 d (omega arith))
    ∙ first_is f xs at d (omega arith) (λ i e m. before (suc i) e (omega arith)) here

-- the first member that passes, in two lists whose members pass alike
pub first_alike : (f : InEdge → Bool) (g : InEdge → InEdge) (G : InEdge → Action) (xs : List InEdge)
    (b c : Action) → ((x : InEdge) → IsIn x xs → f (g x) ≡ f x) → ((x : InEdge) → G (g x) ≡ G x)
    → (first f xs ≡ None → b ≡ c) → or_else (first f (map g xs)) G b ≡ or_else (first f xs) G c
first_alike f g G [] b c h k n = n refl
first_alike f g G (x ∷ xs) b c h k n = go (f x) refl (f (g x)) (h x (inl refl))
    (λ m. first_alike f g G xs b c (λ y i. h y (inr i)) k m)
  where
    go : (d : Bool) → f x ≡ d → (e : Bool) → e ≡ f x
        → ((first f xs ≡ None → b ≡ c) → or_else (first f (map g xs)) G b
        ≡ or_else (first f xs) G c)
        → or_else (cond e (Some (g x)) (first f (map g xs))) G b
        ≡ or_else (cond d (Some x) (first f xs)) G c
    go true q true s rest = k x
    go true q false s rest = let t : false ≡ true = s ∙ q in cc
    go false q true s rest = let t : true ≡ false = s ∙ q in cc
    go false q false s rest = rest (λ m. n (ap (λ d. cond d (Some x) (first f xs)) q ∙ m))

module _ (a : PlaceState) (z : Sight) (go_on : z.stop ≡ 0) (on : z.ended ≡ false) where
  going : decide a z ≡ by_credit a.credit a z
  going = λ i. cond (not (go_on i == 0) || on i) (Do (event.Leave a.place)) (by_credit a.credit a z)

  -- a place that works with one credit, and has an in-edge at which it has not looked, looks at the
  -- first
  pub looks_at_first : (at : ℕ) (d : InEdge) → a.phase ≡ phase.Working → a.credit ≡ credit.One
      → at < length z.ins → ((i : ℕ) (e : InEdge) → i < at → is_unseen (get_or z.ins i e) ≡ false)
      → is_unseen (get_or z.ins at d) ≡ true
      → decide a z ≡ Do (event.Look a.place (get_or z.ins at d).thief (get_or z.ins at d).kind)
  looks_at_first at d works one within before here =
      going ∙ ap (λ c. by_credit c a z) one ∙ ap (λ f. by_phase f a z) works
      ∙ ap (λ o. or_else o (λ (x : InEdge). Do (event.Look a.place x.thief x.kind)) (working_action a z))
      (first_is is_unseen z.ins at d within before here)

  some_wanted : (o : Option InEdge) → first is_wanted z.ins ≡ o
      → ((x : InEdge) × IsIn x z.ins × (is_wanted x ≡ true)) → (x : InEdge) × (o ≡ Some x)
  some_wanted None e w =
      let f = first_none is_wanted z.ins e w.0 w.1 in let d : false ≡ true = sym f ∙ w.2 in absurd (cc)
  some_wanted (Some x) e w = (x, refl)

  -- a place that has minted gives
  pub minted_gives : a.credit ≡ credit.Minted → MintedSeesWant a z
      → (x : InEdge) × (decide a z ≡ Do (event.Give a.place x.thief x.kind))
  minted_gives c sees =
      let w = some_wanted (first is_wanted z.ins) refl (sees c) in (
        w.0,
        going ∙ ap (λ y. by_credit y a z) c
            ∙ ap (λ o. or_else o (λ (x : InEdge). Do (event.Give a.place x.thief x.kind)) Poll) w.1,
      )

  some_act : (o : Option InEdge) (f : InEdge → Event) (b : Action) → b ≢ Poll
      → or_else o (λ x. Do (f x)) b ≢ Poll
  some_act None f b n e = n e
  some_act (Some x) f b n e = cc

  working_acts : working_action a z ≢ Poll
  working_acts = some_act (cond (nat_lt 1 a.size) (first is_wanted z.ins) None) (λ x. event.Mint a.place) _
      (some_act (first is_pending z.ins) (λ x. event.Deny a.place x.thief x.kind)
      (Do (event.Batch a.place)) (λ e. cc))

  -- a Working place has something to do
  pub working_decides : a.phase ≡ phase.Working → MintedSeesWant a z → decide a z ≢ Poll
  working_decides works sees d = by a.credit refl (sym going ∙ d)
    where
      by : (c : Credit) → a.credit ≡ c → by_credit c a z ≡ Poll → ⊥
      by credit.Zero e p = some_act (first is_unseen z.ins) (λ x. event.Look a.place x.thief x.kind)
          (working_action a z) working_acts (sym (ap (λ f. by_phase f a z) works) ∙ p)
      by credit.One e p = some_act (first is_unseen z.ins) (λ x. event.Look a.place x.thief x.kind)
          (working_action a z) working_acts (sym (ap (λ f. by_phase f a z) works) ∙ p)
      by credit.Minted e p =
          let w = minted_gives e sees in
          let f : Do (event.Give a.place w.0.thief w.0.kind) ≡ Poll =
          sym w.1 ∙ going ∙ ap (λ y. by_credit y a z) e ∙ p in cc
      by credit.Taken e p = cc

  -- a place that mints has looked at all its in-edges
  pub mints_looked : a.phase ≡ phase.Working → a.credit ≡ credit.One → (p : ℕ)
      → decide a z ≡ Do (event.Mint p) → (x : InEdge) → IsIn x z.ins → is_unseen x ≡ false
  mints_looked works one p d =
      let e : or_else (first is_unseen z.ins) (λ (x : InEdge). Do (event.Look a.place x.thief x.kind))
      (working_action a z) ≡ Do (event.Mint p) =
      sym (going ∙ ap (λ c. by_credit c a z) one ∙ ap (λ f. by_phase f a z) works) ∙ d in
      first_none is_unseen z.ins (none (first is_unseen z.ins) e)
    where
      none : (q : Option InEdge)
          → or_else q (λ (x : InEdge). Do (event.Look a.place x.thief x.kind)) (working_action a z)
          ≡ Do (event.Mint p) → q ≡ None
      none None e = refl
      none (Some x) e = absurd (cc)
