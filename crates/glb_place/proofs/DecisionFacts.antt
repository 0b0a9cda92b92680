-- The decision of a place by what it sees is that by its record, and it may do what it decides.
use Rattle.std.specs.Prelude.{Some, None}
use Rattle.std.proofs.Common.{◌≡◌, ◌≢◌, ℕ, ◌<◌, inl, inr, ⊎_elim, Bool, true, false, cond, not, ◌||◌, ◌&&◌, ◌==◌, nat_lt, Option, List, [], ◌∷◌, ◌++◌, map, refl, sym, ap, ◌∙◌, subst, arith}
use Rattle.std.proofs.lemmas.List.{map-append}
use Rattle.glb_laws.specs.Numbers.{has_number}
use Rattle.glb_cube.specs.Lines.{outs_of}
use Rattle.glb_rules.specs.World.{has_line, state_of}
use Rattle.glb_rules.specs.Events.{name_of, IsThere}
use Rattle.glb_rules.specs.Setups.{IsProper}
use Rattle.glb_rules.specs.Sight.{Sight, IsIn, each_below, in_edge, in_edges, out_edge, edge_waited, sight_at, state_at}
use Rattle.glb_rules.specs.Decision.{decide, by_credit, by_phase, resting_action, working_action, waiting_action, take_or, idle_action, deny_or, first, is_unseen, is_pending, is_asked, is_state, is_mark, is_line, is_wanted, or_else}
use Rattle.glb_rules.proofs.Decisions.Events.{first_none, own_decided}
use Rattle.glb_rules.proofs.Decisions.Actors.{decided_actor}
use Rattle.glb_laws.proofs.Joins.{join_same}
use Rattle.glb_core.proofs.Lifelines.Seen.{map_each}
use Rattle.glb_core.proofs.Lifelines.Setups.{proper, line_is, outs_are}
use Rattle.glb_rules.specs.declared.kinds.Kind.{Kind}
use Rattle.glb_rules.specs.declared.kinds.Kind.TheVariants as kind
use Rattle.glb_rules.specs.declared.kinds.Edge.{Edge}
use Rattle.glb_rules.specs.declared.kinds.Edge.TheVariants as seen
use Rattle.glb_rules.specs.declared.kinds.Mark.TheVariants as mark
use Rattle.glb_rules.specs.declared.kinds.Phase.{Phase}
use Rattle.glb_rules.specs.declared.kinds.Phase.TheVariants as phase
use Rattle.glb_rules.specs.declared.kinds.Credit.{Credit}
use Rattle.glb_rules.specs.declared.kinds.Credit.TheVariants as credit
use Rattle.glb_rules.specs.declared.local.EdgeName.{EdgeName}
use Rattle.glb_rules.specs.declared.place_state.PlaceState.{PlaceState}
use Rattle.glb_rules.specs.declared.edges.InEdge.{InEdge}
use Rattle.glb_rules.specs.declared.edges.OutEdge.{OutEdge}
use Rattle.glb_rules.specs.declared.event.Event.{Event}
use Rattle.glb_rules.specs.declared.event.Event.TheVariants as event
use Rattle.glb_rules.specs.declared.event.Action.{Action}
use Rattle.glb_rules.specs.declared.event.Action.TheVariants.{Do, Poll}
use Rattle.glb_place.specs.declared.record.Record.{Record}
use Rattle.glb_place.specs.Records.{known_at, edge_like, setup_in, world_in, May}
use Rattle.glb_place.specs.Places.{decision_in}
use Rattle.glb_place.specs.inner.Standing.{IsEarly, Tells, IsRunning}
use Rattle.glb_place.proofs.KnownFacts.{name_in}
use Rattle.glb_place.proofs.SightLists.{sees}

-- an edge made of a state is in that state
pub state_like : (I : Type 0) (e : Edge) → state_of (edge_like {I = I} e) ≡ e
state_like I seen.Idle = refl
state_like I seen.Asked = refl
state_like I seen.Refused = refl
state_like I seen.Loot = refl

-- two functions one after the other are one
map_twice : {A C D : Type 0} (f : A → C) (g : C → D) (xs : List A) → map g (map f xs)
    ≡ map (λ x. g (f x)) xs
map_twice f g [] = refl
map_twice f g (x ∷ xs) = ap (λ ys. g (f x) ∷ ys) (map_twice f g xs)

-- a list stays that is changed to the same at each member
map_same : {A : Type 0} (f : A → A) (xs : List A) → ((x : A) → IsIn x xs → f x ≡ x) → map f xs ≡ xs
map_same f [] h = refl
map_same f (x ∷ xs) h =
    ap (λ y. y ∷ map f xs) (h x (inl refl)) ∙ ap (λ ys. x ∷ ys) (map_same f xs (λ y i. h y (inr i)))

-- the first member that passes, in two lists whose members pass alike
first_alike : (f : InEdge → Bool) (g : InEdge → InEdge) (G : InEdge → Action) (xs : List InEdge)
    (b c : Action)
    → ((x : InEdge) → IsIn x xs → f (g x) ≡ f x) → ((x : InEdge) → G (g x) ≡ G x)
    → (first f xs ≡ None → b ≡ c) → or_else (first f (map g xs)) G b ≡ or_else (first f xs) G c
first_alike f g G [] b c h k n = n refl
first_alike f g G (x ∷ xs) b c h k n = go (f x) refl (f (g x)) (h x (inl refl))
    (λ m. first_alike f g G xs b c (λ y i. h y (inr i)) k m)
  where
    go : (d : Bool) → f x ≡ d → (e : Bool) → e ≡ f x
        → ((first f xs ≡ None → b ≡ c) → or_else (first f (map g xs)) G b
        ≡ or_else (first f xs) G c)
        → or_else (cond e (Some (g x)) (first f (map g xs))) G b
        ≡ or_else (cond d (Some x) (first f xs)) G c
    go true q true s rest = k x
    go true q false s rest = let t : false ≡ true = s ∙ q in cc
    go false q true s rest = let t : true ≡ false = s ∙ q in cc
    go false q false s rest = rest (λ m. n (ap (λ d. cond d (Some x) (first f xs)) q ∙ m))

module _ {I : Type 0} (r : Record I) (z : Sight) (count : ℕ) (T : Tells r z count)
    (R : IsRunning r) where
  -- all that the record lets the place see
  abbrev all : Sight
  all = sight_at (setup_in r) (world_in r) r.place

  -- the in-edge as the record has it
  abbrev fresh : InEdge → InEdge
  fresh x = in_edge (world_in r) r.place x.kind x.thief

  -- the setup of a run is proper
  pub is_proper : IsProper (setup_in r)
  is_proper = proper r.lines r.params (λ p. false) R.cube R.places
      (let b = R.limits.batch.0 in omega arith)

  -- the in-edge with this name, as the record has it
  abbrev named : EdgeName → InEdge
  named n = in_edge (world_in r) r.place n.kind n.thief

  -- the in-edges seen have the names of all in-edges
  ins_are : all.ins ≡ map fresh z.ins
  ins_are =
      let steals : List EdgeName =
      each_below r.lines.places (λ t. not (t == r.place)) (λ t. name_of kind.Steal t r.place) in
      let lines : List EdgeName =
      each_below r.lines.places (λ t. has_number r.place (outs_of r.lines t))
      (λ t. name_of kind.Line t r.place) in
      sym
      (sym (map_twice (name_in r.place) named z.ins)
      ∙ ap (map named) T.made.ins
      ∙ map-append named steals lines
      ∙ ap (λ ys. ys ++ map named lines)
      (map_each r.lines.places (λ t. not (t == r.place)) (λ t. name_of kind.Steal t r.place) named)
      ∙ ap (λ ys. in_edges (setup_in r) (world_in r) r.place kind.Steal ++ ys)
      (map_each r.lines.places (λ t. has_number r.place (outs_of r.lines t))
      (λ t. name_of kind.Line t r.place) named
      ∙ join_same r.lines.places
      (λ t. cond (has_line (setup_in r) t r.place) (in_edge (world_in r) r.place kind.Line t ∷ [])
      [])
      (λ t. cond (has_number r.place (outs_of r.lines t))
      (in_edge (world_in r) r.place kind.Line t ∷ []) [])
      (λ t l. ap (λ b. cond b (in_edge (world_in r) r.place kind.Line t ∷ []) [])
      (sym (line_is r.lines r.params (λ p. false) t r.place l)))))

  -- the lines seen are those of the record
  outs_are_seen : all.outs ≡ z.outs
  outs_are_seen =
      ap (map (out_edge (world_in r) r.place))
      (outs_are r.lines r.params (λ p. false) r.place R.within ∙ sym T.made.outs)
      ∙ map_twice (λ (y : OutEdge). y.victim) (out_edge (world_in r) r.place) z.outs
      ∙ map_same (λ (y : OutEdge). out_edge (world_in r) r.place y.victim) z.outs
      (λ y i.
      let e : state_of (edge_like {I = I} (known_at r.known kind.Line r.place y.victim)) ≡ y.edge =
      state_like I (known_at r.known kind.Line r.place y.victim) ∙ T.outs y i in
      λ j. record { victim = y.victim; edge = e j })

  -- so is the edge waited on
  waited_are : (v : ℕ) (k : Kind) → r.local.phase ≡ phase.Waiting v k → all.waited ≡ z.waited
  waited_are v k e =
      ap (edge_waited (world_in r) r.place) e
      ∙ state_like I (known_at r.known k r.place v) ∙ sym (T.waited v k e)

  -- the state of an in-edge in the record is the one known
  fresh_edge : (x : InEdge) → (fresh x).edge ≡ known_at r.known x.kind x.thief r.place
  fresh_edge x = state_like I (known_at r.known x.kind x.thief r.place)

  -- the same in-edges are Unseen
  unseen_same : (x : InEdge) → IsIn x z.ins → is_unseen (fresh x) ≡ is_unseen x
  unseen_same x i = ap (is_mark mark.Unseen) (T.ins x i).mark

  -- the same are Pending
  pending_same : (x : InEdge) → IsIn x z.ins → is_pending (fresh x) ≡ is_pending x
  pending_same x i = ap (is_mark mark.Pending) (T.ins x i).mark

  -- the same are Asked
  asked_same : (x : InEdge) → IsIn x z.ins → is_asked (fresh x) ≡ is_asked x
  asked_same x i = ap (is_state seen.Asked) (fresh_edge x)
      ∙ ⊎_elim (λ e. ap (is_state seen.Asked) e)
      (λ (e : IsEarly r x). ap (is_state seen.Asked) e.known
      ∙ sym (ap (is_state seen.Asked) e.taken_for))
      (T.ins x i).edge

  -- once each was looked at, the same want work
  wants_same : ((x : InEdge) → IsIn x z.ins → IsEarly r x → ⊥)
      → (x : InEdge) → IsIn x z.ins → is_wanted (fresh x) ≡ is_wanted x
  wants_same late x i =
      let m = (T.ins x i).mark in
      let e : (fresh x).edge ≡ x.edge =
      fresh_edge x ∙ ⊎_elim (λ e. e) (λ e. absurd (late x i e)) (T.ins x i).edge in
      λ j. is_mark mark.Pending (m j) || (is_line x.kind && is_state seen.Refused (e j))

  -- an in-edge that was looked at is taken for nothing
  unseen_early : (x : InEdge) → is_unseen x ≡ false → IsEarly r x → ⊥
  unseen_early x u e = let b : is_mark mark.Unseen mark.Unseen ≡ false =
      ap (is_mark mark.Unseen) (sym e.mark) ∙ u in cc

  module _ (a : PlaceState) (same_phase : a.phase ≡ r.local.phase)
      (same_credit : a.credit ≡ r.local.credit) where
    working_same : ((x : InEdge) → IsIn x z.ins → is_unseen x ≡ false) → working_action a all ≡ working_action a z
    working_same none =
        let late = λ (x : InEdge) (i : IsIn x z.ins). unseen_early x (none x i) in
        let deny : or_else (first is_pending all.ins)
        (λ (x : InEdge). Do (event.Deny a.place x.thief x.kind))
        (Do (event.Batch a.place))
        ≡ or_else (first is_pending z.ins) (λ (x : InEdge). Do (event.Deny a.place x.thief x.kind))
        (Do (event.Batch a.place)) =
        ap (λ xs. or_else (first is_pending xs)
        (λ (x : InEdge). Do (event.Deny a.place x.thief x.kind))
        (Do (event.Batch a.place))) ins_are
        ∙ first_alike is_pending fresh (λ (x : InEdge). Do (event.Deny a.place x.thief x.kind))
        z.ins _ _
        pending_same (λ x. refl) (λ n. refl)
        in
        go late deny (nat_lt 1 a.size)
      where
        go : ((x : InEdge) → IsIn x z.ins → IsEarly r x → ⊥)
            → or_else (first is_pending all.ins)
            (λ (x : InEdge). Do (event.Deny a.place x.thief x.kind))
            (Do (event.Batch a.place))
            ≡ or_else (first is_pending z.ins)
            (λ (x : InEdge). Do (event.Deny a.place x.thief x.kind))
            (Do (event.Batch a.place)) → (b : Bool) →
            or_else (cond b (first is_wanted all.ins) None) (λ x. Do (event.Mint a.place))
            (or_else (first is_pending all.ins)
            (λ (x : InEdge). Do (event.Deny a.place x.thief x.kind))
            (Do (event.Batch a.place)))
            ≡ or_else (cond b (first is_wanted z.ins) None) (λ x. Do (event.Mint a.place))
            (or_else (first is_pending z.ins)
            (λ (x : InEdge). Do (event.Deny a.place x.thief x.kind))
            (Do (event.Batch a.place)))
        go late deny true =
            ap (λ xs. or_else (first is_wanted xs) (λ x. Do (event.Mint a.place))
            (or_else (first is_pending all.ins)
            (λ (x : InEdge). Do (event.Deny a.place x.thief x.kind))
            (Do (event.Batch a.place)))) ins_are
            ∙ first_alike is_wanted fresh (λ x. Do (event.Mint a.place)) z.ins _ _ (wants_same late)
            (λ x. refl)
            (λ n. deny)
        go late deny false = deny

    denying_same : (b c : Action) → b ≡ c → deny_or a all b ≡ deny_or a z c
    denying_same b c e =
        ap (λ xs. or_else (first is_asked xs)
        (λ (x : InEdge). Do (event.Deny a.place x.thief x.kind)) b) ins_are
        ∙ first_alike is_asked fresh (λ (x : InEdge). Do (event.Deny a.place x.thief x.kind))
        z.ins b c
        asked_same (λ x. refl) (λ n. e)

    with_outs : List OutEdge → Sight
    with_outs outs = record z { outs = outs }

    not_working_same : (f : Phase) → a.phase ≡ f → resting_action f a all ≡ resting_action f a z
    not_working_same phase.Working e = refl
    not_working_same phase.Idle e =
        ap (λ outs. take_or a (record z { outs = outs }) (idle_action a (record z { outs = outs })))
        outs_are_seen
    not_working_same (phase.Waiting v k) e =
        ap (waiting_action a v k) (waited_are v k (sym same_phase ∙ e))
    not_working_same phase.Asleep e =
        ap (λ outs. take_or a (record z { outs = outs }) Poll) outs_are_seen
    not_working_same phase.Gone e = refl

    phase_same : (f : Phase) → a.phase ≡ f → by_phase f a all ≡ by_phase f a z
    phase_same phase.Working e =
        ap (λ xs. or_else (first is_unseen xs)
        (λ (x : InEdge). Do (event.Look a.place x.thief x.kind)) (working_action a all)) ins_are
        ∙ first_alike is_unseen fresh (λ (x : InEdge). Do (event.Look a.place x.thief x.kind))
        z.ins _ _
        unseen_same (λ x. refl) (λ n. working_same (first_none is_unseen z.ins n))
    phase_same phase.Idle e = denying_same _ _ (not_working_same phase.Idle e)
    phase_same (phase.Waiting v k) e = denying_same _ _ (not_working_same (phase.Waiting v k) e)
    phase_same phase.Asleep e = denying_same _ _ (not_working_same phase.Asleep e)
    phase_same phase.Gone e = denying_same _ _ (not_working_same phase.Gone e)

    credit_same : (c : Credit) → a.credit ≡ c → by_credit c a all ≡ by_credit c a z
    credit_same credit.Zero e = phase_same a.phase refl
    credit_same credit.One e = phase_same a.phase refl
    credit_same credit.Minted e =
        ap (λ xs. or_else (first is_wanted xs) (λ (x : InEdge). Do (event.Give a.place x.thief x.kind))
        Poll) ins_are
        ∙ first_alike is_wanted fresh (λ (x : InEdge). Do (event.Give a.place x.thief x.kind))
        z.ins Poll Poll
        (wants_same (λ x i (h : IsEarly r x). h.not_minted (sym same_credit ∙ e))) (λ x. refl)
        (λ n. refl)
    credit_same credit.Taken e = refl

    goes : (b d : ℕ) (c f : Bool) (x y : Action) → b ≡ 0 → c ≡ false → d ≡ 0 → f ≡ false → x ≡ y
        → cond (not (b == 0) || c) (Do (event.Leave a.place)) x
        ≡ cond (not (d == 0) || f) (Do (event.Leave a.place)) y
    goes b d c f x y p q s t e = λ i.
        cond (not ((p ∙ sym s) i == 0) || (q ∙ sym t) i) (Do (event.Leave a.place)) (e i)

    sight_decides : decide a z ≡ decide a all
    sight_decides =
        sym (goes r.code z.stop (cond r.over 0 1 == 0) z.ended _ _ R.not_halted
        (ap (λ b. cond b 0 1 == 0) R.goes_on) T.not_halted T.goes_on (credit_same a.credit refl))

  -- by its record the place decides the same
  pub decision_same : (a : PlaceState) → a
      ≡ state_at r.params.seed (setup_in r) (world_in r) r.place
      → decide a z ≡ decision_in r
  decision_same a e =
      sight_decides a (ap (λ (b : PlaceState). b.phase) e) (ap (λ (b : PlaceState). b.credit) e)
      ∙ ap (λ b. decide b all) e

  -- a place with tries left has another one to ask
  two : 0 < r.local.tries → 1 < r.lines.places
  two some = ⊎_elim (λ (few : r.lines.places < 2). let a = is_proper.alone few in let t =
      R.tries in absurd (omega arith))
      (λ (many : 1 < r.lines.places). many) (grind arith)

  -- what it decides it may do, over an edge that is there
  pub may_of : (e : Event) → decision_in r ≡ Do e → May r e × IsThere (setup_in r) e
  may_of e d =
      let g = own_decided (setup_in r) (world_in r) r.place
      (state_at r.params.seed (setup_in r) (world_in r) r.place)
      all T.own R.within R.here (sees r.params.seed (setup_in r) (world_in r)
      r.place is_proper R.within two) e d in (
        (
          decided_actor (state_at r.params.seed (setup_in r) (world_in r) r.place)
              all e d,
          g.0,
          g.1,
        ),
        g.2,
      )

-- the event gives no part
abbrev pub NoGift : Event → Type 0
NoGift (event.Give p t k) = ⊥
NoGift _ = Unit {0}

module _ {I : Type 0} (r : Record I) (z : Sight) (count : ℕ) (T : Tells r z count)
    (R : IsRunning r) (a : PlaceState)
    (is : a ≡ state_at r.params.seed (setup_in r) (world_in r) r.place) where
  -- where neither a stop code nor the end was read, the credit decides
  going : decide a z ≡ by_credit a.credit a z
  going = λ i. cond (not (T.not_halted i == 0) || T.goes_on i) (Do (event.Leave a.place))
      (by_credit a.credit a z)

  -- where some in-edge wants work there is a first one
  some_wants : (o : Option InEdge) → first is_wanted z.ins ≡ o
      → ((x : InEdge) × IsIn x z.ins × (is_wanted x ≡ true))
      → (x : InEdge) × (o ≡ Some x)
  some_wants None e w =
      let f = first_none is_wanted z.ins e w.0 w.1 in let d : false ≡ true = sym f ∙ w.2 in absurd (cc)
  some_wants (Some x) e w = (x, refl)

  -- a place that has minted gives
  minted_gives : r.local.credit ≡ credit.Minted
      → (x : InEdge) × (decide a z ≡ Do (event.Give a.place x.thief x.kind))
  minted_gives m =
      let c : a.credit ≡ credit.Minted = ap (λ (b : PlaceState). b.credit) is ∙ m in
      let w = some_wants (first is_wanted z.ins) refl (T.wanted m) in (
        w.0,
        going ∙ ap (λ y. by_credit y a z) c
            ∙ ap (λ o. or_else o (λ (x : InEdge). Do (event.Give a.place x.thief x.kind)) Poll) w.1,
      )

  -- so with another decision it has no credit for a part
  pub gives_alone : (e : Event) → decide a z ≡ Do e → NoGift e → r.local.credit ≢ credit.Minted
  gives_alone e d n m =
      let w = minted_gives m in
      let f : Do (event.Give a.place w.0.thief w.0.kind) ≡ Do e = sym w.1 ∙ d in
      let h : event.Give a.place w.0.thief w.0.kind ≡ e = cc in
      subst NoGift (sym h) n

  -- nor has a place that polls
  pub polls_free : decide a z ≡ Poll → r.local.credit ≢ credit.Minted
  polls_free d m =
      let w = minted_gives m in
      let f : Do (event.Give a.place w.0.thief w.0.kind) ≡ Poll = sym w.1 ∙ d in cc

  -- a look or another action is no poll
  some_look : (o : Option InEdge) (b : Action) → b ≢ Poll
      → or_else o (λ (x : InEdge). Do (event.Look a.place x.thief x.kind)) b ≢ Poll
  some_look None b n e = n e
  some_look (Some x) b n e = cc

  -- an event or another action is none
  some_act : (o : Option InEdge) (f : InEdge → Event) (b : Action) → b ≢ Poll
      → or_else o (λ x. Do (f x)) b ≢ Poll
  some_act None f b n e = n e
  some_act (Some x) f b n e = cc

  -- a Working place that has looked at all in-edges does something
  working_acts : working_action a z ≢ Poll
  working_acts = some_act (cond (nat_lt 1 a.size) (first is_wanted z.ins) None)
      (λ x. event.Mint a.place) _
      (some_act (first is_pending z.ins) (λ x. event.Deny a.place x.thief x.kind)
      (Do (event.Batch a.place)) (λ e. cc))

  -- a Working place does not poll
  pub polls_rests : decide a z ≡ Poll → r.local.phase ≢ phase.Working
  polls_rests d w =
      let works : a.phase ≡ phase.Working = ap (λ (b : PlaceState). b.phase) is ∙ w in
      go a.credit refl works (sym going ∙ d)
    where
      go : (c : Credit) → a.credit ≡ c → a.phase ≡ phase.Working → by_credit c a z ≡ Poll → ⊥
      go credit.Zero e works p =
          some_look (first is_unseen z.ins) (working_action a z) working_acts
          (sym (ap (λ f. by_phase f a z) works) ∙ p)
      go credit.One e works p =
          some_look (first is_unseen z.ins) (working_action a z) working_acts
          (sym (ap (λ f. by_phase f a z) works) ∙ p)
      go credit.Minted e works p = polls_free d (sym (ap (λ (b : PlaceState). b.credit) is) ∙ e)
      go credit.Taken e works p = cc

  -- a place that mints has looked at all its in-edges
  pub mints_looked : r.local.phase ≡ phase.Working → r.local.credit ≡ credit.One → (p : ℕ)
      → decide a z ≡ Do (event.Mint p) → (x : InEdge) → IsIn x z.ins → is_unseen x ≡ false
  mints_looked w o p d =
      let works : a.phase ≡ phase.Working = ap (λ (b : PlaceState). b.phase) is ∙ w in
      let one : a.credit ≡ credit.One = ap (λ (b : PlaceState). b.credit) is ∙ o in
      let e : or_else (first is_unseen z.ins)
      (λ (x : InEdge). Do (event.Look a.place x.thief x.kind)) (working_action a z)
      ≡ Do (event.Mint p) =
      sym (going ∙ ap (λ c. by_credit c a z) one ∙ ap (λ f. by_phase f a z) works) ∙ d in
      first_none is_unseen z.ins (none (first is_unseen z.ins) e)
    where
      none : (q : Option InEdge)
          → or_else q (λ (x : InEdge). Do (event.Look a.place x.thief x.kind)) (working_action a z)
          ≡ Do (event.Mint p)
          → q ≡ None
      none None e = refl
      none (Some x) e = absurd (cc)
