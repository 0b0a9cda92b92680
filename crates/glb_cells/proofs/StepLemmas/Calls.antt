-- What each call owes to the table, at a view that is read.
use Rattle.std.proofs.Common.{◌≡◌, ℕ, ◌+◌, ◌%◌, ◌<◌, List, [], ◌∷◌, max, length, Option, None, Some, sym, ap, ◌∙◌, subst}
use mathlib.Core.Option as maybe
use mathlib.Core.Option.{some}
use lib.ListN.{get_elem?}
use Rattle.atomic_table.specs.Table.{Allows, step}
use Rattle.glb_rules.specs.declared.local.EdgeName.{EdgeName}
use Rattle.glb_rules.specs.declared.event.Event.TheVariants as event
use Rattle.glb_rules.specs.declared.kinds.Kind.TheVariants as kind
use Rattle.glb_rules.specs.declared.kinds.Edge.TheVariants as seen
use Rattle.glb_place.specs.Records.{May, knows}
use Rattle.glb_place.specs.Calls.{HasMore}
use Rattle.glb_cells.specs.declared.view.View.{View}
use Rattle.glb_cells.specs.Shows.{Fixed, Shows}
use Rattle.glb_cells.specs.Plays.{Seated, Reads, slots_of, Asks, Denies, Looks, Learns, GivesUp, Shrugs, Mints, Burns, Sleeps, Overs, Halts, Stops, Settles, Begins, Hands, Takes, Clears}
use Rattle.glb_cells.specs.inner.Ready.{MayAsk, MayDeny, MayShrug, MayTake, MayBegin, MayMint, MayBurn, MaySleep, IsHere, MayHalt, MaySettle}
use Rattle.glb_cells.proofs.StepLemmas.Asking.{asks, denies, looks, learns}
use Rattle.glb_cells.proofs.StepLemmas.Moving.{begins_to, hands_over, takes_it, clears}
use Rattle.glb_cells.proofs.StepLemmas.Counting.{mints, burns, sleeps, overs}
use Rattle.glb_cells.proofs.StepLemmas.Stopping.{stops, halts, settles}
use Rattle.glb_cells.proofs.StepLemmas.Shrugging.{gives_up, shrugs}

-- within a call the view is one place's with this fact, and the seat holds these slots
abbrev pub ReadsWith : {B Q I : Type 0} → List (ℕ × Option B) → Seated B Q I
    → (View Q I → Type 0) → Type 0
ReadsWith held me fact = (r : View _ _) × (me ≡ (r ∷ [], held)) × fact r

module _ {B Q I : Type 0} (Γ : Fixed B Q I) where
  lift : (slots id w : ℕ) (f : ℕ → ℕ) (T : Seated B Q I → ℕ → Seated B Q I → Type 0) (F : View Q I
      → Type 0) → ((r : View Q I) → F r → Allows (Shows Γ) slots id (r ∷ [], slots_of r) w f
      (T (r ∷ [], slots_of r)))
      → (me : Seated B Q I) → Reads me F → Allows (Shows Γ) slots id me w f (T me)
  lift slots id w f T F move me reads = subst (λ (m : Seated B Q I). Allows (Shows Γ) slots id m w f
      (T m)) (sym reads.1) (move reads.0 reads.2)

  module _ (slots id e : ℕ) (n : EdgeName) (name : get_elem? Γ.names e ≡ some n) where
    pub may_ask : (me : Seated B Q I) → Reads me (MayAsk n)
        → Allows (Shows Γ) slots id me (e + 3) (λ _. 1)
        (Asks n (step slots (e + 3) 1 0 maybe.none) me)
    may_ask = lift slots id (e + 3) (λ _. 1) (Asks n (step slots (e + 3) 1 0 maybe.none)) (MayAsk n)
        (λ r x. asks Γ slots id e n r name x.0 x.1)

    pub may_deny : (me : Seated B Q I) → Reads me (MayDeny n)
        → Allows (Shows Γ) slots id me (e + 3) (λ _. 2)
        (Denies n (step slots (e + 3) 2 0 maybe.none) me)
    may_deny = lift slots id (e + 3) (λ _. 2) (Denies n (step slots (e + 3) 2 0 maybe.none))
        (MayDeny n) (λ r x. denies Γ slots id e n r name x.0 x.1)

    pub may_look_in : (me : Seated B Q I) → Reads me (λ r. n.victim ≡ r.own.place)
        → Allows (Shows Γ) slots id me (e + 3) (λ k. k)
        (Looks n (step slots (e + 3) 0 0 maybe.none) me)
    may_look_in = lift slots id (e + 3) (λ k. k) (Looks n (step slots (e + 3) 0 0 maybe.none))
        (λ r. n.victim ≡ r.own.place) (λ r x. looks Γ slots id e n r name x)

    pub may_look_out : (me : Seated B Q I) → Reads me (λ r. n.thief ≡ r.own.place)
        → Allows (Shows Γ) slots id me (e + 3) (λ k. k)
        (Learns n (step slots (e + 3) 0 0 maybe.none) me)
    may_look_out = lift slots id (e + 3) (λ k. k) (Learns n (step slots (e + 3) 0 0 maybe.none))
        (λ r. n.thief ≡ r.own.place) (λ r x. learns Γ slots id e n r name x)

    pub may_give_up : n.kind ≡ kind.Steal → (me : Seated B Q I) → Reads me (MayShrug n)
        → Allows (Shows Γ) slots id me (e + 3) (λ _. 0)
        (GivesUp n (step slots (e + 3) 0 0 maybe.none) me)
    may_give_up steal = lift slots id (e + 3) (λ _. 0)
        (GivesUp n (step slots (e + 3) 0 0 maybe.none)) (MayShrug n)
        (λ r x. gives_up Γ slots id e n r name steal x.0 x.1)

    pub may_shrug : n.kind ≡ kind.Line → (me : Seated B Q I) → Reads me (MayShrug n)
        → Allows (Shows Γ) slots id me (e + 3) (λ k. k)
        (Shrugs n (step slots (e + 3) 0 0 maybe.none) me)
    may_shrug line = lift slots id (e + 3) (λ k. k) (Shrugs n (step slots (e + 3) 0 0 maybe.none))
        (MayShrug n) (λ r x. shrugs Γ slots id e n r name line x.1)

    pub may_begin : (w : ℕ) (xs : List I) (me : Seated B Q I) → Reads me (MayBegin n w xs)
        → Allows (Shows Γ) slots id me (e + 3) (λ _. w)
        (Begins xs (step slots (e + 3) w 0 maybe.none) me)
    may_begin w xs = lift slots id (e + 3) (λ _. w) (Begins xs (step slots (e + 3) w 0 maybe.none))
        (MayBegin n w xs) (λ r x. begins_to Γ slots id e w n xs r name x.0.0 x.0.1
        (x.0.3.0, x.0.3.1) x.1)

    pub may_take : (me : Seated B Q I) → Reads me (MayTake n)
        → Allows (Shows Γ) slots id me (e + 3) (λ _. 6)
        (Takes Γ.items Γ.fits n (step slots (e + 3) 6 0 maybe.none) me)
    may_take = lift slots id (e + 3) (λ _. 6) (Takes Γ.items Γ.fits n
        (step slots (e + 3) 6 0 maybe.none)) (MayTake n)
        (λ r x. takes_it Γ slots id e n r name x.0 x.1)

    -- what a giver's view says while the part is being put in
    abbrev pub GivesNow : List I → B → View Q I → Type 0
    GivesNow xs part r = (r.hand ≡ Some (e, xs))
        × May r.own (event.Give n.victim n.thief n.kind) × Γ.fits part r.program
        × (0 < length (Γ.items part)) × HasMore (Γ.items part) r.own

    pub may_hand : (xs : List I) (part : B) (others : List (ℕ × Option B)) (me : Seated B Q I)
        → ReadsWith ((e, Some part) ∷ others) me (GivesNow xs part)
        → Allows (Shows Γ) slots id me (e + 3) (λ _. 5)
        (Hands Γ.items n (step slots (e + 3) 5 0 maybe.none) me)
    may_hand xs part others me reads =
        let x = reads.2 in
        subst (λ (m : Seated B Q I). Allows (Shows Γ) slots id m (e + 3) (λ _. 5)
        (Hands Γ.items n (step slots (e + 3) 5 0 maybe.none) m)) (sym reads.1)
        (hands_over Γ slots id e n xs part x.4.0 others reads.0 name x.0 x.1 x.2 x.3 x.4.2 x.4.1)

    pub may_clear : (xs : List I) (others : List (ℕ × Option B)) (me : Seated B Q I)
        → ReadsWith ((e, None) ∷ others) me (λ r. (r.hand ≡ Some (e, xs)) × (n.thief ≡ r.own.place)
        × (knows r.own n ≡ seen.Idle))
        → Allows (Shows Γ) slots id me (e + 3) (λ _. 0)
        (Clears (step slots (e + 3) 0 0 maybe.none) me)
    may_clear xs others me reads =
        let x = reads.2 in
        subst (λ (m : Seated B Q I). Allows (Shows Γ) slots id m (e + 3) (λ _. 0)
        (Clears (step slots (e + 3) 0 0 maybe.none) m)) (sym reads.1)
        (clears Γ slots id e n xs others reads.0 name x.0 x.1 x.2)

  module _ (slots id : ℕ) where
    pub may_mint : (me : Seated B Q I) → Reads me MayMint
        → Allows (Shows Γ) slots id me 0 (λ n. (n + 1) % 18446744073709551616)
        (Mints (step slots 0 1 0 maybe.none) me)
    may_mint = lift slots id 0 (λ n. (n + 1) % 18446744073709551616)
        (Mints (step slots 0 1 0 maybe.none)) MayMint (λ r x. mints Γ slots id r x)

    pub may_burn : (me : Seated B Q I) → Reads me MayBurn
        → Allows (Shows Γ) slots id me 0 (λ n. (n + 18446744073709551615) % 18446744073709551616)
        (Burns (step slots 0 1 0 maybe.none) me)
    may_burn = lift slots id 0 (λ n. (n + 18446744073709551615) % 18446744073709551616)
        (Burns (step slots 0 1 0 maybe.none)) MayBurn (λ r x. burns Γ slots id r x)

    pub may_sleep : (me : Seated B Q I) → Reads me MaySleep
        → Allows (Shows Γ) slots id me 0 (λ n. (n + 18446744073709551615) % 18446744073709551616)
        (Sleeps (step slots 0 1 0 maybe.none) me)
    may_sleep = lift slots id 0 (λ n. (n + 18446744073709551615) % 18446744073709551616)
        (Sleeps (step slots 0 1 0 maybe.none)) MaySleep (λ r x. sleeps Γ slots id r x)

    pub may_end : (me : Seated B Q I) → Reads me IsHere
        → Allows (Shows Γ) slots id me 0 (λ n. n) (Overs (step slots 0 0 0 maybe.none) me)
    may_end = lift slots id 0 (λ n. n) (Overs (step slots 0 0 0 maybe.none)) IsHere
        (λ r x. overs Γ slots id r x)

    pub may_stop : (me : Seated B Q I) → Reads me IsHere
        → Allows (Shows Γ) slots id me 2 (λ n. n) (Stops (step slots 2 0 0 maybe.none) me)
    may_stop = lift slots id 2 (λ n. n) (Stops (step slots 2 0 0 maybe.none)) IsHere
        (λ r x. stops Γ slots id r x)

    pub may_halt : (c : ℕ) (me : Seated B Q I) → Reads me (MayHalt c)
        → Allows (Shows Γ) slots id me 2 (λ n. max n c) (Halts (step slots 2 c 0 maybe.none) me)
    may_halt c = lift slots id 2 (λ n. max n c) (Halts (step slots 2 c 0 maybe.none)) (MayHalt c)
        (λ r x. halts Γ slots id c r x.0 x.1 x.2)

    pub may_settle : {V : Type 0} (value : Q → I → V) (combine : V → V → V) (unit gain : V)
        (gains : List V) → gain ∷ [] ≡ gains → (done : ℕ) (rest : List I) (me : Seated B Q I)
        → Reads me (MaySettle Γ.children value combine unit done rest gain)
        → Allows (Shows Γ) slots id me 1 (λ n. (n + done) % 18446744073709551616)
        (Settles Γ.children value combine unit rest gains (step slots 1 done 0 maybe.none) me)
    may_settle value combine unit gain gains is done rest =
        lift slots id 1 (λ n. (n + done) % 18446744073709551616)
        (Settles Γ.children value combine unit rest gains (step slots 1 done 0 maybe.none))
        (MaySettle Γ.children value combine unit done rest gain)
        (λ r x. settles Γ value combine unit gains slots id done x.5.0 rest r x.0 x.1 x.2 x.3 x.4
        x.5.1 x.5.2 (sym is ∙ ap (λ v. v ∷ []) x.5.3))
