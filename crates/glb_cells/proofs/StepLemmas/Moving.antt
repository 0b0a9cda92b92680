-- The steps of a gift and of its taking, as the table allows them.
use Rattle.std.proofs.Common.{◌≡◌, ℕ, ◌+◌, ◌-◌, ◌<◌, List, [], ◌∷◌, ◌++◌, length, Option, Some, None, refl, subst, arith}
use Rattle.std.specs.Prelude.{slice_index, IsPermutation}
use mathlib.Core.Option.{some}
use mathlib.Core.Option as maybe
use lib.ListN.{get_elem?}
use Rattle.atomic_table.specs.Table.{takes, gives, Allows, step}
use Rattle.glb_rules.specs.declared.local.EdgeName.{EdgeName}
use Rattle.glb_rules.specs.declared.event.Event.TheVariants as event
use Rattle.glb_rules.specs.declared.kinds.Edge.TheVariants as seen
use Rattle.glb_place.specs.Records.{knows, May}
use Rattle.glb_cells.specs.declared.view.View.{View}
use Rattle.glb_cells.specs.Shows.{Fixed, Shows}
use Rattle.glb_cells.specs.Plays.{slots_of, gift_word, begun_on, handed_on, took_on, cleared_on, Begins, Hands, Takes, Clears}
use Rattle.glb_cells.proofs.StepLemmas.Giving.{slot_set, begin_stays, hand_goes, take_goes, clear_stays}

module _ {B Q I : Type 0} (Γ : Fixed B Q I) where
  pub begins_to : (slots id e w : ℕ) (n : EdgeName) (xs : List I) (r : View Q I)
      → get_elem? Γ.names e ≡ some n → r.hand ≡ None
      → May r.own (event.Give n.victim n.thief n.kind)
      → ((rest : List I) × IsPermutation r.own.local.bag (xs ++ rest))
      → gift_word (knows r.own n) ≡ w
      → Allows (Shows Γ) slots id (r ∷ [], slots_of r) (e + 3) (λ _. w)
      (Begins xs (step slots (e + 3) w 0 maybe.none) (r ∷ [], slots_of r))
  begins_to slots id e w n xs r name free may more word s h len at lt =
      let g = begin_stays Γ s h id e n r at name xs free may more in
      let shows = subst (λ y. Shows Γ (slot_set Γ s h id e n r at name y maybe.none
      (begun_on e xs (slice_index s.words (e + 3)) r))) word g.1.0 in
      let back : e ≡ e + 3 - 3 = omega arith in (
        begun_on e xs (slice_index s.words (e + 3)) r ∷ [],
        takes e None,
        g.0,
        shows,
        λ i. (
          begun_on (back i) xs (slice_index s.words (e + 3)) r ∷ [],
          (back i, None) ∷ slots_of r,
        ),
      )

  pub hands_over : (slots id e : ℕ) (n : EdgeName) (xs : List I) (part : B) (rest : List I)
      (others : List (ℕ × Option B)) (r : View Q I)
      → get_elem? Γ.names e ≡ some n → r.hand ≡ Some (e, xs)
      → May r.own (event.Give n.victim n.thief n.kind) → Γ.fits part r.program
      → 0 < length (Γ.items part) → 0 < length rest
      → IsPermutation r.own.local.bag (Γ.items part ++ rest)
      → Allows (Shows Γ) slots id (r ∷ [], (e, Some part) ∷ others) (e + 3) (λ _. 5)
      (Hands Γ.items n (step slots (e + 3) 5 0 maybe.none) (r ∷ [], (e, Some part) ∷ others))
  hands_over slots id e n xs part rest others r name busy may fits some_given some_left all
      s h len at lt =
      let g = hand_goes Γ s h id e n r at name xs part rest busy may fits some_given some_left all
      in
      let back : e ≡ e + 3 - 3 = omega arith in (
        handed_on n (slice_index s.words (e + 3)) (Γ.items part) rest r ∷ [],
        gives,
        tt,
        g.0,
        (r, part, rest, (λ i. (r ∷ [], (back i, Some part) ∷ others)), all, some_left, refl),
      )

  pub takes_it : (slots id e : ℕ) (n : EdgeName) (r : View Q I) → get_elem? Γ.names e ≡ some n
      → r.hand ≡ None → May r.own (event.Take n.thief n.victim n.kind)
      → Allows (Shows Γ) slots id (r ∷ [], slots_of r) (e + 3) (λ _. 6)
      (Takes Γ.items Γ.fits n (step slots (e + 3) 6 0 maybe.none) (r ∷ [], slots_of r))
  takes_it slots id e n r name free may s h len at lt =
      let g = take_goes Γ s h id e n r at name free may in
      let b : B = g.0.part in
      let back : e ≡ e + 3 - 3 = omega arith in (
        took_on n e (slice_index s.words (e + 3)) (Γ.items b) r ∷ [],
        takes e (Some b),
        g.0.at_home,
        g.1.0,
        (
          r,
          b,
          refl,
          g.0.fits,
          g.0.some,
          λ i. (
            took_on n (back i) (slice_index s.words (e + 3))
                (Γ.items b) r ∷ [],
            (back i, Some b) ∷ slots_of r,
          ),
        ),
      )

  pub clears : (slots id e : ℕ) (n : EdgeName) (xs : List I) (others : List (ℕ × Option B))
      (r : View Q I)
      → get_elem? Γ.names e ≡ some n → r.hand ≡ Some (e, xs) → n.thief ≡ r.own.place
      → knows r.own n ≡ seen.Idle
      → Allows (Shows Γ) slots id (r ∷ [], (e, None) ∷ others) (e + 3) (λ _. 0)
      (Clears (step slots (e + 3) 0 0 maybe.none) (r ∷ [], (e, None) ∷ others))
  clears slots id e n xs others r name busy thief knew s h len at lt =
      let g = clear_stays Γ s h id e n r at name xs busy thief knew in
      (cleared_on (slice_index s.words (e + 3)) r ∷ [], gives, tt, g.0, refl)
