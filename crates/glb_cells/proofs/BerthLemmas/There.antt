-- The edges that a call speaks of are there.
use Rattle.std.proofs.Common.{Bool, false, not, get_or, List, [], ◌∷◌, Option, cond, refl, ap, ◌≡◌, ◌≢◌, ◌⊎◌, inl, inr, ⊎_elim, ℕ, true, sym, ◌∙◌, subst}
use Rattle.glb_rules.specs.World.{Asked, Refused, has_edge}
use Rattle.glb_rules.specs.declared.event.Event.TheVariants as event
use Rattle.glb_rules.specs.declared.kinds.Kind.{Kind}
use Rattle.glb_rules.specs.declared.kinds.Kind.TheVariants as kind
use Rattle.glb_rules.specs.declared.kinds.Edge.{Edge}
use Rattle.glb_rules.specs.declared.kinds.Edge.TheVariants as seen
use Rattle.glb_place.specs.Records.{known_at, setup_in, edge_like, May}
use Rattle.glb_place.specs.declared.record.Record.{Record}
use Rattle.glb_cells.specs.declared.view.View.{View}
use Rattle.glb_cells.specs.Plays.{Seated, gift_word}
use Rattle.glb_cells.specs.inner.Numbers.{word_of_gift}
use Rattle.glb_cells.specs.inner.Keeping.{Listed, AreHeld, is_refused}
use Rattle.glb_cells.proofs.StepLemmas.Reading.{is_asked_in, is_refused_in, is_loot_in}

module _ {I : Type 0} (r : Record I) (listed : Listed r) where
  known_there : (k : Kind) (t v : ℕ) (x : Edge) → known_at r.known k t v ≡ x → x ≢ seen.Idle
      → has_edge (setup_in r) k t v ≡ true
  known_there k t v x e d = listed k t v (λ z. d (sym e ∙ z))

  pub there_ask : (k : Kind) (t v : ℕ) → May r (event.Ask t v k)
      → has_edge (setup_in r) k t v ≡ true
  there_ask kind.Steal t v m = m.2.2
  there_ask kind.Line t v m = m.2.2

  pub there_deny : (k : Kind) (t v : ℕ) → May r (event.Deny v t k)
      → has_edge (setup_in r) k t v ≡ true
  there_deny k t v m = known_there k t v seen.Asked
      (is_asked_in {I = I} (known_at r.known k t v) m.2.0) (λ z. cc)

  pub there_take : (k : Kind) (t v : ℕ) → May r (event.Take t v k)
      → has_edge (setup_in r) k t v ≡ true
  there_take k t v m = known_there k t v seen.Loot
      (is_loot_in {I = I} (known_at r.known k t v) m.2.0.0 m.2.0.1) (λ z. cc)

  pub there_shrug : (k : Kind) (t v : ℕ) → May r (event.Shrug t v k)
      → has_edge (setup_in r) k t v ≡ true
  there_shrug k t v m = known_there k t v seen.Refused
      (is_refused_in {I = I} (known_at r.known k t v) m.2.1) (λ z. cc)

  -- a thief that waits for a part is known as Asked, or over a line as Refused
  pub known_give : (k : Kind) (t v : ℕ) → May r (event.Give v t k)
      → (known_at r.known k t v ≡ seen.Asked) ⊎ ((k ≡ kind.Line)
      × (known_at r.known k t v ≡ seen.Refused))
  known_give k t v m = ⊎_elim
      (λ (y : edge_like {I = I} (known_at r.known k t v) ≡ Asked). inl
      (is_asked_in {I = I} (known_at r.known k t v) y))
      (λ (y : (k ≡ kind.Line) × (edge_like {I = I} (known_at r.known k t v) ≡ Refused)). inr
      (y.0, is_refused_in {I = I} (known_at r.known k t v) y.1))
      m.2.2

  pub there_give : (k : Kind) (t v : ℕ) → May r (event.Give v t k)
      → has_edge (setup_in r) k t v ≡ true
  there_give k t v m = ⊎_elim
      (λ (y : known_at r.known k t v ≡ seen.Asked). known_there k t v seen.Asked y (λ z. cc))
      (λ (y : (k ≡ kind.Line) × (known_at r.known k t v ≡ seen.Refused)). known_there k t v
      seen.Refused y.1 (λ z. cc))
      (known_give k t v m)

  -- the word that begins a gift, by the lines that are held
  pub begins_as : (held : List Bool) → AreHeld held r → (k : Kind) (t p : ℕ) → p ≡ r.place
      → May r (event.Give p t k)
      → has_edge (setup_in r) k t p ≡ true → gift_word (known_at r.known k t p) ≡ word_of_gift k t
      held
  begins_as held h k t p at m there = by k there (known_give k t p m)
    where
      by : (k : Kind) → has_edge (setup_in r) k t p ≡ true → (known_at r.known k t p ≡ seen.Asked)
          ⊎ ((k ≡ kind.Line) × (known_at r.known k t p ≡ seen.Refused))
          → gift_word (known_at r.known k t p) ≡ word_of_gift k t held
      by kind.Steal there (inl e) = ap gift_word e
      by kind.Steal there (inr e) = absurd (cc)
      by kind.Line there x = ⊎_elim
          (λ (e : known_at r.known kind.Line t p ≡ seen.Asked). ap gift_word e
          ∙ sym (ap (λ b. cond b 4 3) (is there ∙ ap is_refused e)))
          (λ (e : (kind.Line ≡ kind.Line) × (known_at r.known kind.Line t p ≡ seen.Refused)). ap
          gift_word e.1 ∙ sym (ap (λ b. cond b 4 3) (is there ∙ ap is_refused e.1)))
          x
        where
          is : has_edge (setup_in r) kind.Line t p ≡ true
              → get_or held t false ≡ is_refused (known_at r.known kind.Line t p)
          is y = subst (λ q. get_or held t false ≡ is_refused (known_at r.known kind.Line t q))
              (sym at) (h t (subst (λ q. has_edge (setup_in r) kind.Line t q ≡ true) at y))

-- a seat has one view
pub one_view : {B Q I : Type 0} {c d : List (ℕ × Option B)} (me : Seated B Q I) (r r' : View Q I)
    → me ≡ (r ∷ [], c) → me ≡ (r' ∷ [], d) → r ≡ r'
one_view me r r' a b = let e : r ∷ [] ≡ r' ∷ [] = ap (λ (m : Seated _ _ _). m.0) (sym a ∙ b) in cc

pub not_true : (b : Bool) → not b ≡ true → b ≡ false
not_true true e = absurd (cc)
not_true false e = refl

pub not_false : (b : Bool) → not b ≡ false → b ≡ true
not_false true e = refl
not_false false e = absurd (cc)
