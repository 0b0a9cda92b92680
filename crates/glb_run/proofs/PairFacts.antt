-- Lists of two members, and two places made of them.
use Rattle.std.specs.Prelude.{All, Bool}
use Rattle.std.proofs.Common.{◌≡◌, ◌∙◌, ℕ, zero, suc, ◌<◌, List, [], ◌∷◌, map, get_or, ap, arith, refl, sym, subst}
use Rattle.glb_cube.specs.Lines.{Cube}
use Rattle.glb_rules.specs.declared.params.Params.{Params}
use Rattle.glb_place.specs.declared.record.Record.{Record}
use Rattle.glb_place.specs.Calls.{SameObject}
use Rattle.glb_place.specs.Records.{IsFirst}
use Rattle.glb_run.specs.inner.Plays.{AreFirst, AreSameObjects}

-- both places are at the start
pub both_first : {I B F : Type 0} (items : B → List I) (kept : F → Record I) (lines : Cube)
    (params : Params) (bags : List B) (fabrics : List F) (b0 b1 : B) (f0 f1 : F)
    → AreFirst lines params (map items bags) (map kept fabrics)
    → bags ≡ b0 ∷ b1 ∷ [] → fabrics ≡ f0 ∷ f1 ∷ []
    → IsFirst lines params 0 (items b0) (kept f0) × IsFirst lines params 1 (items b1) (kept f1)
both_first items kept lines params bags fabrics b0 b1 f0 f1 first e g =
    let h =
    subst (λ xs. AreFirst lines params xs (map kept (f0 ∷ f1 ∷ []))) (ap (map items) e)
    (subst (λ ys. AreFirst lines params (map items bags) ys) (ap (map kept) g) first)
    in (h.each 0 (kept f0) (omega arith), h.each 1 (kept f1) (omega arith))

-- what holds of all members holds of both
pub both_have : {A : Type 0} (P : A → Type 0) (xs : List A) (a b : A) → All P xs
    → xs ≡ a ∷ b ∷ [] → P a × P b
both_have P xs a b h e =
    let all = subst (All P) e h in (all 0 a (omega arith), all 1 a (omega arith))

module _ {F H Q : Type 0} (program : F → Q) (home : F → H) (refuses : F → Bool) where
  -- an object is itself
  pub same_self : (f : F) → SameObject program home refuses f f
  same_self f = record { program_stays = refl; home_stays = refl; refuses_stays = refl }

  -- and what is the same as one that is the same
  pub same_then : (f m l : F) → SameObject program home refuses f m
      → SameObject program home refuses m l → SameObject program home refuses f l
  same_then f m l a b = record {
    program_stays = b.program_stays ∙ a.program_stays;
    home_stays = b.home_stays ∙ a.home_stays;
    refuses_stays = b.refuses_stays ∙ a.refuses_stays;
  }

  -- both objects are the same
  pub both_same : (old new : List F) (f0 f1 l0 l1 : F) → old ≡ f0 ∷ f1 ∷ []
      → new ≡ l0 ∷ l1 ∷ [] → SameObject program home refuses f0 l0
      → SameObject program home refuses f1 l1
      → AreSameObjects program home refuses old new
  both_same old new f0 f1 l0 l1 e g a b =
      subst (λ xs. AreSameObjects program home refuses xs new) (sym e)
      (subst (λ ys. AreSameObjects program home refuses (f0 ∷ f1 ∷ []) ys) (sym g)
      (record { many = refl; each = by_number }))
    where
      by_number : (p : ℕ) (d : F) → p < 2
          → SameObject program home refuses (get_or (f0 ∷ f1 ∷ []) p d)
          (get_or (l0 ∷ l1 ∷ []) p d)
      by_number zero d l = a
      by_number (suc zero) d l = b
      by_number (suc (suc p)) d l = absurd (omega arith)
