-- Places of a list that take turns one after the other.
use Rattle.std.specs.Prelude.{All, Bool}
use Rattle.std.proofs.Common.{◌≡◌, ◌∙◌, ◌⊎◌, ℕ, ◌+◌, ◌<◌, List, get_or, length, set}
use Rattle.std.proofs.Common.{ap, arith, inl, inr, sym, subst}
use Rattle.std.proofs.lemmas.Bool.{cases_eq}
use Rattle.std.proofs.lemmas.List.{get_or-set_same, get_or-set_other}
use Rattle.glb_place.specs.Calls.{SameObject}
use Rattle.glb_run.proofs.PairFacts.{same_then}

module _ {A F H Q : Type 0} (program : F → Q) (home : F → H) (refuses : F → Bool) (held : A → F)
  where
    -- what each holds is the same object as before
    abbrev pub HoldSame : List A → List A → Type 0
    HoldSame old new = (i : ℕ) (d : A) → i < length old
        → SameObject program home refuses (held (get_or old i d)) (held (get_or new i d))

    pub hold_then : (old mid new : List A) → length mid ≡ length old → HoldSame old mid
        → HoldSame mid new
        → HoldSame old new
    hold_then old mid new n a b = λ i d l. same_then program home refuses (held (get_or old i d))
        (held (get_or mid i d)) (held (get_or new i d)) (a i d l) (b i d (omega (arith, n)))

    -- one of them took a turn
    pub hold_more : (old new : List A) (k : ℕ) (x y : A) → k < length new → HoldSame old new
        → ((d : A) → get_or new k d ≡ x)
        → SameObject program home refuses (held x) (held y)
        → HoldSame old (set new k y)
    hold_more old new k x y l h is s = λ i d m. at i d m (cases_eq i k)
      where
        at : (i : ℕ) (d : A) → i < length old → (i ≡ k) ⊎ (i ≡ k → ⊥)
            → SameObject program home refuses (held (get_or old i d)) (held (get_or (set new k y) i d))
        at i d m (inl q) =
            let before : get_or new i d ≡ x = ap (λ j. get_or new j d) q ∙ is d in
            let after : get_or (set new k y) i d ≡ y =
            ap (λ j. get_or (set new k y) j d) q ∙ get_or-set_same new k y d l
            in
            subst (λ z. SameObject program home refuses (held (get_or old i d)) (held z)) (sym after)
            (same_then program home refuses (held (get_or old i d)) (held x) (held y)
            (subst (λ z. SameObject program home refuses (held (get_or old i d)) (held z)) before
            (h i d m))
            s)
        at i d m (inr q) =
            subst (λ z. SameObject program home refuses (held (get_or old i d)) (held z))
            (sym (get_or-set_other new k i y d q)) (h i d m)

    -- of one program they stay
    pub programs_stay : (q : Q) (old new : List A) → length new ≡ length old → HoldSame old new
        → All (λ a. q ≡ program (held a)) old
        → All (λ a. q ≡ program (held a)) new
    programs_stay q old new n h all = λ i d l.
        let m : i < length old = omega (arith, n) in all i d m ∙ sym (h i d m).program_stays

-- the front has ended, and so has the next
pub ended_more : {A : Type 0} (HasEnded : A → Type 0) (list : List A) (k : ℕ) (y : A)
    → k < length list → ((i : ℕ) (d : A) → i < k → HasEnded (get_or list i d)) → HasEnded y
    → (i : ℕ) (d : A) → i < k + 1 → HasEnded (get_or (set list k y) i d)
ended_more HasEnded list k y l h e i d m = at (cases_eq i k)
  where
    at : (i ≡ k) ⊎ (i ≡ k → ⊥) → HasEnded (get_or (set list k y) i d)
    at (inl q) = subst HasEnded
        (sym (ap (λ j. get_or (set list k y) j d) q ∙ get_or-set_same list k y d l)) e
    at (inr q) = subst HasEnded (sym (get_or-set_other list k i y d q))
        (h i d (omega (arith, q)))
