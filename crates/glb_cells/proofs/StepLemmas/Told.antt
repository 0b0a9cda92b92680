-- What the two steps of a gift and of its taking tell together.
use Rattle.std.proofs.Common.{◌≡◌, ℕ, ◌+◌, ◌-◌, ◌<◌, List, [], ◌∷◌, ◌++◌, map, get_or, length, Option, Some, None, refl, sym, ap, ◌∙◌, subst, arith}
use mathlib.Core.Option.{some}
use mathlib.Core.Option as maybe
use Rattle.std.specs.Prelude.{IsPermutation}
use Rattle.atomic_table.specs.Table.{rest, step}
use Rattle.glb_rules.specs.declared.local.EdgeName.{EdgeName}
use Rattle.glb_rules.specs.declared.kinds.Edge.TheVariants as seen
use Rattle.glb_place.specs.Records.{knows}
use Rattle.glb_cells.specs.declared.view.View.{View}
use Rattle.glb_cells.specs.Plays.{Seated, Reads, IsFree, slots_of, slots_in, rest_of, OnFirst, begun_on, handed_on, took_on, cleared_on, settled_on, Hands, Takes, Settles}
use Rattle.glb_cells.specs.inner.Ready.{MayGive, MayTake, MaySettle, Gave, Took, Settled}
use Rattle.glb_cells.specs.Shows.{Fixed}
use Rattle.glb_cells.proofs.StepLemmas.Reading.{knows_it}

-- a seat whose view is free holds no slot
no_slots : {Q I : Type 0} (B : Type 0) (r : View Q I) → IsFree r → slots_of {B = B} r ≡ []
no_slots B r free = ap slots_in free

module _ {B Q I : Type 0} (Γ : Fixed B Q I) (n : EdgeName) where
  none_held : (me : Seated B Q I) → Reads me (MayTake n) → me.1 ≡ []
  none_held me may = ap (λ (m : Seated B Q I). m.1) may.1 ∙ no_slots B may.0 may.2.0

  put_is : (e k : ℕ) (part : B) (me me₁ me₂ : Seated B Q I)
      → (may : Reads me (MayGive n (Γ.items part)))
      → me₁ ≡ (map (begun_on e (Γ.items part) k) me.0, (e, None) ∷ me.1)
      → me₂ ≡ (me₁.0, (e, Some part) ∷ rest me₁.1)
      → me₂ ≡ (begun_on e (Γ.items part) k may.0 ∷ [], (e, Some part) ∷ [])
  put_is e k part me me₁ me₂ may begun put =
      put ∙ ap (λ (m : Seated B Q I). (m.0, (e, Some part) ∷ rest m.1)) begun
      ∙ ap (λ (m : Seated B Q I). (map (begun_on e (Γ.items part) k) m.0, (e, Some part) ∷ m.1))
      may.1
      ∙ ap (λ (l : List (ℕ × Option B)). (begun_on e (Γ.items part) k may.0 ∷ [], (e, Some part) ∷ l))
      (no_slots B may.0 may.2.0)

  pub under_way : (e k : ℕ) (part : B) (me me₁ me₂ : Seated B Q I)
      → Reads me (MayGive n (Γ.items part)) → OnFirst (λ r. Γ.fits part r.program) me.0
      → me₁ ≡ (map (begun_on e (Γ.items part) k) me.0, (e, None) ∷ me.1)
      → me₂ ≡ (me₁.0, (e, Some part) ∷ rest me₁.1)
      → (r : View Q I) × (me₂ ≡ (r ∷ [], (e, Some part) ∷ []))
      × ((r.hand ≡ Some (e, Γ.items part))
      × Rattle.glb_place.specs.Records.May r.own
      (Rattle.glb_rules.specs.declared.event.Event.TheVariants.Give n.victim n.thief n.kind)
      × Γ.fits part r.program × (0 < length (Γ.items part))
      × Rattle.glb_place.specs.Calls.HasMore (Γ.items part) r.own)
  under_way e k part me me₁ me₂ may fits begun put =
      let r : View Q I = may.0 in
      let f = may.2 in
      let fit : Γ.fits part r.program = subst (λ (m : Seated B Q I). OnFirst
      (λ r. Γ.fits part r.program) m.0) may.1 fits in (
        begun_on e (Γ.items part) k r,
        put_is e k part me me₁ me₂ may begun put,
        (refl, f.1, fit, f.2, f.3),
      )

  pub gave : (slots e k k' : ℕ) (part : B) (me me₁ me₂ me₃ : Seated B Q I)
      → Reads me (MayGive n (Γ.items part)) → me₁ ≡
      (map (begun_on e (Γ.items part) k) me.0, (e, None) ∷ me.1)
      → me₂ ≡ (me₁.0, (e, Some part) ∷ rest me₁.1)
      → Hands Γ.items n (step slots (e + 3) 5 0 maybe.none) me₂ k' me₃
      → Reads me (λ r. Reads me₃ (Gave n (Γ.items part) r))
  gave slots e k k' part me me₁ me₂ me₃ may begun put told =
      let r : View Q I = may.0 in
      let r₁ : View Q I = begun_on e (Γ.items part) k r in
      let way : me₂ ≡ (r₁ ∷ [], (e, Some part) ∷ []) = put_is e k part me me₁ me₂ may begun put in
      let r₂ : View Q I = told.0 in
      let b : B = told.1 in
      let left : List I = told.2 in
      let i : ℕ = e + 3 - 3 in
      let both : r₁ ∷ [] ≡ r₂ ∷ [] = ap (λ (m : Seated B Q I). m.0) (sym way ∙ told.3) in
      let slots_are : ◌≡◌ {A = List (ℕ × Option B)} ((e, Some part) ∷ [])
      ((i, Some b) ∷ rest_of me₂.1) =
      ap (λ (m : Seated B Q I). m.1) (sym way ∙ told.3) in
      let is : r₁ ≡ r₂ = cc in
      let some_at : Some part ≡ Some b = ap (λ (l : List (ℕ × Option B)). (get_or l 0 (0, None)).1)
      slots_are in
      let at : part ≡ b = cc in
      let own : handed_on n k' (Γ.items b) left r₂ ≡ handed_on n k' (Γ.items part) left r₁ =
      λ j. handed_on n k' (Γ.items (sym at j)) left (sym is j) in (
        r,
        may.1,
        (
          handed_on n k' (Γ.items part) left r₁,
          told.6 ∙ (λ j. (own j ∷ [], rest_of (way j).1)),
          (
            (
              left,
              subst (λ (l : List I). IsPermutation r.own.local.bag (l ++ left))
                  (ap Γ.items (sym at)) (subst (λ (x : View Q I). IsPermutation x.own.local.bag
                  (Γ.items b ++ left)) (sym is) told.4),
              told.5,
              refl,
            ),
            refl,
            refl,
            omega arith,
          ),
        ),
      )

  taken_is : (slots e k : ℕ) (part : Option B) (me me₁ me₂ : Seated B Q I)
      → (may : Reads me (MayTake n)) → (told : Takes Γ.items Γ.fits n
      (step slots (e + 3) 6 0 maybe.none) me k me₁)
      → me₂ ≡ (me₁.0, (e, None) ∷ rest me₁.1) → me₂ ≡
      (took_on n e k (Γ.items told.1) may.0 ∷ [], (e, None) ∷ [])
  taken_is slots e k part me me₁ me₂ may told put =
      let r : View Q I = may.0 in
      let r₂ : View Q I = told.0 in
      let i : ℕ = e + 3 - 3 in
      let both : r ∷ [] ≡ r₂ ∷ [] = ap (λ (m : Seated B Q I). m.0) (sym may.1) ∙ told.2 in
      let is : r ≡ r₂ = cc in
      let back : i ≡ e = omega arith in
      let xs : List I = Γ.items told.1 in
      let F : ℕ → View Q I → Seated B Q I = λ y x. (took_on n y k xs x ∷ [], (e, None) ∷ []) in
      let one : me₂ ≡ F i r₂ = put ∙ ap (λ (m : Seated B Q I). (m.0, (e, None) ∷ rest m.1))
      told.5 ∙ ap (λ (l : List (ℕ × Option B)). (took_on n i k xs r₂ ∷ [], (e, None) ∷ l))
      (none_held me may) in
      one ∙ ap (F i) (sym is) ∙ ap (λ (y : ℕ). F y r) back

  pub in_hand : (slots e k : ℕ) (part : Option B) (me me₁ me₂ : Seated B Q I) → Reads me (MayTake n)
      → (told : Takes Γ.items Γ.fits n (step slots (e + 3) 6 0 maybe.none) me k me₁)
      → me₂ ≡ (me₁.0, (e, None) ∷ rest me₁.1)
      → (r : View Q I) × (me₂ ≡ (r ∷ [], (e, None) ∷ [])) × ((r.hand ≡ Some (e, Γ.items told.1))
      × (n.thief ≡ r.own.place) × (knows r.own n ≡ seen.Idle))
  in_hand slots e k part me me₁ me₂ may told put =
      let r : View Q I = may.0 in (
        took_on n e k (Γ.items told.1) r,
        taken_is slots e k part me me₁ me₂ may told put,
        (refl, may.2.1.0, knows_it r.own n seen.Idle),
      )

  took : (slots e k k' : ℕ) (part : Option B) (me me₁ me₂ me₃ : Seated B Q I) → Reads me (MayTake n)
      → Takes Γ.items Γ.fits n (step slots (e + 3) 6 0 maybe.none) me k me₁
      → me₁.1 ≡ (e, part) ∷ rest me₁.1 → me₂ ≡ (me₁.0, (e, None) ∷ rest me₁.1)
      → me₃ ≡ (map (cleared_on k') me₂.0, rest_of me₂.1)
      → (b : B) × (part ≡ Some b) × Reads me (λ r. Γ.fits b r.program × (0 < length (Γ.items b))
      × Reads me₃ (Took n (Γ.items b) r))
  took slots e k k' part me me₁ me₂ me₃ may told was put last =
      let r : View Q I = may.0 in
      let r₂ : View Q I = told.0 in
      let both : r ∷ [] ≡ r₂ ∷ [] = ap (λ (m : Seated B Q I). m.0) (sym may.1) ∙ told.2 in
      let is : r ≡ r₂ = cc in
      let i : ℕ = e + 3 - 3 in
      let b : B = told.1 in
      let slot : (i, Some b) ∷ me.1 ≡ (e, part) ∷ rest me₁.1 =
      sym (ap (λ (m : Seated B Q I). m.1) told.5) ∙ was in
      let got : Some b ≡ part = ap (λ (l : List (ℕ × Option B)). (get_or l 0 (0, None)).1) slot in
      let way : me₂ ≡ (took_on n e k (Γ.items b) r ∷ [], (e, None) ∷ []) =
      taken_is slots e k part me me₁ me₂ may told put in (
        b,
        sym got,
        (
          r,
          may.1,
          (
            subst (λ (x : View Q I). Γ.fits b x.program) (sym is) told.3,
            told.4,
            (
              cleared_on k' (took_on n e k (Γ.items b) r),
              last
                  ∙ ap (λ (m : Seated B Q I). (map (cleared_on k') m.0, rest_of m.1)) way,
              (refl, refl, refl, omega arith),
            ),
          ),
        ),
      )

  pub slot_out : (slots e k : ℕ) (me me₁ : Seated B Q I)
      → Takes Γ.items Γ.fits n (step slots (e + 3) 6 0 maybe.none) me k me₁ → (x : Option B)
      × (me₁.1 ≡ (e, x) ∷ rest me₁.1)
  slot_out slots e k me me₁ told =
      let back : e + 3 - 3 ≡ e = omega arith in (
        Some told.1,
        ap (λ (m : Seated B Q I). m.1) told.5
            ∙ ap (λ (y : ℕ). (y, Some told.1) ∷ me.1) back
            ∙ ap (λ (l : List (ℕ × Option B)). (e, Some told.1) ∷ rest l)
            (sym (ap (λ (m : Seated B Q I). m.1) told.5)),
      )

  pub given : (slots e k k' : ℕ) (part : Option B) (result : B) (me me₁ me₂ me₃ : Seated B Q I)
      → Reads me (MayTake n) → Takes Γ.items Γ.fits n (step slots (e + 3) 6 0 maybe.none) me k me₁
      → me₁.1 ≡ (e, part) ∷ rest me₁.1 → me₂ ≡ (me₁.0, (e, None) ∷ rest me₁.1)
      → me₃ ≡ (map (cleared_on k') me₂.0, rest_of me₂.1) → part ≡ Some result
      → Reads me (λ r. Γ.fits result r.program × (0 < length (Γ.items result))
      × Reads me₃ (Took n (Γ.items result) r))
  given slots e k k' part result me me₁ me₂ me₃ may told was put last is =
      let t = took slots e k k' part me me₁ me₂ me₃ may told was put last in
      let same : Some t.0 ≡ Some result = sym t.1 ∙ is in
      let eq : t.0 ≡ result = cc in
      subst (λ (b : B). Reads me (λ r. Γ.fits b r.program × (0 < length (Γ.items b))
      × Reads me₃ (Took n (Γ.items b) r))) eq t.2

first_same : {A : Type 0} (a b : A) → a ∷ [] ≡ b ∷ [] → a ≡ b
first_same a b e = cc

module _ {B Q I V : Type 0} (children : Q → I → List I) (value : Q → I → V) (combine : V → V → V)
    (unit gain : V) where
  -- what a settle tells
  pub settled_by : (slots done k : ℕ) (left : List I) (me me' : Seated B Q I)
      → Reads me (MaySettle children value combine unit done left gain)
      → Settles children value combine unit left (gain ∷ []) (step slots 1 done 0 maybe.none) me k
      me'
      → Reads me (λ r. Reads me' (Settled children value unit combine done left gain k r))
  settled_by slots done k left me me' may t =
      let both : t.0 ∷ [] ≡ may.0 ∷ [] = sym t.2 ∙ ap (λ (m : Seated B Q I). m.0) may.1 in
      let is : may.0 ≡ t.0 = cc in
      let seat : me ≡ (t.0 ∷ [], slots_of t.0) =
      may.1 ∙ ap (λ (r : View Q I). (r ∷ [], slots_of r)) is in
      let free : t.0.hand ≡ None = ap (λ (r : View Q I). r.hand) (sym is) ∙ may.2.0 in (
        t.0,
        seat,
        (
          settled_on k done t.1 left t.0,
          t.6 ∙ ap (λ (m : Seated B Q I). (settled_on k done t.1 left t.0 ∷ [], m.1)) seat,
          ((t.1, t.4, t.3, first_same gain _ t.5, refl), refl, free, refl, refl, t.7),
        ),
      )
