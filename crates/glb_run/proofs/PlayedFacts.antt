-- Places made of bags and fabrics, and what they leave when they are taken apart.
use Rattle.std.proofs.Common.{◌≡◌, ℕ, ◌<◌, List, [], ◌∷◌, ◌++◌, length, map, get_or}
use Rattle.std.proofs.Common.{refl, sym, ap, subst, ◌∙◌, arith, length-append}
use Rattle.std.specs.Prelude.{All, Bool, IfOk, Result, Ok, Err, fold}
use Rattle.std.specs.List.{flat_map}
use Rattle.std.proofs.lemmas.List.{append-nil, get_or_at, get_or-map, length-map, map_push}
use Rattle.std.proofs.lemmas.List.{nil_from_length}
use Rattle.std.proofs.lemmas.List.Elements.{All-head, All-tail, All-weaker}
use Rattle.glb_laws.specs.Expansion.{combined}
use Rattle.glb_cube.specs.Lines.{Cube}
use Rattle.glb_rules.specs.declared.params.Params.{Params}
use Rattle.glb_place.specs.declared.record.Record.{Record}
use Rattle.glb_place.specs.Calls.{SameObject}
use Rattle.glb_place.specs.Close.{done_of}
use Rattle.glb_place.specs.Records.{IsFirst}
use Rattle.glb_run.specs.inner.Plays.{AreFirst, AreSameObjects}

-- what holds of all members holds of the one at the end of the front
pub at_end : {A : Type 0} (P : A → Type 0) (whole front rest : List A) (x : A)
    → whole ≡ front ++ x ∷ rest → All P whole → P x
at_end P whole front rest x e h =
    let l : length front < length whole =
    omega (arith, ap length e, length-append front (x ∷ rest))
    in
    subst P
    (ap (λ xs. get_or xs (length front) x) e ∙ get_or_at front x rest x (length front) refl)
    (h (length front) x l)

-- the place that is made next is at the start
pub first_next : {I B F : Type 0} (items : B → List I) (kept : F → Record I) (lines : Cube)
    (params : Params) (bags front rest : List B) (bag : B) (fabrics before after : List F)
    (fabric : F) (number : ℕ)
    → AreFirst lines params (map items bags) (map kept fabrics)
    → bags ≡ front ++ bag ∷ rest → fabrics ≡ before ++ fabric ∷ after
    → length front ≡ number → length before ≡ number
    → IsFirst lines params number (items bag) (kept fabric)
first_next items kept lines params bags front rest bag fabrics before after fabric number first e f
    m n =
    let lb : number < length bags = omega (arith, ap length e, length-append front (bag ∷ rest)) in
    let lf : number < length fabrics =
    omega (arith, ap length f, length-append before (fabric ∷ after))
    in
    let own : get_or (map items bags) number [] ≡ items bag =
    get_or-map items bags number bag [] lb
    ∙ ap items (ap (λ xs. get_or xs number bag) e ∙ get_or_at front bag rest bag number m)
    in
    let record_is : get_or (map kept fabrics) number (kept fabric) ≡ kept fabric =
    get_or-map kept fabrics number fabric (kept fabric) lf
    ∙ ap kept (ap (λ xs. get_or xs number fabric) f ∙ get_or_at before fabric after fabric number n)
    in
    let here : number < length (map kept fabrics) = omega (arith, length-map fabrics kept) in
    subst (λ b. IsFirst lines params number b (kept fabric)) own
    (subst (λ r. IsFirst lines params number (get_or (map items bags) number []) r) record_is
    (first.each number (kept fabric) here))

-- there is a fabric for each bag
pub none_without : {A B : Type 0} (bags yielded rest : List A) (fabrics before left : List B)
    (n : ℕ)
    → bags ≡ yielded ++ rest → fabrics ≡ before ++ left → length before ≡ length yielded
    → length bags ≡ n → length fabrics ≡ n → length left ≡ 0 → 0 < length rest
    → ⊥
none_without bags yielded rest fabrics before left n e f m b d none some =
    omega (
      arith,
      ap length e,
      ap length f,
      length-append yielded rest,
      length-append before left,
    )

-- a front that is as long as the list is the list
pub whole_front : {A : Type 0} (whole front rest : List A) → whole ≡ front ++ rest
    → length front ≡ length whole
    → front ≡ whole
whole_front whole front rest e n =
    sym (e ∙ ap (λ l. front ++ l) (nil_from_length rest
    (omega (arith, ap length e, length-append front rest)))
    ∙ append-nil front)

-- what holds of all members of a mapped list
pub unmapped : {A B : Type 0} (P : B → Type 0) (f : A → B) (xs : List A) → All P (map f xs)
    → All (λ x. P (f x)) xs
unmapped P f xs h k d l =
    subst P (get_or-map f xs k d (f d) l) (h k (f d) (omega (arith, length-map xs f)))

-- one more on a list and on the list that it is mapped to
pub mapped_more : {A B : Type 0} (f : A → B) (xs : List A) (x : A) (ys zs : List B) (y : B)
    → ys ≡ map f xs → y ≡ f x → zs ≡ ys ++ y ∷ []
    → zs ≡ map f (xs ++ x ∷ [])
mapped_more f xs x ys zs y e is more =
    more ∙ ap (λ l. l ++ y ∷ []) e ∙ ap (λ z. map f xs ++ z ∷ []) is ∙ sym (map_push f xs x)

-- a list that is mapped twice
pub mapped_twice : {A B C : Type 0} (f : A → B) (h : B → C) (xs : List A)
    → map h (map f xs) ≡ map (λ x. h (f x)) xs
mapped_twice f h [] = refl
mapped_twice f h (x ∷ xs) = ap (λ ys. h (f x) ∷ ys) (mapped_twice f h xs)

-- what follows from two facts on an answer
pub ok_both : {T E : Type 0} (r : Result T E) (P Q S : T → Type 0) → IfOk r P → IfOk r Q
    → ((x : T) → P x → Q x → S x) → IfOk r S
ok_both (Ok x) P Q S p q h = h x p q
ok_both (Err e) P Q S p q h = tt

-- a list with a place below its length has a member
pub some_member : {A : Type 0} (xs : List A) (p : ℕ) → p < length xs → A
some_member [] p l = absurd (omega arith)
some_member (x ∷ xs) p l = x

-- objects that are the same by their holders are the same by number
pub same_held : {A F H Q : Type 0} (program : F → Q) (home : F → H) (refuses : F → Bool)
    (held : A → F) (old new : List A) (fabrics left : List F)
    → fabrics ≡ map held old → left ≡ map held new → length new ≡ length old
    → ((i : ℕ) (d : A) → i < length old
    → SameObject program home refuses (held (get_or old i d)) (held (get_or new i d)))
    → AreSameObjects program home refuses fabrics left
same_held program home refuses held old new fabrics left e f n h = record {
  many = ap length f ∙ length-map new held ∙ n ∙ sym (ap length e ∙ length-map old held);
  each = λ p d l.
      let lo : p < length old = omega (arith, ap length e, length-map old held) in
      let x = some_member old p lo in
      let a : held (get_or old p x) ≡ get_or fabrics p d =
      sym (ap (λ xs. get_or xs p d) e ∙ get_or-map held old p x d lo)
      in
      let b : held (get_or new p x) ≡ get_or left p d =
      sym (ap (λ xs. get_or xs p d) f ∙ get_or-map held new p x d (omega (arith, n)))
      in
      subst (λ y. SameObject program home refuses (get_or fabrics p d) y) b
      (subst (λ y. SameObject program home refuses y (held (get_or new p x))) a (h p x lo));
}

-- and all are of the program that the old ones were of
pub same_programs : {F H Q : Type 0} (program : F → Q) (home : F → H) (refuses : F → Bool)
    (old new : List F) (q : Q)
    → AreSameObjects program home refuses old new → All (λ f. q ≡ program f) old
    → All (λ f. program f ≡ q) new
same_programs program home refuses old new q same h k d l =
    let lo : k < length old = omega (arith, same.many) in
    (same.each k d lo).program_stays ∙ sym (h k d lo)

module _ {A V : Type 0} where
  -- a fold stays where each of its steps does
  fold_same : (f g : V → A → V) (xs : List A) → All (λ x. (a : V) → f a x ≡ g a x) xs → (a : V)
      → fold f a xs ≡ fold g a xs
  fold_same f g [] h a = refl
  fold_same f g (x ∷ xs) h a =
      ap (λ b. fold f b xs) (All-head (λ x. (a : V) → f a x ≡ g a x) x xs h a)
      ∙ fold_same f g xs (All-tail (λ x. (a : V) → f a x ≡ g a x) x xs h) (g a x)

  -- a fold over a mapped list
  fold_mapped : {B : Type 0} (f : V → B → V) (m : A → B) (xs : List A) (a : V)
      → fold f a (map m xs) ≡ fold (λ b x. f b (m x)) a xs
  fold_mapped f m [] a = refl
  fold_mapped f m (x ∷ xs) a = fold_mapped f m xs (f a (m x))

module _ {I V F Q : Type 0} (kept : F → Record I) (program_of : F → Q) (value : Q → I → V)
    (combine : V → V → V) (unit : V) where
  -- the combination over what the place of a fabric did
  abbrev pub value_left : F → V
  value_left f = combined (value (program_of f)) combine unit (done_of (kept f))

  -- the values of fabrics of one program, combined, are the combination over all items done
  pub total_left : (q : Q) (fabrics : List F) → All (λ f. program_of f ≡ q) fabrics
      → ((rs : List (Record I)) (own : Record I → V)
      → All (λ r. own r ≡ combined (value q) combine unit (done_of r)) rs
      → fold (λ a r. combine a (own r)) unit rs
      ≡ combined (value q) combine unit (flat_map done_of rs))
      → fold (λ a f. combine a (value_left f)) unit fabrics
      ≡ combined (value q) combine unit (flat_map done_of (map kept fabrics))
  total_left q fabrics h law =
      let own : Record I → V = λ r. combined (value q) combine unit (done_of r) in
      fold_same (λ a f. combine a (value_left f)) (λ a f. combine a (own (kept f))) fabrics
      (All-weaker (λ f. program_of f ≡ q)
      (λ f. (a : V) → combine a (value_left f) ≡ combine a (own (kept f)))
      (λ f e a. ap (λ x. combine a (combined (value x) combine unit (done_of (kept f)))) e)
      fabrics h)
      unit
      ∙ sym (fold_mapped (λ a r. combine a (own r)) kept fabrics unit)
      ∙ law (map kept fabrics) own (λ k d l. refl)
