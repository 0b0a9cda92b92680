-- Words, slots at home and views show one world.
use Rattle.std.proofs.Common.{◌≡◌, ℕ, suc, List, [], ◌∷◌, map, drop, get_or, Option, Some, None, refl, sym, ap, ◌∙◌, subst}
use Rattle.std.specs.Prelude.{if◌then◌else◌, nat_eq}
use mathlib.Core.Option.{some, some-injective, some-ne-none}
use mathlib.Core.Option as maybe
use lib.ListN.{get_elem?}
use Rattle.atomic_table.specs.Table.{State}
use Rattle.glb_cells.specs.declared.view.View.{View}
use Rattle.glb_cells.specs.Words.{Cell, empty, wanted, denied, wanted_gift, denied_gift, full, emptied, word_of, slot_of}
use Rattle.glb_cells.specs.Shows.{Fixed, first, shown, Shows, world_of}

same_list : {A : Type 0} (l m : List A) → ((i : ℕ) (a : A) → get_elem? l i ≡ some a
    → get_elem? m i ≡ some a) → ((i : ℕ) (a : A) → get_elem? m i ≡ some a → get_elem? l i ≡ some a)
    → l ≡ m
same_list [] [] f g = refl
same_list [] (y ∷ m) f g = absurd (some-ne-none y (sym (g 0 y refl)))
same_list (x ∷ l) [] f g = absurd (some-ne-none x (sym (f 0 x refl)))
same_list (x ∷ l) (y ∷ m) f g = λ i. some-injective x y (sym (f 0 x refl)) i ∷ same_list l m
    (λ j a. f (suc j) a) (λ j a. g (suc j) a) i

module _ {B : Type 0} where
  abbrev cell_of : ℕ → maybe.Option (Option B) → Cell B
  cell_of n (some (Some b)) = full b
  cell_of n (some None) = if nat_eq n 0 then empty else (if nat_eq n 1 then wanted else denied)
  cell_of n maybe.none = if nat_eq n 3 then wanted_gift else
      (if nat_eq n 4 then denied_gift else emptied)

  cell_back : (c : Cell B) → cell_of (word_of c) (slot_of c) ≡ c
  cell_back empty = refl
  cell_back wanted = refl
  cell_back denied = refl
  cell_back wanted_gift = refl
  cell_back denied_gift = refl
  cell_back (full b) = refl
  cell_back emptied = refl

  abbrev cells_of : List ℕ → List (maybe.Option (Option B)) → List (Cell B)
  cells_of [] hs = []
  cells_of (n ∷ ns) [] = []
  cells_of (n ∷ ns) (h ∷ hs) = cell_of n h ∷ cells_of ns hs

  cells_back : (cs : List (Cell B)) → cells_of (map word_of cs) (map slot_of cs) ≡ cs
  cells_back [] = refl
  cells_back (c ∷ cs) = λ i. cell_back c i ∷ cells_back cs i

module _ {B Q I : Type 0} (Γ : Fixed B Q I) where
  -- a record of the one is a record of the other
  into : (s : State (Option B) (List (View Q I))) (h k : Shows Γ s) (p : ℕ) (r : View Q I)
      → get_elem? h.recs p ≡ some r → get_elem? k.recs p ≡ some r
  into s h k p r e =
      let o = h.seated p r e in
      subst (λ (x : ℕ). get_elem? k.recs x ≡ some r) ((h.apt p r e).placed)
      (k.seats o.0 o.1 o.2 r o.3 o.4)

  pub one_world : (s : State (Option B) (List (View Q I))) (h k : Shows Γ s)
      → world_of Γ s h ≡ world_of Γ s k
  one_world s h k =
      let words = sym h.words ∙ k.words in
      let live : h.live ≡ k.live = ap (λ l. get_or l 0 0) words in
      let stop : h.stop ≡ k.stop = ap (λ l. get_or l 2 0) words in
      let faces : map word_of h.cells ≡ map word_of k.cells = ap (λ l. drop 3 l) words in
      let homes : map slot_of h.cells ≡ map slot_of k.cells = sym h.homes ∙ k.homes in
      let cells : h.cells ≡ k.cells = sym (cells_back h.cells) ∙ (λ i. cells_of (faces i) (homes i))
      ∙ cells_back k.cells in
      let recs : h.recs ≡ k.recs = same_list h.recs k.recs (λ p r e. into s h k p r e)
      (λ p r e. into s k h p r e) in
      λ i. shown Γ (live i) (stop i) (cells i) (recs i)

  -- while no berth has made a step, the table shows the start
  pub at_start : (s : State (Option B) (List (View Q I))) (h : Shows Γ s)
      → ((i : ℕ) (v : List (View Q I)) (k : ℕ) (r : View Q I) → get_elem? s.views i ≡ some v
      → get_elem? v k ≡ some r → r.steps ≡ 0) → world_of Γ s h ≡ first Γ
  at_start s h none = h.fresh (λ p r e. let o = h.seated p r e in none o.0 o.1 o.2 r o.3 o.4)
