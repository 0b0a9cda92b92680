-- What a view's knowledge and a word say of a cell.
use Rattle.std.proofs.Common.{◌≡◌, ◌≢◌, ℕ, zero, suc, ◌+◌, List, [], ◌∷◌, map, Option, Some, None, refl, sym, ap, ◌∙◌, subst, inl, inr, ⊎_elim, arith}
use Rattle.std.specs.Prelude.{slice_index}
use mathlib.Core.Option.{some, some-injective, some-ne-none}
use lib.ListN.{get_elem?}
use Rattle.atomic_table.proofs.Lists.{at_map}
use Rattle.glb_rules.specs.World.{WorldEdge, Idle, Asked, Refused, Loot, IsArmed, state_of}
use Rattle.glb_cells.specs.EdgeNames.{NamesOnce}
use Rattle.glb_rules.proofs.EdgeLemmas.Named.{names_apart, same_name_self, same_name_else}
use Rattle.glb_rules.specs.declared.local.EdgeName.{EdgeName}
use Rattle.glb_rules.specs.declared.kinds.Kind.{Kind}
use Rattle.glb_rules.specs.declared.kinds.Kind.TheVariants as kind
use Rattle.glb_rules.specs.declared.kinds.Edge.{Edge}
use Rattle.glb_rules.specs.declared.kinds.Edge.TheVariants as seen
use Rattle.glb_rules.specs.declared.kinds.Mark.{Mark}
use Rattle.glb_place.specs.Records.{knows, known_at, edge_like}
use Rattle.glb_place.specs.Rows.{known_row}
use Rattle.glb_place.specs.Calls.{CanFind}
use Rattle.glb_rules.specs.declared.kinds.Side.TheVariants as side
use Rattle.glb_place.specs.declared.record.Record.{Record}
use Rattle.glb_cells.specs.declared.view.View.{View}
use Rattle.glb_cells.specs.Words.{Cell, empty, wanted, denied, wanted_gift, denied_gift, full, emptied, word_of, cell_state, edge_of, IsWith, Out, In, read}
use Rattle.glb_cells.specs.Shows.{Fixed, AptAt}
use Rattle.glb_rules.proofs.Invariant.Frames.{Else}

read_at : (l : List ℕ) (i a : ℕ) → get_elem? l i ≡ some a → slice_index l i ≡ a
read_at [] i a e = absurd (some-ne-none a (sym e))
read_at (x ∷ xs) zero a e = some-injective x a e
read_at (x ∷ xs) (suc i) a e = read_at xs i a e

-- what a word of an edge reads
pub word_at : {B : Type 0} (ws : List ℕ) (a b c : ℕ) (cells : List (Cell B)) (e : ℕ) (x : Cell B)
    → ws ≡ a ∷ b ∷ c ∷ map word_of cells → get_elem? cells e ≡ some x → slice_index ws (e + 3) ≡ word_of x
word_at ws a b c cells e x is at = let q : e + 3 ≡ suc (suc (suc e)) = omega arith in
    rw (is, q) (read_at (map word_of cells) e (word_of x) (at_map word_of cells e x at))

pub none_some : {A : Type 0} (o : Option A) (a : A) → o ≡ None → o ≡ Some a → ⊥
none_some o a n s = cc

module _ {B : Type 0} where
  pub read_face : (c : Cell B) → read (word_of c) ≡ cell_state c
  read_face empty = refl
  read_face wanted = refl
  read_face denied = refl
  read_face wanted_gift = refl
  read_face denied_gift = refl
  read_face (full b) = refl
  read_face emptied = refl

  pub state_reads : {I : Type 0} (items : B → List I) (c : Cell B)
      → state_of (edge_of items c) ≡ cell_state c
  state_reads items empty = refl
  state_reads items wanted = refl
  state_reads items denied = refl
  state_reads items wanted_gift = refl
  state_reads items denied_gift = refl
  state_reads items (full b) = refl
  state_reads items emptied = refl

  pub is_asked : {I : Type 0} (items : B → List I) (c : Cell B) → cell_state c ≡ seen.Asked
      → edge_of items c ≡ Asked
  is_asked items empty e = cc
  is_asked items wanted e = refl
  is_asked items denied e = cc
  is_asked items wanted_gift e = refl
  is_asked items denied_gift e = cc
  is_asked items (full b) e = cc
  is_asked items emptied e = cc

  pub is_refused : {I : Type 0} (items : B → List I) (c : Cell B) → cell_state c ≡ seen.Refused
      → edge_of items c ≡ Refused
  is_refused items empty e = cc
  is_refused items wanted e = cc
  is_refused items denied e = refl
  is_refused items wanted_gift e = cc
  is_refused items denied_gift e = refl
  is_refused items (full b) e = cc
  is_refused items emptied e = cc

  pub refused_reads : {I : Type 0} (items : B → List I) (c : Cell B) → edge_of items c ≡ Refused
      → cell_state c ≡ seen.Refused
  refused_reads items empty e = absurd (cc)
  refused_reads items wanted e = absurd (cc)
  refused_reads items denied e = refl
  refused_reads items wanted_gift e = absurd (cc)
  refused_reads items denied_gift e = refl
  refused_reads items (full b) e = absurd (cc)
  refused_reads items emptied e = absurd (cc)

  pub idle_edge : {I : Type 0} (items : B → List I) (c : Cell B) → cell_state c ≡ seen.Idle
      → edge_of items c ≡ Idle
  idle_edge items empty e = refl
  idle_edge items wanted e = absurd (cc)
  idle_edge items denied e = absurd (cc)
  idle_edge items wanted_gift e = absurd (cc)
  idle_edge items denied_gift e = absurd (cc)
  idle_edge items (full b) e = absurd (cc)
  idle_edge items emptied e = refl

  pub loot_edge : {I : Type 0} (items : B → List I) (c : Cell B) → cell_state c ≡ seen.Loot
      → (xs : List I) × (edge_of items c ≡ Loot xs)
  loot_edge items empty e = absurd (cc)
  loot_edge items wanted e = absurd (cc)
  loot_edge items denied e = absurd (cc)
  loot_edge items wanted_gift e = absurd (cc)
  loot_edge items denied_gift e = absurd (cc)
  loot_edge items (full b) e = (items b, refl)
  loot_edge items emptied e = absurd (cc)

  -- a thief that knows its line as armed finds it so
  pub armed_edge : {I : Type 0} (items : B → List I) (x : Edge) (c : Cell B)
      → IsArmed (edge_like {I = I} x) → Out kind.Line x (cell_state c) → IsArmed (edge_of items c)
  armed_edge items seen.Idle c a o = absurd a
  armed_edge items seen.Asked c a o = absurd a
  armed_edge {I = I} items seen.Refused c a o =
      ⊎_elim (λ (e : cell_state c ≡ seen.Refused). subst (λ (y : WorldEdge I). IsArmed y)
      (sym (is_refused items c e)) tt) (λ (e : cell_state c ≡ seen.Loot). let l = loot_edge items c e in
      subst (λ (y : WorldEdge I). IsArmed y) (sym l.1) tt) o
  armed_edge {I = I} items seen.Loot c a o = let l = loot_edge items c o in
      subst (λ (y : WorldEdge I). IsArmed y) (sym l.1) tt

  pub is_empty : (p : ℕ) (n : EdgeName) (c : Cell B) → cell_state c ≡ seen.Idle → (IsWith p n c → ⊥)
      → n.thief ≡ p → empty ≡ c
  is_empty p n empty s w t = refl
  is_empty p n wanted s w t = cc
  is_empty p n denied s w t = cc
  is_empty p n wanted_gift s w t = cc
  is_empty p n denied_gift s w t = cc
  is_empty p n (full b) s w t = cc
  is_empty p n emptied s w t = absurd (w t)

  pub is_full : (c : Cell B) → cell_state c ≡ seen.Loot → (b : B) × (full b ≡ c)
  is_full empty s = cc
  is_full wanted s = cc
  is_full denied s = cc
  is_full wanted_gift s = cc
  is_full denied_gift s = cc
  is_full (full b) s = (b, refl)
  is_full emptied s = cc

  pub is_emptied : (p : ℕ) (n : EdgeName) (c : Cell B) → cell_state c ≡ seen.Idle → IsWith p n c
      → emptied ≡ c
  is_emptied p n empty s w = absurd w
  is_emptied p n wanted s w = cc
  is_emptied p n denied s w = cc
  is_emptied p n wanted_gift s w = cc
  is_emptied p n denied_gift s w = cc
  is_emptied p n (full b) s w = cc
  is_emptied p n emptied s w = refl

module _ {I : Type 0} where
  pub is_idle_in : (x : Edge) → edge_like {I = I} x ≡ Idle → x ≡ seen.Idle
  is_idle_in seen.Idle e = refl
  is_idle_in seen.Asked e = absurd (cc)
  is_idle_in seen.Refused e = absurd (cc)
  is_idle_in seen.Loot e = absurd (cc)

  pub is_asked_in : (x : Edge) → edge_like {I = I} x ≡ Asked → x ≡ seen.Asked
  is_asked_in seen.Idle e = absurd (cc)
  is_asked_in seen.Asked e = refl
  is_asked_in seen.Refused e = absurd (cc)
  is_asked_in seen.Loot e = absurd (cc)

  pub is_refused_in : (x : Edge) → edge_like {I = I} x ≡ Refused → x ≡ seen.Refused
  is_refused_in seen.Idle e = absurd (cc)
  is_refused_in seen.Asked e = absurd (cc)
  is_refused_in seen.Refused e = refl
  is_refused_in seen.Loot e = absurd (cc)

  pub is_loot_in : (x : Edge) (xs : List I) → edge_like x ≡ Loot xs → x ≡ seen.Loot
  is_loot_in seen.Idle xs e = absurd (cc)
  is_loot_in seen.Asked xs e = absurd (cc)
  is_loot_in seen.Refused xs e = absurd (cc)
  is_loot_in seen.Loot xs e = refl

-- what is known stays possible where the cell moves
pub in_asked : (l : Kind) (k : Edge) → In l k seen.Idle → In l k seen.Asked
in_asked l seen.Idle h = inr refl
in_asked l seen.Asked h = refl
in_asked kind.Line seen.Refused h = cc
in_asked kind.Steal seen.Refused h = λ e. cc
in_asked l seen.Loot h = λ e. cc

pub in_idle : (l : Kind) (k : Edge) → In l k seen.Loot → In l k seen.Idle
in_idle l seen.Idle h = inl refl
in_idle l seen.Asked h = cc
in_idle kind.Line seen.Refused h = cc
in_idle kind.Steal seen.Refused h = absurd (h refl)
in_idle l seen.Loot h = λ f. cc

-- a victim knows a held line as Refused
pub in_held : (k : Edge) → In kind.Line k seen.Refused → k ≡ seen.Refused
in_held seen.Idle h = ⊎_elim (λ (e : seen.Refused ≡ seen.Idle). cc)
    (λ (e : seen.Refused ≡ seen.Asked). cc) h
in_held seen.Asked h = cc
in_held seen.Refused h = refl
in_held seen.Loot h = absurd (h refl)

pub in_free : (k : Edge) → In kind.Steal k seen.Refused → In kind.Steal k seen.Idle
in_free seen.Idle h = inl refl
in_free seen.Asked h = cc
in_free seen.Refused h = λ e. cc
in_free seen.Loot h = absurd (h refl)

pub out_self : (l : Kind) (k : Edge) → Out l k k
out_self l seen.Idle = refl
out_self l seen.Asked = λ e. cc
out_self kind.Line seen.Refused = inl refl
out_self kind.Steal seen.Refused = refl
out_self l seen.Loot = refl

pub in_self : (l : Kind) (k : Edge) → In l k k
in_self l seen.Idle = inl refl
in_self l seen.Asked = refl
in_self kind.Line seen.Refused = refl
in_self kind.Steal seen.Refused = λ e. cc
in_self l seen.Loot = λ e. cc

pub out_refused : (l : Kind) (k : Edge) → Out l k seen.Asked → Out l k seen.Refused
out_refused l seen.Idle h = cc
out_refused l seen.Asked h = λ e. cc
out_refused kind.Line seen.Refused h = inl refl
out_refused kind.Steal seen.Refused h = refl
out_refused l seen.Loot h = cc

module _ {I : Type 0} where
  pub knows_it : (r : Record I) (n : EdgeName) (x : Edge) → knows (known_row n x r) n ≡ x
  knows_it r n x = rw (same_name_self n) refl

  pub knows_else : (r : Record I) (n : EdgeName) (x : Edge) (m : EdgeName)
      → Else n m.kind m.thief m.victim → knows (known_row n x r) m ≡ knows r m
  knows_else r n x m d = rw (same_name_else n m.kind m.thief m.victim d) refl

module _ {B Q I : Type 0} (Γ : Fixed B Q I) where
  -- the same view but for what it known_row of the edge number e, at another edge
  pub still : NamesOnce Γ.names → (p : ℕ) (r r' : View Q I) (e : ℕ) (n : EdgeName) (x : Edge)
      → get_elem? Γ.names e ≡ some n
      → r'.own.known ≡ (known_row n x r.own).known → r'.hand ≡ r.hand
      → (j : ℕ) (m : EdgeName) (d : Cell B) → j ≢ e → get_elem? Γ.names j ≡ some m
      → AptAt Γ p r j m d → AptAt Γ p r' j m d
  still one p r r' e n x name knew hands j m d apart other a =
      let q : knows r'.own m ≡ knows r.own m = ap (λ l. known_at l m.kind m.thief m.victim) knew
      ∙ knows_else r.own n x m (names_apart Γ.names one e j n m name other apart) in record {
        out = λ t. subst (λ z. Out m.kind z (cell_state d)) (sym q) (a.out t);
        inward = λ t. subst (λ z. In m.kind z (cell_state d)) (sym q) (a.inward t);
        busy = λ w. let y = a.busy w in (y.0, hands ∙ y.1);
        at_it = λ ys y. a.at_it ys (sym hands ∙ y);
      }

  -- it knows the edge itself as x
  pub newly : (r r' : View Q I) (n : EdgeName) (x : Edge)
      → r'.own.known ≡ (known_row n x r.own).known → x ≡ knows r'.own n
  newly r r' n x knew = sym (ap (λ l. known_at l n.kind n.thief n.victim) knew ∙ knows_it r.own n x)

  -- a read of an edge: the cell stays, and the view knows it as it reads
  pub seen_here : (p e : ℕ) (n : EdgeName) (c : Cell B) (r r' : View Q I) (x : Edge) → x ≡ cell_state c
      → r'.own.known ≡ (known_row n x r.own).known → r'.hand ≡ r.hand → AptAt Γ p r e n c
      → AptAt Γ p r' e n c
  seen_here p e n c r r' x is knew hands a =
      let q : cell_state c ≡ knows r'.own n = sym is ∙ newly r r' n x knew in record {
        out = λ t. subst (λ z. Out n.kind z (cell_state c)) q (out_self n.kind (cell_state c));
        inward = λ t. subst (λ z. In n.kind z (cell_state c)) q (in_self n.kind (cell_state c));
        busy = λ w. let y = a.busy w in (y.0, hands ∙ y.1);
        at_it = λ ys y. a.at_it ys (sym hands ∙ y);
      }

  -- only the seat's own edge is its hand
  pub elsewhere : (p : ℕ) (r r' : View Q I) (e : ℕ)
      → ((j : ℕ) (m : EdgeName) → j ≢ e → get_elem? Γ.names j ≡ some m
      → knows r'.own m ≡ knows r.own m)
      → ((j : ℕ) (xs : List I) → r.hand ≡ Some (j, xs) → j ≡ e)
      → ((j : ℕ) (xs : List I) → r'.hand ≡ Some (j, xs) → j ≡ e)
      → (j : ℕ) (m : EdgeName) (d : Cell B) → j ≢ e → get_elem? Γ.names j ≡ some m
      → AptAt Γ p r j m d → AptAt Γ p r' j m d
  elsewhere p r r' e knew was now j m d apart other a =
      let q : knows r'.own m ≡ knows r.own m = knew j m apart other in record {
        out = λ t. subst (λ z. Out m.kind z (cell_state d)) (sym q) (a.out t);
        inward = λ t. subst (λ z. In m.kind z (cell_state d)) (sym q) (a.inward t);
        busy = λ x. let y = a.busy x in absurd (apart (was j y.0 y.1));
        at_it = λ xs y. absurd (apart (now j xs y));
      }

  pub no_hand : (r : View Q I) (e : ℕ) → r.hand ≡ None → (j : ℕ) (xs : List I)
      → r.hand ≡ Some (j, xs) → j ≡ e
  no_hand r e none j xs y = absurd (none_some r.hand (j, xs) none y)

  pub one_hand : (r : View Q I) (e : ℕ) (ys : List I) → r.hand ≡ Some (e, ys)
      → (j : ℕ) (xs : List I) → r.hand ≡ Some (j, xs) → j ≡ e
  one_hand r e ys is j xs y = let z : ◌≡◌ {A = Option (ℕ × List I)} (Some (e, ys)) (Some (j, xs)) =
      sym is ∙ y in sym (ap fst z)
    where
      fst : Option (ℕ × List I) → ℕ
      fst None = e
      fst (Some x) = x.0

pub part_of_hand : {I : Type 0} (e j : ℕ) (xs ys : List I)
    → ◌≡◌ {A = Option (ℕ × List I)} (Some (e, xs)) (Some (j, ys)) → xs ≡ ys
part_of_hand {I} e j xs ys z = ap snd z
  where
    snd : Option (ℕ × List I) → List I
    snd None = []
    snd (Some x) = x.1

-- what may stand there may be found
pub in_finds : (m : Mark) (l : Kind) (k s : Edge) → In l k s → CanFind m l side.Inward k s
in_finds m kind.Steal seen.Idle s h = ⊎_elim (λ e. subst
    (CanFind m kind.Steal side.Inward seen.Idle) (sym e) tt)
    (λ e. subst (CanFind m kind.Steal side.Inward seen.Idle) (sym e) tt) h
in_finds m kind.Line seen.Idle s h = ⊎_elim (λ e. subst (CanFind m kind.Line side.Inward seen.Idle)
    (sym e) tt) (λ e. subst (CanFind m kind.Line side.Inward seen.Idle) (sym e) tt) h
in_finds m kind.Steal seen.Asked s h = subst (CanFind m kind.Steal side.Inward seen.Asked) (sym h)
    tt
in_finds m kind.Line seen.Asked s h = subst (CanFind m kind.Line side.Inward seen.Asked) (sym h) tt
in_finds m kind.Line seen.Refused s h = subst (CanFind m kind.Line side.Inward seen.Refused) (sym h)
    tt
in_finds m kind.Steal seen.Refused seen.Idle h = tt
in_finds m kind.Steal seen.Refused seen.Asked h = tt
in_finds m kind.Steal seen.Refused seen.Refused h = tt
in_finds m kind.Steal seen.Refused seen.Loot h = absurd (h refl)
in_finds m kind.Steal seen.Loot seen.Idle h = tt
in_finds m kind.Steal seen.Loot seen.Asked h = tt
in_finds m kind.Steal seen.Loot seen.Refused h = absurd (h refl)
in_finds m kind.Steal seen.Loot seen.Loot h = tt
in_finds m kind.Line seen.Loot seen.Idle h = tt
in_finds m kind.Line seen.Loot seen.Asked h = tt
in_finds m kind.Line seen.Loot seen.Refused h = absurd (h refl)
in_finds m kind.Line seen.Loot seen.Loot h = tt

pub out_finds : (m : Mark) (l : Kind) (k s : Edge) → Out l k s → CanFind m l side.Outward k s
out_finds m kind.Steal seen.Idle s h = subst (CanFind m kind.Steal side.Outward seen.Idle) (sym h)
    tt
out_finds m kind.Line seen.Idle s h = subst (CanFind m kind.Line side.Outward seen.Idle) (sym h) tt
out_finds m kind.Steal seen.Asked seen.Idle h = absurd (h refl)
out_finds m kind.Steal seen.Asked seen.Asked h = tt
out_finds m kind.Steal seen.Asked seen.Refused h = tt
out_finds m kind.Steal seen.Asked seen.Loot h = tt
out_finds m kind.Line seen.Asked seen.Idle h = absurd (h refl)
out_finds m kind.Line seen.Asked seen.Asked h = tt
out_finds m kind.Line seen.Asked seen.Refused h = tt
out_finds m kind.Line seen.Asked seen.Loot h = tt
out_finds m kind.Line seen.Refused s h = ⊎_elim
    (λ e. subst (CanFind m kind.Line side.Outward seen.Refused) (sym e) tt)
    (λ e. subst (CanFind m kind.Line side.Outward seen.Refused) (sym e) tt) h
out_finds m kind.Steal seen.Refused s h = subst (CanFind m kind.Steal side.Outward seen.Refused)
    (sym h) tt
out_finds m kind.Steal seen.Loot s h = subst (CanFind m kind.Steal side.Outward seen.Loot) (sym h)
    tt
out_finds m kind.Line seen.Loot s h = subst (CanFind m kind.Line side.Outward seen.Loot) (sym h) tt
