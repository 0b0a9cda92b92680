-- The cells between which a gift stands.
use Rattle.std.proofs.Common.{◌≡◌, ℕ, None, Bool, true, false, refl, sym, subst, inr, ⊎_elim}
use mathlib.Core.Option.{some}
use mathlib.Core.Option as maybe
use Rattle.glb_rules.specs.declared.local.EdgeName.{EdgeName}
use Rattle.glb_rules.specs.declared.kinds.Kind.{Kind}
use Rattle.glb_rules.specs.declared.kinds.Kind.TheVariants as kind
use Rattle.glb_rules.specs.declared.kinds.Edge.{Edge}
use Rattle.glb_rules.specs.declared.kinds.Edge.TheVariants as seen
use Rattle.std.proofs.Common.{List}
use Rattle.glb_cells.specs.Words.{Cell, empty, wanted, denied, wanted_gift, denied_gift, full, emptied, slot_of, cell_state, edge_of, Fitting, IsWith, Out, In}

-- a request as its victim knows it: asked for, or remembered on a line
abbrev pub Stands : Bool → Kind → Edge → Type 0
Stands false k x = x ≡ seen.Asked
Stands true k x = (k ≡ kind.Line) × (x ≡ seen.Refused)

-- the cell in which a gift begins, and that in which it is under way
abbrev pub stood : {B : Type 0} → Bool → Cell B
stood false = wanted
stood true = denied

abbrev pub gift : {B : Type 0} → Bool → Cell B
gift false = wanted_gift
gift true = denied_gift

module _ (B : Type 0) where
  pub gift_home : (b : Bool) → slot_of (gift {B = B} b) ≡ maybe.none
  gift_home true = refl
  gift_home false = refl

  pub stood_home : (b : Bool) → slot_of (stood {B = B} b) ≡ some None
  stood_home true = refl
  stood_home false = refl

  pub gift_reads : (b : Bool) → cell_state (gift {B = B} b) ≡ cell_state (stood {B = B} b)
  gift_reads true = refl
  gift_reads false = refl

  pub gift_edge : {I : Type 0} (items : B → List I) (b : Bool)
      → edge_of items (gift {B = B} b) ≡ edge_of items (stood {B = B} b)
  gift_edge items true = refl
  gift_edge items false = refl

  pub gift_fits : {Q : Type 0} (fits : B → Q → Type 0) (q : Q) (b : Bool) (k : Kind) (x : Edge)
      → Stands b k x → Fitting fits q k (gift {B = B} b)
  gift_fits fits q true k x st = st.0
  gift_fits fits q false k x st = tt

  pub with_gift : (p : ℕ) (n : EdgeName) (b : Bool) → IsWith p n (gift {B = B} b) ≡ (n.victim ≡ p)
  with_gift p n true = refl
  with_gift p n false = refl

  pub with_stood : (p : ℕ) (n : EdgeName) (b : Bool) → IsWith p n (stood {B = B} b) → ⊥
  with_stood p n true h = h
  with_stood p n false h = h

  -- a cell of which the slot is not out, as the victim knows it
  pub is_stood : (b : Bool) (p : ℕ) (n : EdgeName) (x : Edge) (c : Cell B) → Stands b n.kind x
      → In n.kind x (cell_state c) → n.victim ≡ p → (IsWith p n c → ⊥) → stood b ≡ c
  is_stood false p n x c st h v out = told c (subst (λ z. In n.kind z (cell_state c)) st h) out
    where
      told : (c : Cell B) → cell_state c ≡ seen.Asked → (IsWith p n c → ⊥) → wanted ≡ c
      told empty s m = cc
      told wanted s m = refl
      told denied s m = cc
      told wanted_gift s m = absurd (m v)
      told denied_gift s m = cc
      told (full b) s m = cc
      told emptied s m = cc
  is_stood true p n x c st h v out = told c (subst (λ (z : Kind × Edge). In z.0 z.1 (cell_state c))
      (λ i. (st.0 i, st.1 i)) h) out
    where
      told : (c : Cell B) → cell_state c ≡ seen.Refused → (IsWith p n c → ⊥) → denied ≡ c
      told empty s m = cc
      told wanted s m = cc
      told denied s m = refl
      told wanted_gift s m = cc
      told denied_gift s m = absurd (m v)
      told (full b) s m = cc
      told emptied s m = cc

  -- a cell of which the slot is with the victim
  pub is_gift : (b : Bool) (p : ℕ) (n : EdgeName) (x : Edge) (c : Cell B) → Stands b n.kind x
      → In n.kind x (cell_state c) → IsWith p n c → gift b ≡ c
  is_gift false p n x c st h w = told c (subst (λ z. In n.kind z (cell_state c)) st h) w
    where
      told : (c : Cell B) → cell_state c ≡ seen.Asked → IsWith p n c → wanted_gift ≡ c
      told empty s m = cc
      told wanted s m = absurd m
      told denied s m = cc
      told wanted_gift s m = refl
      told denied_gift s m = cc
      told (full b) s m = cc
      told emptied s m = cc
  is_gift true p n x c st h w = told c (subst (λ (z : Kind × Edge). In z.0 z.1 (cell_state c))
      (λ i. (st.0 i, st.1 i)) h) w
    where
      told : (c : Cell B) → cell_state c ≡ seen.Refused → IsWith p n c → denied_gift ≡ c
      told empty s m = cc
      told wanted s m = cc
      told denied s m = absurd m
      told wanted_gift s m = cc
      told denied_gift s m = refl
      told (full b) s m = cc
      told emptied s m = cc

  -- what a thief knows stays true where a gift comes
  pub out_loot : (b : Bool) (l : Kind) (k x : Edge) → Stands b l x
      → Out l k (cell_state (gift {B = B} b)) → Out l k seen.Loot
  out_loot false l seen.Idle x st h = cc
  out_loot false l seen.Asked x st h = λ f. cc
  out_loot false l seen.Refused x st h = at l h
    where
      at : (l : Kind) → Out l seen.Refused seen.Asked → Out l seen.Refused seen.Loot
      at kind.Line g = ⊎_elim (λ (f : seen.Asked ≡ seen.Refused). cc)
          (λ (f : seen.Asked ≡ seen.Loot). cc) g
      at kind.Steal g = cc
  out_loot false l seen.Loot x st h = cc
  out_loot true l seen.Idle x st h = cc
  out_loot true l seen.Asked x st h = λ f. cc
  out_loot true l seen.Refused x st h = subst (λ (z : Kind). Out z seen.Refused seen.Loot)
      (sym st.0) (inr refl)
  out_loot true l seen.Loot x st h = cc
