-- A look raises the number of its edge alone.
use Rattle.std.proofs.Common.{◌≡◌, ◌≢◌, ⊎_elim, ℕ, ◌<◌, Bool, true, false, cond, ◌==◌, List, length, get_or, refl, sym, ap, ◌∙◌, arith, true≢false}
use Rattle.std.specs.Prelude.{slice_set, ◌&&◌}
use Rattle.std.proofs.lemmas.Bool.{cases_eq}
use Rattle.std.proofs.lemmas.List.{get_or-set_same, get_or-set_other, length-set}
use Rattle.glb_rules.specs.World.{same_kind}
use Rattle.glb_rules.specs.Events.{name_of, same_name}
use Rattle.glb_rules.proofs.EdgeLemmas.Marks.{eq_self, eq_other}
use Rattle.glb_rules.proofs.EdgeLemmas.Named.{same_name_self}
use Rattle.glb_rules.specs.declared.local.EdgeName.{EdgeName}
use Rattle.glb_rules.specs.declared.kinds.Kind.{Kind}
use Rattle.glb_rules.specs.declared.kinds.Kind.TheVariants as kind
use Rattle.glb_rules.specs.declared.kinds.Side.{Side}
use Rattle.glb_rules.specs.declared.kinds.Side.TheVariants as side
use Rattle.glb_place.specs.Calls.{edge_with}
use Rattle.glb_place.specs.Looks.{LooksAt, raised}
use Rattle.glb_cells.specs.Looking.{LookTable, looks_inward, looks_outward, looks_of}
use Rattle.glb_cells.specs.inner.Raising.{raise_where, same_side}
use Rattle.glb_cells.specs.inner.Keeping.{HasRoom}

-- the number of another edge
row_same : (j : Kind) (u : Side) (k : Kind) (s : Side) (other t : ℕ) (xs : List ℕ)
    → (j ≡ k → u ≡ s → t ≡ other → ⊥)
    → get_or (raise_where j u k s other xs) t 0 ≡ get_or xs t 0
row_same kind.Steal side.Inward kind.Steal side.Inward other t xs n =
    get_or-set_other xs other t (raised (get_or xs other 0)) 0 (λ e. n refl refl e)
row_same kind.Steal side.Inward kind.Steal side.Outward other t xs n = refl
row_same kind.Steal side.Inward kind.Line side.Inward other t xs n = refl
row_same kind.Steal side.Inward kind.Line side.Outward other t xs n = refl
row_same kind.Steal side.Outward kind.Steal side.Inward other t xs n = refl
row_same kind.Steal side.Outward kind.Steal side.Outward other t xs n =
    get_or-set_other xs other t (raised (get_or xs other 0)) 0 (λ e. n refl refl e)
row_same kind.Steal side.Outward kind.Line side.Inward other t xs n = refl
row_same kind.Steal side.Outward kind.Line side.Outward other t xs n = refl
row_same kind.Line side.Inward kind.Steal side.Inward other t xs n = refl
row_same kind.Line side.Inward kind.Steal side.Outward other t xs n = refl
row_same kind.Line side.Inward kind.Line side.Inward other t xs n =
    get_or-set_other xs other t (raised (get_or xs other 0)) 0 (λ e. n refl refl e)
row_same kind.Line side.Inward kind.Line side.Outward other t xs n = refl
row_same kind.Line side.Outward kind.Steal side.Inward other t xs n = refl
row_same kind.Line side.Outward kind.Steal side.Outward other t xs n = refl
row_same kind.Line side.Outward kind.Line side.Inward other t xs n = refl
row_same kind.Line side.Outward kind.Line side.Outward other t xs n =
    get_or-set_other xs other t (raised (get_or xs other 0)) 0 (λ e. n refl refl e)

-- the number of the edge itself
row_at : (k : Kind) (s : Side) (other : ℕ) (xs : List ℕ) → other < length xs
    → get_or (raise_where k s k s other xs) other 0 ≡ raised (get_or xs other 0)
row_at kind.Steal side.Inward other xs l = get_or-set_same xs other (raised (get_or xs other 0)) 0 l
row_at kind.Steal side.Outward other xs l = get_or-set_same xs other (raised (get_or xs other 0)) 0
    l
row_at kind.Line side.Inward other xs l = get_or-set_same xs other (raised (get_or xs other 0)) 0 l
row_at kind.Line side.Outward other xs l = get_or-set_same xs other (raised (get_or xs other 0)) 0 l

-- what a look leaves
pub record Raises (k : Kind) (s : Side) (other : ℕ) (old new : LookTable) : Type 0 where
  pub steals_in : new.steals_in ≡ raise_where kind.Steal side.Inward k s other old.steals_in
  pub lines_in : new.lines_in ≡ raise_where kind.Line side.Inward k s other old.lines_in
  pub steals_out : new.steals_out ≡ raise_where kind.Steal side.Outward k s other old.steals_out
  pub lines_out : new.lines_out ≡ raise_where kind.Line side.Outward k s other old.lines_out
  pub live : new.live ≡ old.live
  pub stop : new.stop ≡ old.stop

module _ (p places : ℕ) (old new : LookTable) (k : Kind) (s : Side) (other : ℕ)
    (room : HasRoom places old) (l : other < places) (R : Raises k s other old new) where
  in_same : (j : Kind) (t : ℕ) → (j ≡ k → side.Inward ≡ s → t ≡ other → ⊥)
      → looks_inward new j t ≡ looks_inward old j t
  in_same kind.Steal t n = ap (λ xs. get_or xs t 0) R.steals_in
      ∙ row_same kind.Steal side.Inward k s other t old.steals_in n
  in_same kind.Line t n = ap (λ xs. get_or xs t 0) R.lines_in
      ∙ row_same kind.Line side.Inward k s other t old.lines_in n

  out_same : (j : Kind) (v : ℕ) → (j ≡ k → side.Outward ≡ s → v ≡ other → ⊥)
      → looks_outward new j v ≡ looks_outward old j v
  out_same kind.Steal v n = ap (λ xs. get_or xs v 0) R.steals_out
      ∙ row_same kind.Steal side.Outward k s other v old.steals_out n
  out_same kind.Line v n = ap (λ xs. get_or xs v 0) R.lines_out
      ∙ row_same kind.Line side.Outward k s other v old.lines_out n

  edge_same : (n : EdgeName) → (n.victim ≡ p → looks_inward new n.kind n.thief ≡ looks_inward old
      n.kind n.thief)
      → (n.victim ≢ p → n.thief ≡ p → looks_outward new n.kind n.victim ≡ looks_outward old n.kind
      n.victim)
      → (looks_of p new).edge n ≡ (looks_of p old).edge n
  edge_same n f g = ⊎_elim
      (λ (e : n.victim ≡ p). let test : (n.victim == p) ≡ true = rw (e, eq_self p) refl in
      rw test (f e))
      (λ (d : n.victim ≢ p). ⊎_elim
      (λ (e : n.thief ≡ p). let test : (n.thief == p) ≡ true = rw (e, eq_self p) refl in
      rw (eq_other n.victim p d, test) (g d e))
      (λ (d' : n.thief ≢ p). rw (eq_other n.victim p d, eq_other n.thief p d') refl)
      (cases_eq n.thief p))
      (cases_eq n.victim p)

-- an edge by another name
apart : (m n : EdgeName) → same_name m n.kind n.thief n.victim ≡ false → n.kind ≡ m.kind
    → n.thief ≡ m.thief → n.victim ≡ m.victim → ⊥
apart m n e k t v = true≢false (sym (same_name_self m)
    ∙ (λ i. same_name m (sym k i) (sym t i) (sym v i)) ∙ e)

in_at : (old new : LookTable) (k : Kind) (s : Side) (other places : ℕ) → HasRoom places old
    → other < places → Raises k s other old new → s ≡ side.Inward
    → looks_inward new k other ≡ raised (looks_inward old k other)
in_at old new kind.Steal side.Inward other places room l R e =
    ap (λ xs. get_or xs other 0) R.steals_in ∙ row_at kind.Steal side.Inward other old.steals_in
    (let q = room.steals_in in omega (arith, l, q))
in_at old new kind.Line side.Inward other places room l R e =
    ap (λ xs. get_or xs other 0) R.lines_in ∙ row_at kind.Line side.Inward other old.lines_in
    (let q = room.lines_in in omega (arith, l, q))
in_at old new k side.Outward other places room l R e = absurd (cc)

out_at : (old new : LookTable) (k : Kind) (s : Side) (other places : ℕ) → HasRoom places old
    → other < places → Raises k s other old new → s ≡ side.Outward
    → looks_outward new k other ≡ raised (looks_outward old k other)
out_at old new kind.Steal side.Outward other places room l R e =
    ap (λ xs. get_or xs other 0) R.steals_out ∙ row_at kind.Steal side.Outward other old.steals_out
    (let q = room.steals_out in omega (arith, l, q))
out_at old new kind.Line side.Outward other places room l R e =
    ap (λ xs. get_or xs other 0) R.lines_out ∙ row_at kind.Line side.Outward other old.lines_out
    (let q = room.lines_out in omega (arith, l, q))
out_at old new k side.Inward other places room l R e = absurd (cc)

-- the place looked once at its edge with the other one
pub looked : (p places : ℕ) (old new : LookTable) (k : Kind) (s : Side) (other : ℕ)
    → HasRoom places old → other < places → other ≢ p → Raises k s other old new
    → LooksAt (edge_with p other k s) (looks_of p old) (looks_of p new)
looked p places old new k side.Inward other room l d R = record {
  edge = rw (eq_self p) (in_at old new k side.Inward other places room l R refl);
  others = λ n e. edge_same p places old new k side.Inward other room l R n
      (λ v. in_same p places old new k side.Inward other room l R n.kind n.thief
      (λ a b c. apart (name_of k other p) n e a c v))
      (λ _ _. out_same p places old new k side.Inward other room l R n.kind n.victim (λ a b c. cc));
  live = R.live;
  stop = R.stop;
}
looked p places old new k side.Outward other room l d R = record {
  edge = rw (eq_other other p d, eq_self p) (out_at old new k side.Outward other places room l R
      refl);
  others = λ n e. edge_same p places old new k side.Outward other room l R n
      (λ v. in_same p places old new k side.Outward other room l R n.kind n.thief (λ a b c. cc))
      (λ v t. out_same p places old new k side.Outward other room l R n.kind n.victim
      (λ a b c. apart (name_of k p other) n e a t c));
  live = R.live;
  stop = R.stop;
}

raise_long : (j : Kind) (u : Side) (k : Kind) (s : Side) (other : ℕ) (xs : List ℕ)
    → length (raise_where j u k s other xs) ≡ length xs
raise_long j u k s other xs = by (same_kind j k && same_side u s)
  where
    by : (b : Bool) → length (cond b (slice_set xs other (raised (get_or xs other 0))) xs) ≡ length
        xs
    by true = length-set xs other (raised (get_or xs other 0))
    by false = refl

-- and there is room for all edges still
pub room_stays : (places : ℕ) (old new : LookTable) (k : Kind) (s : Side) (other : ℕ)
    → HasRoom places old → Raises k s other old new → HasRoom places new
room_stays places old new k s other room R = record {
  steals_in = ap length R.steals_in ∙ raise_long kind.Steal side.Inward k s other old.steals_in
      ∙ room.steals_in;
  lines_in = ap length R.lines_in ∙ raise_long kind.Line side.Inward k s other old.lines_in
      ∙ room.lines_in;
  steals_out = ap length R.steals_out ∙ raise_long kind.Steal side.Outward k s other old.steals_out
      ∙ room.steals_out;
  lines_out = ap length R.lines_out ∙ raise_long kind.Line side.Outward k s other old.lines_out
      ∙ room.lines_out;
}
