-- What a place sees lists each of its edges, and its decision by what it sees is that by its record.
use Rattle.std.proofs.Common.{◌≡◌, ℕ, ◌<◌, inl, ⊎_elim, Bool, true, false, cond, not, ◌==◌, List, [], ◌∷◌, map, refl, sym, ap, ◌∙◌, subst, arith}
use Rattle.std.proofs.lemmas.Bool.Decides.{nat_tests}
use Rattle.glb_cube.specs.Lines.{Cube, outs_of}
use Rattle.glb_laws.specs.Numbers.{has_number}
use Rattle.glb_rules.specs.World.{Setup, World, has_edge, has_line, mark_at, state_of}
use Rattle.glb_rules.specs.Events.{name_of}
use Rattle.glb_rules.specs.Setups.{IsProper}
use Rattle.glb_rules.specs.Sight.{Sight, IsIn, each_below, in_edge, in_edges, out_edge, sight_at, state_at}
use Rattle.glb_rules.proofs.Decisions.Sees.{Sees}
use Rattle.glb_core.specs.Seen.{IsMadeFor, in_names}
use Rattle.glb_rules.proofs.Sums.Members.{AllApart, distinct_append, distinct_join, in_append, in_left, in_right, in_join, join_in, in_map, map_in}
use Rattle.glb_rules.proofs.EdgeLemmas.Made.{line_in, in_line}
use Rattle.glb_rules.proofs.Decisions.Draws.{drawn_there}
use Rattle.glb_rules.specs.declared.kinds.Kind.{Kind}
use Rattle.glb_rules.specs.declared.kinds.Kind.TheVariants as kind
use Rattle.glb_rules.specs.declared.local.EdgeName.{EdgeName}
use Rattle.glb_rules.specs.declared.edges.InEdge.{InEdge}
use Rattle.glb_place.proofs.KnownFacts.{name_in}

-- a member of a list of one or none
in_bit : {A : Type 0} (b : Bool) (x y : A) → IsIn y (cond b (x ∷ []) []) → (b ≡ true) × (y ≡ x)
in_bit true x y h = (refl, ⊎_elim (λ e. e) (λ n. absurd n) h)
in_bit false x y h = absurd h

-- a list of one or none has no member twice
apart_bit : {A : Type 0} (b : Bool) (x : A) → AllApart (cond b (x ∷ []) [])
apart_bit true x = ((λ h. h), tt)
apart_bit false x = tt

-- a member of a list by number has a number that passes
pub in_each : {A : Type 0} (bound : ℕ) (passes : ℕ → Bool) (f : ℕ → A) (x : A)
    → IsIn x (each_below bound passes f) → (t : ℕ) × (t < bound) × (passes t ≡ true) × (x ≡ f t)
in_each bound passes f x h =
    let j = in_join bound (λ t. cond (passes t) (f t ∷ []) []) x h in
    let r = in_bit (passes j.0) (f j.0) x j.2 in (j.0, j.1, r.0, r.1)

-- a number that passes has a member
pub to_each : {A : Type 0} (bound : ℕ) (passes : ℕ → Bool) (f : ℕ → A) (t : ℕ) → t < bound
    → passes t ≡ true → IsIn (f t) (each_below bound passes f)
to_each bound passes f t l e =
    join_in bound (λ t. cond (passes t) (f t ∷ []) []) (f t) t l (rw e (inl refl))

-- the names of a place's in-edges of a kind
abbrev names_of : Cube → ℕ → Kind → (ℕ → Bool) → List EdgeName
names_of c p k passes = each_below c.places passes (λ t. name_of k t p)

-- the names of one kind are apart
apart_of : (c : Cube) (p : ℕ) (k : Kind) (passes : ℕ → Bool) → AllApart (names_of c p k passes)
apart_of c p k passes = distinct_join c.places (λ t. cond (passes t) (name_of k t p ∷ []) [])
    (λ t l. apart_bit (passes t) (name_of k t p))
    (λ t u x l m a b. ap (λ (n : EdgeName). n.thief)
    (sym (in_bit (passes t) (name_of k t p) x a).1 ∙ (in_bit (passes u) (name_of k u p) x b).1))

-- no in-edge stands twice
pub names_apart : (c : Cube) (p : ℕ) → AllApart (in_names c p)
names_apart c p = distinct_append (names_of c p kind.Steal (λ t. not (t == p)))
    (names_of c p kind.Line (λ t. has_number p (outs_of c t)))
    (apart_of c p kind.Steal (λ t. not (t == p)))
    (apart_of c p kind.Line (λ t. has_number p (outs_of c t)))
    (λ n a b.
    let x = in_each c.places (λ t. not (t == p)) (λ t. name_of kind.Steal t p) n a in
    let y = in_each c.places (λ t. has_number p (outs_of c t)) (λ t. name_of kind.Line t p) n b in
    let e : kind.Steal ≡ kind.Line = ap (λ (m : EdgeName). m.kind) (sym x.3 ∙ y.3) in cc)

-- so no in-edge is seen twice
pub ins_apart : (c : Cube) (p : ℕ) (z : Sight) → IsMadeFor c p z → AllApart (map (name_in p) z.ins)
ins_apart c p z m = subst (λ ns. AllApart ns) (sym m.ins) (names_apart c p)

-- what the state and the sight of a world tell is true in it
module _ {I : Type 0} (seed : ℕ) (s : Setup) (w : World I) (p : ℕ) (P : IsProper s)
    (l : p < s.places) (two : 0 < (w.place p).tries → 1 < s.places) where
  -- an in-edge seen of one kind is there, as it is in the world
  from_kind : (k : Kind) (x : InEdge) → IsIn x (in_edges s w p k) →
      (x.thief < s.places) × (has_edge s x.kind x.thief p ≡ true)
      × (mark_at (w.place p).marks x.kind x.thief ≡ x.mark)
      × (state_of (w.edge x.kind x.thief p) ≡ x.edge)
  from_kind k x i = let m = in_each s.places (λ t. has_edge s k t p) (in_edge w p k) x i
      in rw m.3 (m.1, m.2, refl, refl)

  -- each in-edge that is there is seen
  to_ins : (k : Kind) (t : ℕ) → t < s.places → has_edge s k t p ≡ true
      → IsIn (in_edge w p k t) (sight_at s w p).ins
  to_ins kind.Steal t m h =
      in_left (in_edges s w p kind.Steal) (in_edges s w p kind.Line) (in_edge w p kind.Steal t)
      (to_each s.places (λ t. has_edge s kind.Steal t p) (in_edge w p kind.Steal) t m h)
  to_ins kind.Line t m h =
      in_right (in_edges s w p kind.Steal) (in_edges s w p kind.Line) (in_edge w p kind.Line t)
      (to_each s.places (λ t. has_edge s kind.Line t p) (in_edge w p kind.Line) t m h)

  -- all that can be seen of a world is true in it
  pub sees : Sees s w p (state_at seed s w p) (sight_at s w p)
  sees = record {
    place = refl;
    same_phase = refl;
    same_credit = refl;
    tries = refl;
    size = refl;
    victim = λ some. drawn_there seed s.places p (w.place p).count.asks (two some) l;
    ins = λ x i. ⊎_elim (from_kind kind.Steal x) (from_kind kind.Line x)
        (in_append (in_edges s w p kind.Steal) (in_edges s w p kind.Line) x i);
    all_ins = λ k t m h. (in_edge w p k t, to_ins k t m h, refl, refl);
    outs = λ y i. let m = in_map (out_edge w p) (s.outs p) y i in let h = in_line s p m.0 m.1
        in rw m.2 (P.near p m.0 h, h, refl);
    all_outs = λ v m h. (
      out_edge w p v,
      map_in (out_edge w p) (s.outs p) v
          (line_in s p v h),
      refl,
    );
    waited = λ v k e. rw e refl;
    ended = (λ e. grind (arith, nat_tests), λ e. grind (arith, nat_tests));
    stop = refl;
  }

-- each in-edge that is seen is there
pub ins_there : (s : Setup) (c : Cube) (p : ℕ) (z : Sight) → IsMadeFor c p z
    → c.places ≡ s.places
    → ((t : ℕ) → t < c.places → has_number p (outs_of c t) ≡ true → has_line s t p ≡ true)
    → (x : InEdge) → IsIn x z.ins → (x.thief < s.places) × (has_edge s x.kind x.thief p ≡ true)
ins_there s c p z m same lines x i =
    let n : IsIn (name_in p x) (in_names c p) =
    subst (IsIn (name_in p x)) m.ins (map_in (name_in p) z.ins x i) in
    ⊎_elim
    (λ a.
    let y = in_each c.places (λ t. not (t == p)) (λ t. name_of kind.Steal t p) (name_in p x) a in
    let k : x.kind ≡ kind.Steal = ap (λ (e : EdgeName). e.kind) y.3 in
    let t : x.thief ≡ y.0 = ap (λ (e : EdgeName). e.thief) y.3 in
    (let l = y.1 in omega (arith, t, same), rw (k, t) y.2))
    (λ a.
    let y = in_each c.places (λ t. has_number p (outs_of c t)) (λ t. name_of kind.Line t p)
    (name_in p x) a in
    let k : x.kind ≡ kind.Line = ap (λ (e : EdgeName). e.kind) y.3 in
    let t : x.thief ≡ y.0 = ap (λ (e : EdgeName). e.thief) y.3 in
    (let l = y.1 in omega (arith, t, same), rw (k, t) (lines y.0 y.1 y.2)))
    (in_append (names_of c p kind.Steal (λ t. not (t == p)))
    (names_of c p kind.Line (λ t. has_number p (outs_of c t))) (name_in p x) n)
