-- What the lists of a sight hold: all that a place can see.
use Rattle.std.proofs.Common.{◌≡◌, ℕ, ◌<◌, Bool, true, false, cond, [], ◌∷◌, refl, inl, ⊎_elim}
use Rattle.std.proofs.Common.{arith}
use Rattle.std.proofs.lemmas.Bool.Decides.{nat_tests}
use Rattle.glb_rules.specs.World.{Setup, World, has_edge, mark_at, state_of}
use Rattle.glb_rules.specs.Setups.{IsProper}
use Rattle.glb_rules.specs.Lawful.{IsLawful}
use Rattle.glb_rules.specs.Sight.{IsIn, each_below, in_edge, in_edges, out_edge, sight_at, state_at}
use Rattle.glb_rules.proofs.Decisions.Sees.{Sees}
use Rattle.glb_rules.proofs.Sums.Members.{in_append, in_left, in_right, in_join, join_in, in_map}
use Rattle.glb_rules.proofs.Sums.Members.{map_in}
use Rattle.glb_rules.proofs.EdgeLemmas.Made.{line_in, in_line}
use Rattle.glb_rules.proofs.Decisions.Draws.{drawn_there}
use Rattle.glb_rules.specs.declared.kinds.Kind.{Kind}
use Rattle.glb_rules.specs.declared.kinds.Kind.TheVariants as kind
use Rattle.glb_rules.specs.declared.edges.InEdge.{InEdge}

-- a member of the list is that of a number which passes
pub in_each : {A : Type 0} (bound : ℕ) (passes : ℕ → Bool) (f : ℕ → A) (x : A)
    → IsIn x (each_below bound passes f) → (t : ℕ) × (t < bound) × (passes t ≡ true) × (x ≡ f t)
in_each bound passes f x h =
    let j = in_join bound (λ t. cond (passes t) (f t ∷ []) []) x h in
    let r = go (passes j.0) (f j.0) j.2 in
    (j.0, j.1, r.0, r.1)
  where
    go : (b : Bool) (y : _) → IsIn x (cond b (y ∷ []) []) → (b ≡ true) × (x ≡ y)
    go true y i = (refl, ⊎_elim (λ e. e) (λ z. absurd z) i)
    go false y i = absurd i

-- the member of each number that passes is in the list
pub to_each : {A : Type 0} (bound : ℕ) (passes : ℕ → Bool) (f : ℕ → A) (t : ℕ) → t < bound
    → passes t ≡ true
    → IsIn (f t) (each_below bound passes f)
to_each bound passes f t l e =
    join_in bound (λ t. cond (passes t) (f t ∷ []) []) (f t) t l (rw e (inl refl))

-- what a place sees of its own side: that it has tries only where there is another place is all
-- that this wants of the world
module _ {I : Type 0} (seed : ℕ) (s : Setup) (w : World I) (p : ℕ) (P : IsProper s)
    (l : p < s.places) (two : 0 < (w.place p).tries → 1 < s.places) where
  from_kind : (k : Kind) (x : InEdge) → IsIn x (in_edges s w p k) →
      (x.thief < s.places) × (has_edge s x.kind x.thief p ≡ true)
      × (mark_at (w.place p).marks x.kind x.thief ≡ x.mark)
      × (state_of (w.edge x.kind x.thief p) ≡ x.edge)
  from_kind k x i = let m = in_each s.places (λ t. has_edge s k t p) (in_edge w p k) x i
      in rw m.3 (m.1, m.2, refl, refl)

  to_kind : (k : Kind) (t : ℕ) → t < s.places → has_edge s k t p ≡ true
      → IsIn (in_edge w p k t) (in_edges s w p k)
  to_kind k t m h = to_each s.places (λ t. has_edge s k t p) (in_edge w p k) t m h

  to_ins : (k : Kind) (t : ℕ) → t < s.places → has_edge s k t p ≡ true
      → IsIn (in_edge w p k t) (sight_at s w p).ins
  to_ins kind.Steal t m h =
      in_left (in_edges s w p kind.Steal) (in_edges s w p kind.Line) (in_edge w p kind.Steal t)
      (to_kind kind.Steal t m h)
  to_ins kind.Line t m h =
      in_right (in_edges s w p kind.Steal) (in_edges s w p kind.Line) (in_edge w p kind.Line t)
      (to_kind kind.Line t m h)

  pub sees_own : Sees s w p (state_at seed s w p) (sight_at s w p)
  sees_own = record {
    place = refl;
    same_phase = refl;
    same_credit = refl;
    tries = refl;
    size = refl;
    victim = λ some. drawn_there seed s.places p (w.place p).count.asks (two some) l;
    ins = λ x i. ⊎_elim (from_kind kind.Steal x) (from_kind kind.Line x)
        (in_append (in_edges s w p kind.Steal) (in_edges s w p kind.Line) x i);
    all_ins = λ k t m h. (in_edge w p k t, to_ins k t m h, refl, refl);
    outs = λ y i. let m = in_map (out_edge w p) (s.outs p) y i in let h = in_line s p m.0 m.1
        in rw m.2 (P.near p m.0 h, h, refl);
    all_outs = λ v m h. (out_edge w p v, map_in (out_edge w p) (s.outs p) v (line_in s p v h), refl);
    waited = λ v k e. rw e refl;
    ended = (λ e. grind (arith, nat_tests), λ e. grind (arith, nat_tests));
    stop = refl;
  }

module _ {I : Type 0} (seed : ℕ) (s : Setup) (w : World I) (p : ℕ) (P : IsProper s) (L : IsLawful s w)
    (l : p < s.places) where
  -- a place that has tries is not alone
  two : 0 < (w.place p).tries → 1 < s.places
  two some = ⊎_elim (λ (few : s.places < 2). let a = P.alone few in let t = (L.inner p l).tries
      in absurd (omega arith)) (λ (many : 1 < s.places). many) (grind arith)

  pub sees : Sees s w p (state_at seed s w p) (sight_at s w p)
  sees = sees_own seed s w p P l two
