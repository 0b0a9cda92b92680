-- The lists that a place begins with.
use Rattle.std.proofs.Common.{◌≡◌, ℕ, zero, suc, ◌==◌, Bool, true, false, not, cond, List, [], ◌∷◌}
use Rattle.std.proofs.Common.{◌++◌, map, refl, ap, ◌∙◌}
use Rattle.std.proofs.lemmas.List.{map-append}
use Rattle.glb_cube.specs.Lines.{Cube, outs_of, ins_of, ins_below}
use Rattle.glb_laws.specs.Numbers.{has_number}
use Rattle.glb_cube.proofs.GraphFacts.{ins_more, ins_none}
use Rattle.glb_rules.specs.Events.{name_of}
use Rattle.glb_rules.specs.Sight.{Sight, each_below}
use Rattle.glb_core.specs.Seen.{first_steal_in, first_line_in, first_line_out, first_sight}
use Rattle.glb_core.specs.Seen.{IsMadeFor}
use Rattle.glb_rules.specs.declared.kinds.Kind.TheVariants as kind
use Rattle.glb_rules.specs.declared.kinds.Edge.TheVariants as edge_state
use Rattle.glb_rules.specs.declared.edges.InEdge.{InEdge}
use Rattle.glb_rules.specs.declared.edges.OutEdge.{OutEdge}

pub map_each : {A B : Type 0} (n : ℕ) (passes : ℕ → Bool) (f : ℕ → A) (g : A → B)
    → map g (each_below n passes f) ≡ each_below n passes (λ t. g (f t))
map_each zero passes f g = refl
map_each (suc n) passes f g =
    map-append g (each_below n passes f) (cond (passes n) (f n ∷ []) [])
    ∙ (ap (λ xs. xs ++ map g (cond (passes n) (f n ∷ []) [])) (map_each n passes f g)
    ∙ ap (λ ys. each_below n passes (λ t. g (f t)) ++ ys) (one (passes n)))
  where
    one : (b : Bool) → map g (cond b (f n ∷ []) []) ≡ cond b (g (f n) ∷ []) []
    one true = refl
    one false = refl

-- the places with a line to this one are those that pass the test
pub map_ins : {A : Type 0} (c : Cube) (p n : ℕ) (f : ℕ → A)
    → map f (ins_below c p n) ≡ each_below n (λ t. has_number p (outs_of c t)) f
map_ins c p zero f = ap (map f) (ins_none c p)
map_ins c p (suc n) f =
    ap (map f) (ins_more c p n)
    ∙ (map-append f (ins_below c p n) (cond (has_number p (outs_of c n)) (n ∷ []) [])
    ∙ (ap (λ xs. xs ++ map f (cond (has_number p (outs_of c n)) (n ∷ []) [])) (map_ins c p n f)
    ∙ ap (λ ys. each_below n (λ t. has_number p (outs_of c t)) f ++ ys) (one (has_number p (outs_of c n)))))
  where
    one : (b : Bool) → map f (cond b (n ∷ []) []) ≡ cond b (f n ∷ []) []
    one true = refl
    one false = refl

abbrev sight_with : List InEdge → List OutEdge → Sight
sight_with ins outs = record { ins = ins; outs = outs; waited = edge_state.Idle; ended = false; stop = 0 }

pub first_is : (c : Cube) (p places : ℕ) (old mid ins : List InEdge) (thieves victims : List ℕ)
    (outs : List OutEdge) →
    old ≡ [] → places ≡ c.places → mid ≡ old ++ each_below places (λ t. not (t == p)) first_steal_in →
    thieves ≡ ins_of c p → ins ≡ mid ++ map first_line_in thieves → victims ≡ outs_of c p
    → outs ≡ map first_line_out victims →
    sight_with ins outs ≡ first_sight c p
first_is c p places old mid ins thieves victims outs o n m t i v u =
    ap (λ xs. sight_with xs outs)
    (i ∙ (ap (λ xs. mid ++ map first_line_in xs) t
    ∙ (ap (λ xs. mid ++ xs) (map_ins c p c.places first_line_in)
    ∙ ap (λ xs. xs ++ each_below c.places (λ t. has_number p (outs_of c t)) first_line_in) first)))
    ∙ ap (λ ys. sight_with (first_sight c p).ins ys) (u ∙ ap (map first_line_out) v)
  where
    first : mid ≡ each_below c.places (λ t. not (t == p)) first_steal_in
    first = m ∙ (ap (λ xs. xs ++ each_below places (λ t. not (t == p)) first_steal_in) o
        ∙ ap (λ k. each_below k (λ t. not (t == p)) first_steal_in) n)

victims_of : (vs : List ℕ) → map (λ (y : OutEdge). y.victim) (map first_line_out vs) ≡ vs
victims_of [] = refl
victims_of (v ∷ vs) = ap (λ xs. v ∷ xs) (victims_of vs)

pub first_made : (c : Cube) (p : ℕ) → IsMadeFor c p (first_sight c p)
first_made c p = record {
  ins =
      map-append (λ (x : InEdge). name_of x.kind x.thief p)
      (each_below c.places (λ t. not (t == p)) first_steal_in)
      (each_below c.places (λ t. has_number p (outs_of c t)) first_line_in)
      ∙ (ap (λ xs. xs ++ map (λ (x : InEdge). name_of x.kind x.thief p)
      (each_below c.places (λ t. has_number p (outs_of c t)) first_line_in))
      (map_each c.places (λ t. not (t == p)) first_steal_in (λ x. name_of x.kind x.thief p))
      ∙ ap (λ ys. each_below c.places (λ t. not (t == p)) (λ t. name_of kind.Steal t p) ++ ys)
      (map_each c.places (λ t. has_number p (outs_of c t)) first_line_in (λ x. name_of x.kind x.thief p)));
  outs = victims_of (outs_of c p);
}
