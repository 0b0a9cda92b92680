-- The number of an edge by its ends.
use Rattle.std.proofs.Common.{◌≡◌, ℕ, zero, suc, ◌+◌, ◌-◌, ◌*◌, ◌<◌, ◌≤◌, Bool, true, false, cond, not, ◌==◌, List, [], ◌∷◌, length, get_or, lt-ltb, le-ltb, refl, sym, ap, ◌∙◌, subst, arith}
use mathlib.Core.Option.{some}
use lib.ListN.{get_elem?}
use Rattle.std.specs.Prelude.{nat_lt}
use Rattle.glb_cube.specs.Lines.{Cube, outs_of}
use Rattle.glb_laws.specs.Sums.{sum_to}
use Rattle.glb_rules.specs.World.{has_edge}
use Rattle.glb_rules.specs.Events.{name_of}
use Rattle.glb_core.specs.Lifelines.{setup_of}
use Rattle.glb_cells.specs.EdgeNames.{names}
use Rattle.glb_rules.specs.declared.params.Params.{Params}
use Rattle.glb_rules.specs.declared.kinds.Kind.{Kind}
use Rattle.glb_rules.specs.declared.kinds.Kind.TheVariants as kind
use Rattle.glb_rules.proofs.EdgeLemmas.Marks.{eq_self}
use Rattle.glb_rules.proofs.EdgeLemmas.Numbers.{steal_at, line_at}
use Rattle.glb_rules.proofs.EdgeLemmas.Made.{line_in}
use Rattle.glb_rules.proofs.Sums.Members.{in_at}
use Rattle.glb_core.proofs.Lifelines.Setups.{outs_are}
use Rattle.glb_rules.proofs.Sums.Totals.{sum_same}
use Rattle.glb_cells.specs.inner.Numbers.{HasNumbers}
use Rattle.glb_cells.proofs.StartLemmas.Rows.{row_in}

any_default : (xs : List ℕ) (i d e : ℕ) → i < length xs → get_or xs i d ≡ get_or xs i e
any_default [] i d e l = absurd (omega arith)
any_default (x ∷ xs) zero d e l = refl
any_default (x ∷ xs) (suc i) d e l = any_default xs i d e (omega arith)

-- a row is as long as its number of places
over : (t p v : ℕ) → t < p → t * p + v - t + t ≡ t * p + v
over t p v l = let e : t ≤ t * p = one t p l in omega arith
  where
    one : (t p : ℕ) → t < p → t ≤ t * p
    one t zero l = absurd (omega arith)
    one t (suc p) l = let e : t * suc p ≡ t * p + t = grind arith in omega arith

module _ (c : Cube) (q : Params) (awake : ℕ → Bool) where
  -- a steal edge
  pub steal_named : (t v : ℕ) → t < c.places → v < c.places
      → has_edge (setup_of c q awake) kind.Steal t v ≡ true → (k : ℕ) → k + t ≡ t * c.places + v
      → get_elem? (names (setup_of c q awake)) (cond (nat_lt t v) (k - 1) k) ≡ some
      (name_of kind.Steal t v)
  steal_named t v l m there k e = steal_at (setup_of c q awake) t v l m
      (λ z. let f : (t == v) ≡ true = rw (z, eq_self v) refl in let g : not (t == v) ≡ true =
      there in let y : not true ≡ true = rw f at g in cc) k e

  -- a line
  pub line_named : (xs : List ℕ) → HasNumbers c xs → (t v : ℕ) → t < c.places
      → has_edge (setup_of c q awake) kind.Line t v ≡ true
      → get_elem? (names (setup_of c q awake)) (get_or xs (t * c.places + v) 0) ≡ some
      (name_of kind.Line t v)
  line_named xs h t v l there =
      let outs = outs_are c q awake t l in
      let i = in_at ((setup_of c q awake).outs t) v (line_in (setup_of c q awake) t v there) in
      let j : ℕ = i.0 in
      let at : get_elem? (outs_of c t) j ≡ some v = ap (λ xs. get_elem? xs j) (sym outs) ∙ i.1 in
      let number = h.number t j v l at in
      let sums : sum_to t (λ u. length (outs_of c u)) ≡ sum_to t
      (λ u. length ((setup_of c q awake).outs u)) =
      sum_same t (λ u. length ((setup_of c q awake).outs u)) (λ u. length (outs_of c u))
      (λ u m. ap length (sym (outs_are c q awake u (omega arith)))) in
      let k : ℕ = c.places * (c.places - 1) in
      let named = line_at (setup_of c q awake) t j v l i.1 k (square c.places) in
      ap (λ n. get_elem? (names (setup_of c q awake)) n) (number ∙ (omega arith)) ∙ named
    where
      square : (p : ℕ) → p * (p - 1) + p ≡ p * p
      square zero = omega arith
      square (suc p) = let z : suc p - 1 ≡ p = omega arith in
          let e : suc p * suc p ≡ suc p * p + suc p = grind arith in rw z (omega arith)

  -- the same where the kind is known by an equation
  module _ (p : ℕ) (is : p ≡ c.places) (k : Kind) (t v : ℕ) (l : t < p) (m : v < p) where
    pub steal_low : k ≡ kind.Steal → has_edge (setup_of c q awake) k t v ≡ true → t < v
        → get_elem? (names (setup_of c q awake)) (t * p + v - t - 1) ≡ some (name_of k t v)
    steal_low e there low =
        let s = steal_named t v (rw (sym is) l) (rw (sym is) m)
        (subst (λ j. has_edge (setup_of c q awake) j t v ≡ true) e there) (t * c.places + v - t)
        (over t c.places v (rw (sym is) l)) in
        let b : nat_lt t v ≡ true = lt-ltb t v low in
        subst (λ j. get_elem? (names (setup_of c q awake)) (t * p + v - t - 1) ≡ some
        (name_of j t v)) (sym e)
        (ap (λ n. get_elem? (names (setup_of c q awake)) (t * n + v - t - 1)) is
        ∙ ap (λ b. get_elem? (names (setup_of c q awake))
        (cond b (t * c.places + v - t - 1) (t * c.places + v - t))) (sym b) ∙ s)

    pub steal_high : k ≡ kind.Steal → has_edge (setup_of c q awake) k t v ≡ true → v ≤ t
        → get_elem? (names (setup_of c q awake)) (t * p + v - t) ≡ some (name_of k t v)
    steal_high e there high =
        let s = steal_named t v (rw (sym is) l) (rw (sym is) m)
        (subst (λ j. has_edge (setup_of c q awake) j t v ≡ true) e there) (t * c.places + v - t)
        (over t c.places v (rw (sym is) l)) in
        let b : nat_lt t v ≡ false = le-ltb t v high in
        subst (λ j. get_elem? (names (setup_of c q awake)) (t * p + v - t) ≡ some (name_of j t v))
        (sym e)
        (ap (λ n. get_elem? (names (setup_of c q awake)) (t * n + v - t)) is
        ∙ ap (λ b. get_elem? (names (setup_of c q awake))
        (cond b (t * c.places + v - t - 1) (t * c.places + v - t))) (sym b) ∙ s)

    pub line_number : (xs : List ℕ) (n : ℕ) → n ≡ get_or xs (t * p + v) n → HasNumbers c xs
        → k ≡ kind.Line → has_edge (setup_of c q awake) k t v ≡ true
        → get_elem? (names (setup_of c q awake)) n ≡ some (name_of k t v)
    line_number xs n got h e there =
        let row = row_in c.places t v (rw (sym is) l) (rw (sym is) m) in
        let at : n ≡ get_or xs (t * p + v) 0 = got
        ∙ any_default xs (t * p + v) n 0 (rw is (let q = h.long in omega arith)) in
        ap (λ j. get_elem? (names (setup_of c q awake)) j) at ∙
        subst (λ j. get_elem? (names (setup_of c q awake)) (get_or xs (t * p + v) 0) ≡ some
        (name_of j t v)) (sym e)
        (ap (λ n. get_elem? (names (setup_of c q awake)) (get_or xs (t * n + v) 0)) is
        ∙ line_named xs h t v (rw (sym is) l)
        (subst (λ j. has_edge (setup_of c q awake) j t v ≡ true) e there))
