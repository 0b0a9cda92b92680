-- The setup of a run over a lifeline graph is proper, and its places are connected.
use Rattle.std.specs.Prelude.{List, [], ◌∷◌, length, Bool, true, false}
use Rattle.std.proofs.Common.{◌≡◌, ◌⊎◌, inl, inr, ℕ, zero, suc, ◌<◌, ◌≤◌, refl, ap, sym, ◌∙◌, arith}
use Rattle.std.proofs.lemmas.Bool.{lt-ltb, le-ltb, eq-eqb, ne_eqb, cond-true, cond-false, cases_lt}
use Rattle.std.proofs.lemmas.Bool.{cases_eq, true≢false}
use Rattle.glb_laws.specs.Numbers.{has_number, count_to}
use Rattle.glb_cube.specs.Lines.{Cube, IsCube, outs_of}
use Rattle.glb_laws.specs.Numbers.{IsPath}
use Rattle.glb_cube.specs.Ways.{IsWay}
use Rattle.glb_cube.specs.GraphLaws.{GraphLaws}
use Rattle.glb_cube.proofs.GraphFacts.{graph_laws}
use Rattle.glb_cube.proofs.DegreeFacts.{count_none, count_one, count_split}
use Rattle.glb_laws.specs.Sums.{sum_to}
use Rattle.glb_rules.specs.World.{has_line}
use Rattle.glb_rules.specs.Setups.{IsProper, IsConnected, tries_of, bit, degree, in_degree}
use Rattle.glb_core.specs.Lifelines.{setup_of}
use Rattle.glb_rules.specs.declared.params.Params.{Params}

one_is : (p x : ℕ) → has_number p (x ∷ []) ≡ true → p ≡ x
one_is p x e = elim (cases_eq p x)
    [ inl same ↦ same | inr far ↦ absurd (true≢false (sym e ∙ cond-false _ _ _ (ne_eqb p x far))) ]

first_or : (p x : ℕ) (xs : List ℕ) → has_number p (x ∷ xs) ≡ true → (has_number p (x ∷ []) ≡ true)
    ⊎ (has_number p xs ≡ true)
first_or p x xs e =
    elim (cases_eq p x) [
      | inl same ↦ inl (cond-true _ _ _ (eq-eqb p x same))
      | inr far ↦ inr
          (sym (cond-false _ _ _ (ne_eqb p x far)) ∙ e)
    ]

count_members : (n : ℕ) (xs : List ℕ) → count_to n (λ v. has_number v xs) ≤ length xs
count_members n [] = let e : count_to n (λ v. has_number v []) ≡ 0 = count_none n _ (λ p s. refl)
    in omega (arith, e)
count_members n (x ∷ xs) =
    omega (
      arith,
      count_members n xs,
      count_one n (λ v. has_number v (x ∷ [])) (λ p r s t e f. one_is p x e ∙ sym (one_is r x f)),
      count_split n (λ v. has_number v (x ∷ xs)) (λ v. has_number v (x ∷ [])) (λ v. has_number v xs)
          (λ p s e. first_or p x xs e),
    )

sum_is : (n : ℕ) (f g : ℕ → Bool) → ((t : ℕ) → t < n → f t ≡ g t) → sum_to n (λ t. bit (f t)) ≡ count_to n g
sum_is zero f g h = refl
sum_is (suc n) f g h =
    let e : bit (f n) ≡ bit (g n) = ap bit (h n (omega arith)) in
    let r : sum_to n (λ t. bit (f t)) ≡ count_to n g = sum_is n f g (λ t s. h t (omega arith)) in
    omega (arith, e, r)

-- one place has no other to ask
alone_tries : (q : Params) → q.places ≡ 1 → tries_of q ≡ 0
alone_tries q e = cond-true _ _ _ (eq-eqb q.places 1 e)

module _ (c : Cube) (q : Params) (awake : ℕ → Bool) where
  -- the lines of a place are those of the graph
  pub line_is : (t v : ℕ) → t < c.places → has_line (setup_of c q awake) t v
      ≡ has_number v (outs_of c t)
  unfolding has_line
  line_is t v small = ap (has_number v) (cond-true _ _ _ (lt-ltb t c.places small))

  no_line : (t v : ℕ) → c.places ≤ t → has_line (setup_of c q awake) t v ≡ false
  unfolding has_line
  no_line t v over = ap (has_number v) (cond-false _ _ _ (le-ltb t c.places over))

  pub outs_are : (t : ℕ) → t < c.places → (setup_of c q awake).outs t ≡ outs_of c t
  outs_are t small = cond-true _ _ _ (lt-ltb t c.places small)

  pub proper : IsCube c → q.places ≡ c.places → 0 < q.batch → IsProper (setup_of c q awake)
  proper i same some =
      let g : GraphLaws c = graph_laws c i in
      record {
        once = λ t s. rw (outs_are t s) (g.once t s);
        near = λ t v h. elim (cases_lt t c.places) [
          | inl s ↦ g.near t v (sym (line_is t v s) ∙ h)
          | inr over ↦ absurd
              (true≢false (sym h ∙ no_line t v over))
        ];
        no_loop = λ p. elim (cases_lt p c.places)
            [ inl s ↦ line_is p p s ∙ g.no_loop p | inr over ↦ no_line p p over ];
        out = λ p s.
            let e : degree (setup_of c q awake) p ≡ count_to c.places (λ v. has_number v (outs_of c p)) =
            sum_is c.places _ _ (λ v t. line_is p v s) in
            omega (arith, e, count_members c.places (outs_of c p), g.out p);
        into = λ p s.
            let e : in_degree (setup_of c q awake) p ≡ count_to c.places (λ t. has_number p (outs_of c t))
            = sum_is c.places _ _ (λ t u. line_is t p u) in
            omega (arith, e, g.into p);
        some = i.some;
        batch = some;
        alone = λ few. let a = i.some in alone_tries q (omega arith);
      }

  path_is : (a b : ℕ) (ps : List ℕ) → a < c.places → IsWay c a ps b
      → IsPath (λ t v. (v < c.places) × (has_line (setup_of c q awake) t v ≡ true)) a ps b
  path_is a b [] small w = w
  path_is a b (p ∷ ps) small w = ((w.0.0, line_is a p small ∙ w.0.1), path_is p b ps w.0.0 w.1)

  pub connected : IsCube c → IsConnected (setup_of c q awake)
  connected i a b s t = let w = (graph_laws c i).ways a b s t in (w.0, path_is a b w.0 s w.1)
