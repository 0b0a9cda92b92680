-- The best of the tree of packs is the optimum over all choices of lines.
use Rattle.std.proofs.Common.{◌≡◌, ℕ, zero, suc, ◌+◌, ◌-◌, ◌*◌, ◌^◌, ◌<◌, ◌≤◌, ◌⊎◌, inl, inr}
use Rattle.std.proofs.Common.{min, List, [], ◌∷◌, ◌++◌, length, map, refl, sym, ap, subst}
use Rattle.std.proofs.Common.{◌∙◌, arith, cond, ltb, drop, append-nil, ◌↔◌}
use Rattle.std.specs.Prelude.{Contains}
use Rattle.std.proofs.lemmas.List.Elements.{Contains-append_right}
use Rattle.std.proofs.lemmas.Bool.{cases_lt, lt-ltb, le-ltb}
use Rattle.glb_laws.specs.Tree.{tree, forest}
use Rattle.glb_tree.proofs.Forests.{tree-suc}
use Rattle.glb_bound.specs.Best.{IsBest, worth_of}
use Rattle.glb_bound.proofs.Members.{either, Contains-none, Contains-first, Contains-cons_cases}
use Rattle.glb_bound.proofs.Members.{tree-zero, forest-has, forest-member, tree-member, own_member}
use Rattle.glb_knap.specs.declared.line.Line.{Line}
use Rattle.glb_knap.specs.declared.pack.Pack.{Pack}
use Rattle.glb_knap.specs.Choices.{IsChoice, IsOptimum}
use Rattle.glb_knap.specs.Ranking.{line, placed, ranked_from, ranked_lines}
use Rattle.glb_knap.specs.Packs.{Problem, IsProblem, AreLines, without, with_line, packs_by}
use Rattle.glb_knap.specs.Packs.{packs_below, value_of, empty_pack}
use Rattle.glb_knap.specs.inner.Ranks.{placed_none, placed_first, placed_later, ranked_next, ranked_none}
use Rattle.glb_knap.specs.inner.Ranks.{drop_next}

-- a line's weight and value
abbrev pair_of : Line → ℕ × ℕ
pair_of x = (x.weight, x.value)

abbrev pairs : List Line → List (ℕ × ℕ)
pairs ls = map pair_of ls

-- nothing can be chosen
choice_none : (ps : List (ℕ × ℕ)) → IsChoice ps 0 0
choice_none [] = (refl, refl)
choice_none (p ∷ ps) = inl (choice_none ps)

-- no choice is worth more than the limits allow
choice_few : (ps : List (ℕ × ℕ)) (w v : ℕ) → AreLines ps → IsChoice ps w v
    → v ≤ length ps * 4294967295
choice_few [] w v a c = let c1 = c.1 in omega arith
choice_few (p ∷ ps) w v a (inl c) = omega (arith, choice_few ps w v a.3 c)
choice_few (p ∷ ps) w v a (inr (w', v', c, e, f)) =
    let few = a.2 in omega (arith, choice_few ps w' v' a.3 c)

-- each choice of the first lines is one of the second
abbrev Gives : List (ℕ × ℕ) → List (ℕ × ℕ) → Type 0
Gives ps qs = (w v : ℕ) → IsChoice ps w v → IsChoice qs w v

-- also beside a further line
gives_cons : (p : ℕ × ℕ) (ps qs : List (ℕ × ℕ)) → Gives ps qs → Gives (p ∷ ps) (p ∷ qs)
gives_cons p ps qs g w v (inl c) = inl (g w v c)
gives_cons p ps qs g w v (inr (w', v', c, e, f)) = inr (w', v', g w' v' c, e, f)

-- two lines change places
gives_swap : (p q : ℕ × ℕ) (ps : List (ℕ × ℕ)) → Gives (p ∷ q ∷ ps) (q ∷ p ∷ ps)
gives_swap p q ps w v (inl (inl c)) = inl (inl c)
gives_swap p q ps w v (inl (inr (w', v', c, e, f))) = inr (w', v', inl c, e, f)
gives_swap p q ps w v (inr (w', v', inl c, e, f)) = inl (inr (w', v', c, e, f))
gives_swap p q ps w v (inr (w1, v1, inr (w2, v2, c, e2, f2), e1, f1)) =
    inr (p.0 + w2, p.1 + v2, inr (w2, v2, c, refl, refl), omega arith, omega arith)

-- the same lines
gives_same : (ps qs : List (ℕ × ℕ)) → ps ≡ qs → Gives ps qs
gives_same ps qs e w v c = subst (λ l. IsChoice l w v) e c

-- a placed line comes first
placed_gives : (x : Line) (ys : List Line) → Gives (pairs (placed x ys)) (pair_of x ∷ pairs ys)
placed_gives x [] = gives_same _ _ (ap pairs (placed_none x))
placed_gives x (y ∷ ys) = elim (cases_lt (y.value * x.weight) (x.value * y.weight)) [
  | inl lt ↦ gives_same _ _ (ap pairs (placed_first x y ys (lt-ltb _ _ lt)))
  | inr le ↦ λ w v c. gives_swap (pair_of y) (pair_of x) (pairs ys) w v
      (gives_cons (pair_of y) (pairs (placed x ys)) (pair_of x ∷ pairs ys) (placed_gives x ys) w v
      (gives_same _ _ (ap pairs (placed_later x y ys (le-ltb _ _ le))) w v c))
]

-- and the first line can be placed
gives_placed : (x : Line) (ys : List Line) → Gives (pair_of x ∷ pairs ys) (pairs (placed x ys))
gives_placed x [] = gives_same _ _ (sym (ap pairs (placed_none x)))
gives_placed x (y ∷ ys) = elim (cases_lt (y.value * x.weight) (x.value * y.weight)) [
  | inl lt ↦ gives_same _ _ (sym (ap pairs (placed_first x y ys (lt-ltb _ _ lt))))
  | inr le ↦ λ w v c. gives_same _ _ (sym (ap pairs (placed_later x y ys (le-ltb _ _ le)))) w v
      (gives_cons (pair_of y) (pair_of x ∷ pairs ys) (pairs (placed x ys)) (gives_placed x ys) w v
      (gives_swap (pair_of x) (pair_of y) (pairs ys) w v c))
]

-- behind other lines
gives_behind : (ps qs rs : List (ℕ × ℕ)) → Gives qs rs → Gives (ps ++ qs) (ps ++ rs)
gives_behind [] qs rs g = g
gives_behind (p ∷ ps) qs rs g = gives_cons p (ps ++ qs) (ps ++ rs) (gives_behind ps qs rs g)

-- a line goes to the front, and back
gives_front : (ps : List (ℕ × ℕ)) (q : ℕ × ℕ) (qs : List (ℕ × ℕ))
    → Gives (ps ++ q ∷ qs) (q ∷ (ps ++ qs))
gives_front [] q qs = λ w v c. c
gives_front (p ∷ ps) q qs = λ w v c. gives_swap p q (ps ++ qs) w v
    (gives_cons p (ps ++ q ∷ qs) (q ∷ (ps ++ qs)) (gives_front ps q qs) w v c)

gives_back : (ps : List (ℕ × ℕ)) (q : ℕ × ℕ) (qs : List (ℕ × ℕ))
    → Gives (q ∷ (ps ++ qs)) (ps ++ q ∷ qs)
gives_back [] q qs = λ w v c. c
gives_back (p ∷ ps) q qs = λ w v c.
    gives_cons p (q ∷ (ps ++ qs)) (ps ++ q ∷ qs) (gives_back ps q qs) w v
    (gives_swap q p (ps ++ qs) w v c)

-- choices of ranked lines are choices of the lines, and the other way round
from_ranked : (xs : List Line) (n : ℕ) (ps : List (ℕ × ℕ))
    → Gives (pairs (ranked_from xs n ps)) (ps ++ pairs xs)
from_ranked xs n [] = gives_same _ _ (ap pairs (ranked_none xs n))
from_ranked xs n (p ∷ ps) = λ w v c.
    let x : Line = line n p.0 p.1 in
    gives_front ps p (pairs xs) w v
    (gives_behind ps (pairs (placed x xs)) (p ∷ pairs xs) (placed_gives x xs) w v
    (from_ranked (placed x xs) (suc n) ps w v
    (gives_same _ _ (ap pairs (ranked_next xs n p ps)) w v c)))

to_ranked : (xs : List Line) (n : ℕ) (ps : List (ℕ × ℕ))
    → Gives (ps ++ pairs xs) (pairs (ranked_from xs n ps))
to_ranked xs n [] = gives_same _ _ (sym (ap pairs (ranked_none xs n)))
to_ranked xs n (p ∷ ps) = λ w v c.
    let x : Line = line n p.0 p.1 in
    gives_same _ _ (sym (ap pairs (ranked_next xs n p ps))) w v
    (to_ranked (placed x xs) (suc n) ps w v
    (gives_behind ps (p ∷ pairs xs) (pairs (placed x xs)) (gives_placed x xs) w v
    (gives_back ps p (pairs xs) w v c)))

-- all lines
choices_of_ranked : (ps : List (ℕ × ℕ)) → Gives (pairs (ranked_lines ps)) ps
choices_of_ranked ps w v c = gives_same _ _ (append-nil ps) w v (from_ranked [] 0 ps w v c)

choices_to_ranked : (ps : List (ℕ × ℕ)) → Gives ps (pairs (ranked_lines ps))
choices_to_ranked ps w v c = to_ranked [] 0 ps w v (gives_same _ _ (sym (append-nil ps)) w v c)

module _ (problem : Problem) where
  -- the packs one step below
  abbrev below : Pack → List Pack
  below = packs_below problem

  -- the lines that are left of a pack
  abbrev left : Pack → List Line
  left pack = drop pack.next (ranked_lines problem.lines)

  -- what comes of a pack by lines
  abbrev by_lines : Pack → List Line → List Pack
  by_lines pack ls = packs_by problem.capacity ls pack

  -- a choice of lines that can be carried beside a pack, and comes to a value
  abbrev Comes : Pack → List Line → ℕ → Type 0
  Comes pack ls value = (w : ℕ) × (v : ℕ) × IsChoice (pairs ls) w v
      × (pack.weight + w ≤ problem.capacity)
      × (min value (2 ^ 64 - 1) ≡ min (pack.value + v) (2 ^ 64 - 1))

  -- a pack below comes of leaving the line out or taking it
  below_cases : (pack : Pack) (x : Line) (ls : List Line) (c : Pack)
      → Contains (by_lines pack (x ∷ ls)) c
      → (without pack ≡ c)
      ⊎ ((pack.weight + x.weight ≤ problem.capacity) × (with_line x pack ≡ c))
  below_cases pack x ls c h =
      let Which : Type 0 = (without pack ≡ c)
      ⊎ ((pack.weight + x.weight ≤ problem.capacity) × (with_line x pack ≡ c)) in
      let first : without pack ≡ c → Which = λ e. inl e in
      let too_heavy : problem.capacity < pack.weight + x.weight
      → Contains (cond (ltb problem.capacity (pack.weight + x.weight)) []
      (with_line x pack ∷ [])) c → Which =
      λ lt i. absurd (Contains-none c
      (subst (λ b. Contains (cond b [] (with_line x pack ∷ [])) c) (lt-ltb _ _ lt) i)) in
      let fits : pack.weight + x.weight ≤ problem.capacity
      → Contains (cond (ltb problem.capacity (pack.weight + x.weight)) []
      (with_line x pack ∷ [])) c → Which =
      λ le i. either (λ e. inr (le, e)) (λ j. absurd (Contains-none c j))
      (Contains-cons_cases (with_line x pack) [] c
      (subst (λ b. Contains (cond b [] (with_line x pack ∷ [])) c) (le-ltb _ _ le) i)) in
      let second : Contains (cond (ltb problem.capacity (pack.weight + x.weight)) []
      (with_line x pack ∷ [])) c → Which =
      λ i. either (λ lt. too_heavy lt i) (λ le. fits le i)
      (cases_lt problem.capacity (pack.weight + x.weight)) in
      either first second (Contains-cons_cases (without pack) _ c h)

  -- what comes of a pack one step below comes of the pack
  comes_above : (y pack : Pack) (ls : List Line) → left pack ≡ ls
      → pack.weight ≤ problem.capacity → (c : Pack) → Contains (by_lines pack ls) c
      → ((ms : List Line) → left c ≡ ms → c.weight ≤ problem.capacity → Comes c ms y.value)
      → Comes pack ls y.value
  comes_above y pack [] e le c i ih = absurd (Contains-none c i)
  comes_above y pack (x ∷ ls) e le c i ih =
      let left_out : without pack ≡ c → Comes pack (x ∷ ls) y.value =
      λ s. let r = ih ls (subst (λ p. left p ≡ ls) s (drop_next pack.next _ x ls e))
      (subst (λ p. p.weight ≤ problem.capacity) s le) in
      let same = ap (λ p. p.value) s in let heavy = ap (λ p. p.weight) s in
      let r3 = r.3 in let r4 = r.4 in
      (r.0, r.1, inl r.2, omega arith, omega arith) in
      let taken : (pack.weight + x.weight ≤ problem.capacity) × (with_line x pack ≡ c)
      → Comes pack (x ∷ ls) y.value =
      λ t. let s = t.1 in
      let r = ih ls (subst (λ p. left p ≡ ls) s (drop_next pack.next _ x ls e))
      (subst (λ p. p.weight ≤ problem.capacity) s t.0) in
      let same = ap (λ p. p.value) s in let heavy = ap (λ p. p.weight) s in
      let r3 = r.3 in let r4 = r.4 in
      (x.weight + r.0, x.value + r.1, inr (r.0, r.1, r.2, refl, refl), omega arith, omega arith) in
      either left_out taken (below_cases pack x ls c i)

  -- each node below a pack comes of a choice
  node_choice : (d : ℕ) (pack y : Pack) (ls : List Line) → left pack ≡ ls
      → pack.weight ≤ problem.capacity → Contains (tree below pack d) y → Comes pack ls y.value
  node_choice zero pack y ls e le h =
      absurd (Contains-none y (subst (λ l. Contains l y) (tree-zero below pack) h))
  node_choice (suc d) pack y ls e le h =
      let itself : pack ≡ y → Comes pack ls y.value =
      λ s. let same = ap (λ p. p.value) s in
      (0, 0, choice_none (pairs ls), omega arith, omega arith) in
      let deeper : Contains (forest below (below pack) d) y → Comes pack ls y.value =
      λ i. let f = forest-member below (below pack) d y i in
      comes_above y pack ls e le f.0 (subst (λ l. Contains (by_lines pack l) f.0) e f.1)
      (λ ms e' le'. node_choice d f.0 y ms e' le' f.2) in
      either itself deeper (tree-member below pack d y h)

  -- a node that comes to the value of a choice
  abbrev Found : Pack → ℕ → Type 0
  Found pack v = (d : ℕ) × (y : Pack) × Contains (tree below pack d) y
      × (min y.value (2 ^ 64 - 1) ≡ min (pack.value + v) (2 ^ 64 - 1))

  -- what is found of a pack one step below is found of the pack
  found_above : (pack c : Pack) (u v : ℕ) → Contains (below pack) c
      → min (c.value + u) (2 ^ 64 - 1) ≡ min (pack.value + v) (2 ^ 64 - 1)
      → Found c u → Found pack v
  found_above pack c u v i s f = (
    suc f.0,
    f.1,
    subst (λ l. Contains l f.1) (sym (tree-suc below pack f.0))
        (Contains-append_right (pack ∷ []) _ f.1 (forest-has below (below pack) f.0 c f.1 i f.2)),
    f.3 ∙ s,
  )

  -- each choice has a node
  choice_node : (ls : List Line) (pack : Pack) (w v : ℕ) → left pack ≡ ls
      → IsChoice (pairs ls) w v → pack.weight + w ≤ problem.capacity → Found pack v
  choice_node [] pack w v e c le =
      let zero_value = c.1 in (1, pack, own_member below pack 0, omega arith)
  choice_node (x ∷ ls) pack w v e (inl c) le =
      let i : Contains (below pack) (without pack) =
      subst (λ l. Contains (by_lines pack l) (without pack)) (sym e)
      (Contains-first (without pack) _) in
      found_above pack (without pack) v v i refl
      (choice_node ls (without pack) w v (drop_next pack.next _ x ls e) c le)
  choice_node (x ∷ ls) pack w v e (inr (w', v', c, ew, ev)) le =
      let fits : pack.weight + x.weight ≤ problem.capacity = omega arith in
      let j : Contains (cond (ltb problem.capacity (pack.weight + x.weight)) []
      (with_line x pack ∷ [])) (with_line x pack) =
      subst (λ b. Contains (cond b [] (with_line x pack ∷ [])) (with_line x pack))
      (sym (le-ltb _ _ fits)) (Contains-first (with_line x pack) []) in
      let i : Contains (below pack) (with_line x pack) =
      subst (λ l. Contains (by_lines pack l) (with_line x pack)) (sym e)
      (Contains-append_right (without pack ∷ []) _ (with_line x pack) j) in
      found_above pack (with_line x pack) v' v i (omega arith)
      (choice_node ls (with_line x pack) w' v' (drop_next pack.next _ x ls e) c (omega arith))

  -- the values of choices of all lines are values of 64 bits
  choices_few : IsProblem problem → (w v : ℕ) → IsChoice problem.lines w v → v < 2 ^ 64
  choices_few known w v c =
      let few = known.few in
      omega (arith, choice_few problem.lines w v known.lines c)

  -- the best is the optimum
  best_is_optimum : IsProblem problem → (most : ℕ)
      → IsBest below (worth_of value_of) empty_pack most
      → IsOptimum problem.capacity problem.lines most
  best_is_optimum known most b = record {
    bound = λ w v c le.
        let few = choices_few known w v c in
        let f = choice_node (ranked_lines problem.lines) empty_pack w v refl
        (choices_to_ranked problem.lines w v c) (omega (arith, le)) in
        let top = b.bound f.0 f.1 f.2 in let f3 = f.3 in omega arith;
    attained =
        let a = b.attained in
        let r = node_choice a.0 empty_pack a.1 (ranked_lines problem.lines) refl (omega arith) a.2 in
        let c = choices_of_ranked problem.lines r.0 r.1 r.2 in
        let few = choices_few known r.0 r.1 c in
        let a3 = a.3 in let r4 = r.4 in let r3 = r.3 in
        (r.0, subst (IsChoice problem.lines r.0) (omega arith) c, omega arith);
  }

  -- the optimum is the best
  optimum_is_best : IsProblem problem → (most : ℕ)
      → IsOptimum problem.capacity problem.lines most
      → IsBest below (worth_of value_of) empty_pack most
  optimum_is_best known most o = record {
    bound = λ d y h.
        let r = node_choice d empty_pack y (ranked_lines problem.lines) refl (omega arith) h in
        let r3 = r.3 in
        let top = o.bound r.0 r.1 (choices_of_ranked problem.lines r.0 r.1 r.2) (omega arith) in
        let r4 = r.4 in omega arith;
    attained =
        let a = o.attained in
        let few = choices_few known a.0 most a.1 in
        let a2 = a.2 in
        let f = choice_node (ranked_lines problem.lines) empty_pack a.0 most refl
        (choices_to_ranked problem.lines a.0 most a.1) (omega arith) in
        let f3 = f.3 in (f.0, f.1, f.2, omega arith);
  }

-- both
pub best_iff_optimum : (problem : Problem) → IsProblem problem → (most : ℕ)
    → IsBest (packs_below problem) (worth_of value_of) empty_pack most
    ↔ IsOptimum problem.capacity problem.lines most
best_iff_optimum problem known most =
    (best_is_optimum problem known most, optimum_is_best problem known most)
