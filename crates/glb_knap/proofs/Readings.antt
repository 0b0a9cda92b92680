-- What the reader keeps while it reads the lines.
use Rattle.std.proofs.Common.{◌≡◌, ℕ, zero, suc, ◌+◌, ◌-◌, ◌<◌, ◌≤◌, ◌⊎◌, List, [], ◌∷◌, ◌++◌}
use Rattle.std.proofs.Common.{length, inl, inr, refl, sym, ◌∙◌, ap, subst, arith, append-nil}
use Rattle.std.proofs.Common.{append_assoc}
use Rattle.glb_graph.specs.GraphText.{BadLine, TooLarge, BadEnd, lines_of, IsPair}
use Rattle.glb_knap.specs.KnapText.{Reading, Carries, Fault, IsLine, add_line, LinesSay, TextSays}
use Rattle.glb_knap.specs.KnapText.{BytesSay}
use Rattle.glb_knap.specs.Packs.{AreLines, IsProblem}

-- the lines before what the rest says
pub add_all : List (ℕ × ℕ) → Reading → Reading
add_all ps (Carries c qs) = Carries c (ps ++ qs)
add_all ps (Fault kind line) = Fault kind line

-- whatever the rest says, with the lines before it the whole says it
pub record IsSoFar (texts : List (List ℕ)) (capacity count number : ℕ) (lines : List (ℕ × ℕ))
    (rest : List (List ℕ)) : Type 0 where
  pub within : number ≤ count
  pub says : (left : ℕ) → left + number ≡ count → (r : Reading)
      → LinesSay capacity left (number + 2) rest r → TextSays texts (add_all lines r)

-- without a line the fault is in line 1
pub says_none : (texts : List (List ℕ)) → texts ≡ [] → TextSays texts (Fault BadEnd 1)
says_none texts e = subst (λ l. TextSays l (Fault BadEnd 1)) (sym e) refl

-- so it is where the first line is no pair
pub says_bad : (texts : List (List ℕ)) (text : List ℕ) (after : List (List ℕ))
    → texts ≡ text ∷ after
    → ((a b : ℕ) → IsPair text a b → ⊥) → TextSays texts (Fault BadLine 1)
says_bad texts text after e n = subst (λ l. TextSays l (Fault BadLine 1)) (sym e) (inl (n, refl))

-- and where a number is too large
pub says_large : (texts : List (List ℕ)) (text : List ℕ) (after : List (List ℕ)) (m c : ℕ)
    → texts ≡ text ∷ after → IsPair text m c → (64 < m) ⊎ (4294967295 < c)
    → TextSays texts (Fault TooLarge 1)
says_large texts text after m c e p l =
    subst (λ l. TextSays l (Fault TooLarge 1)) (sym e) (inr (m, c, p, inl (l, refl)))

-- after the first line none is read
pub so_begin : (texts : List (List ℕ)) (text : List ℕ) (after : List (List ℕ)) (m c : ℕ)
    → texts ≡ text ∷ after → IsPair text m c → m ≤ 64 → c ≤ 4294967295
    → IsSoFar texts c m 0 [] after
unfolding add_all
so_begin texts text after m c e p few few' =
    record {
      within = omega arith;
      says = λ left l r s.
          says_it r
          (let l' : left ≡ m = omega arith in subst (λ n. LinesSay c n 2 after r) l' s);
    }
  where
    says_it : (r : Reading) → LinesSay c m 2 after r → TextSays texts (add_all [] r)
    says_it (Carries d qs) s =
        subst (λ l. TextSays l (Carries d qs)) (sym e) (inr (m, c, p, inr (few, few', s)))
    says_it (Fault kind at) s =
        subst (λ l. TextSays l (Fault kind at)) (sym e) (inr (m, c, p, inr (few, few', s)))

-- a line before the others, or at the end of those before them
all_line : (ps : List (ℕ × ℕ)) (p : ℕ × ℕ) (r : Reading)
    → add_all ps (add_line p r) ≡ add_all (ps ++ p ∷ []) r
unfolding add_all
all_line ps p (Carries c qs) = ap (Carries c) (sym (append_assoc ps (p ∷ []) qs))
all_line ps p (Fault kind at) = refl

module _ (texts : List (List ℕ)) (c m n : ℕ) (ps : List (ℕ × ℕ)) (rest : List (List ℕ))
    (S : IsSoFar texts c m n ps rest) where
  -- one more line is read
  pub so_more : n < m → (text : List ℕ) (after : List (List ℕ)) (p : ℕ × ℕ) → rest ≡ text ∷ after
      → IsLine text p.0 p.1 → IsSoFar texts c m (n + 1) (ps ++ p ∷ []) after
  so_more l text after p e line = record {
    within = omega arith;
    says = λ left k r s.
        let s' : LinesSay c left (suc (n + 2)) after r =
        subst (λ x. LinesSay c left x after r) (omega arith) s in
        let t : LinesSay c (suc left) (n + 2) (text ∷ after) (add_line p r) =
        inr (p.0, p.1, r, line, s', refl) in
        subst (TextSays texts) (all_line ps p r)
        (S.says (suc left) (omega arith) (add_line p r)
        (subst (λ x. LinesSay c (suc left) (n + 2) x (add_line p r)) (sym e) t));
  }

  -- some lines are left
  at_left : n < m → (k : ℕ) × (suc k + n ≡ m)
  at_left l = (m - n - 1, omega arith)

  -- a line is missing
  pub so_missing : n < m → rest ≡ [] → TextSays texts (Fault BadEnd (n + 2))
  unfolding add_all
  so_missing l e = let k = at_left l
      in S.says (suc k.0) k.1 (Fault BadEnd (n + 2))
      (subst (λ x. LinesSay c (suc k.0) (n + 2) x (Fault BadEnd (n + 2))) (sym e) refl)

  -- a line is no line of a knapsack
  pub so_bad : n < m → (text : List ℕ) (after : List (List ℕ)) → rest ≡ text ∷ after
      → ((a b : ℕ) → IsLine text a b → ⊥) → TextSays texts (Fault BadLine (n + 2))
  unfolding add_all
  so_bad l text after e none = let k = at_left l
      in S.says (suc k.0) k.1 (Fault BadLine (n + 2))
      (subst (λ x. LinesSay c (suc k.0) (n + 2) x (Fault BadLine (n + 2))) (sym e)
      (inl (none, refl)))

  -- there is a line too many
  pub so_extra : m ≤ n → (text : List ℕ) (after : List (List ℕ)) → rest ≡ text ∷ after
      → TextSays texts (Fault BadEnd (m + 2))
  unfolding add_all
  so_extra l text after e = let w = S.within in let x : n + 2 ≡ m + 2 = omega arith in
      subst (λ x. TextSays texts (Fault BadEnd x)) x
      (S.says 0 (omega arith) (Fault BadEnd (n + 2))
      (subst (λ x. LinesSay c 0 (n + 2) x (Fault BadEnd (n + 2))) (sym e) refl))

  -- all lines are read and none is left
  pub so_done : m ≤ n → rest ≡ [] → TextSays texts (Carries c ps)
  unfolding add_all
  so_done l e = let w = S.within in
      subst (λ x. TextSays texts (Carries c x)) (append-nil ps)
      (S.says 0 (omega arith) (Carries c [])
      (subst (λ x. LinesSay c 0 (n + 2) x (Carries c [])) (sym e) refl))

-- the same with the lines as they were pushed
pub pushed_lines : (texts : List (List ℕ)) (c m n : ℕ) (ps qs : List (ℕ × ℕ)) (rest : List (List ℕ))
    → qs ≡ ps → IsSoFar texts c m n ps rest → IsSoFar texts c m n qs rest
pushed_lines texts c m n ps qs rest e s = subst (λ x. IsSoFar texts c m n x rest) (sym e) s

-- the lines that a text says
lines_within : (c left at : ℕ) (texts : List (List ℕ)) (r : Reading) (d : ℕ) (ps : List (ℕ × ℕ))
    → LinesSay c left at texts r → r ≡ Carries d ps
    → (d ≡ c) × (length ps ≡ left) × AreLines ps
lines_within c zero at [] r d ps s e =
    let x : Carries c [] ≡ Carries d ps = sym s ∙ e in
    let f : c ≡ d = cc in let g : [] ≡ ps =
    cc in (sym f, sym (ap length g), subst AreLines g tt)
lines_within c zero at (text ∷ texts) r d ps s e =
    let x : Fault BadEnd at ≡ Carries d ps = sym s ∙ e in absurd (cc)
lines_within c (suc left) at [] r d ps s e =
    let x : Fault BadEnd at ≡ Carries d ps = sym s ∙ e in absurd (cc)
lines_within c (suc left) at (text ∷ texts) r d ps (inl s) e =
    let x : Fault BadLine at ≡ Carries d ps = sym s.1 ∙ e in absurd (cc)
lines_within c (suc left) at (text ∷ texts) r d ps (inr (a, b, Carries u qs, line, s, is)) e =
    let x : Carries u ((a, b) ∷ qs) ≡ Carries d ps = sym is ∙ e in
    let f : u ≡ d = cc in let g : (a, b) ∷ qs ≡ ps = cc in
    let r = lines_within c left (suc at) texts (Carries u qs) u qs s refl in (
      sym f ∙ r.0,
      sym (ap length g) ∙ ap suc r.1,
      subst AreLines g (line.1, line.2, line.3, r.2),
    )
lines_within c (suc left) at (text ∷ texts) r d ps (inr (a, b, Fault kind l, line, s, is)) e =
    let x : Fault kind l ≡ Carries d ps = sym is ∙ e in absurd (cc)

-- knapsack text keeps the limits
pub says_problem : (bytes : List ℕ) (d : ℕ) (ps : List (ℕ × ℕ)) → BytesSay bytes (Carries d ps)
    → IsProblem (record { capacity = d; lines = ps })
says_problem bytes d ps s = on (lines_of bytes) s
  where
    on : (texts : List (List ℕ)) → TextSays texts (Carries d ps)
        → IsProblem (record { capacity = d; lines = ps })
    on [] s = absurd (cc)
    on (text ∷ texts) (inl s) = let x = s.1 in absurd (cc)
    on (text ∷ texts) (inr (m, c, p, inl s)) = let x = s.1 in absurd (cc)
    on (text ∷ texts) (inr (m, c, p, inr (few, few', s))) =
        let r = lines_within c m 2 texts (Carries d ps) d ps s refl in
        let r0 = r.0 in let r1 = r.1 in
        record { capacity = omega arith; few = omega arith; lines = r.2 }
