-- What the reader keeps while it reads the edges.
use Rattle.std.proofs.Common.{◌≡◌, ℕ, zero, suc, ◌+◌, ◌-◌, ◌<◌, ◌≤◌, ◌⊎◌, List, [], ◌∷◌, ◌++◌}
use Rattle.std.proofs.Common.{length, inl, inr, refl, sym, ◌∙◌, ap, subst, arith, append-nil}
use Rattle.std.proofs.Common.{append_assoc}
use Rattle.glb_graph.specs.Rows.{graph_of}
use Rattle.glb_graph.specs.Rows.{ArePairs}
use Rattle.glb_graph.proofs.PairFacts.{length-graph_of}
use Rattle.glb_graph.specs.GraphText.{BadLine, TooLarge, BadEnd, Reading, Edges, Fault, lines_of}
use Rattle.glb_graph.specs.GraphText.{IsPair, IsEdge, with_edge, EdgeLinesSay, LinesSay, BytesSay}
use Rattle.glb_graph.specs.Reading.{IsTextOf}

-- the edges before what the rest says
pub with_all : List (ℕ × ℕ) → Reading → Reading
with_all ps (Edges v qs) = Edges v (ps ++ qs)
with_all ps (Fault kind line) = Fault kind line

-- whatever the rest says, with the edges before it the whole says it
pub record IsSoFar (lines : List (List ℕ)) (vertices edges number : ℕ) (pairs : List (ℕ × ℕ))
    (rest : List (List ℕ)) : Type 0 where
  pub within : number ≤ edges
  pub says : (left : ℕ) → left + number ≡ edges → (r : Reading)
      → EdgeLinesSay vertices left (number + 2) rest r → LinesSay lines (with_all pairs r)

-- without a line the fault is in line 1
pub says_none : (lines : List (List ℕ)) → lines ≡ [] → LinesSay lines (Fault BadEnd 1)
says_none lines e = subst (λ l. LinesSay l (Fault BadEnd 1)) (sym e) refl

-- so it is where the first line is no pair
pub says_bad : (lines : List (List ℕ)) (line : List ℕ) (after : List (List ℕ))
    → lines ≡ line ∷ after
    → ((a b : ℕ) → IsPair line a b → ⊥) → LinesSay lines (Fault BadLine 1)
says_bad lines line after e n = subst (λ l. LinesSay l (Fault BadLine 1)) (sym e) (inl (n, refl))

-- and where a number is too large
pub says_large : (lines : List (List ℕ)) (line : List ℕ) (after : List (List ℕ)) (v m : ℕ)
    → lines ≡ line ∷ after → IsPair line v m → (20000 < v) ⊎ (1000000 < m)
    → LinesSay lines (Fault TooLarge 1)
says_large lines line after v m e p l =
    subst (λ l. LinesSay l (Fault TooLarge 1)) (sym e) (inr (v, m, p, inl (l, refl)))

-- after the first line no edge is read
pub so_begin : (lines : List (List ℕ)) (line : List ℕ) (after : List (List ℕ)) (v m : ℕ)
    → lines ≡ line ∷ after → IsPair line v m → v ≤ 20000 → m ≤ 1000000
    → IsSoFar lines v m 0 [] after
unfolding with_all
so_begin lines line after v m e p few few' =
    record {
      within = omega arith;
      says = λ left l r s.
          says_it r
          (let l' : left ≡ m = omega arith in subst (λ n. EdgeLinesSay v n 2 after r) l' s);
    }
  where
    says_it : (r : Reading) → EdgeLinesSay v m 2 after r → LinesSay lines (with_all [] r)
    says_it (Edges w qs) s =
        subst (λ l. LinesSay l (Edges w qs)) (sym e) (inr (v, m, p, inr (few, few', s)))
    says_it (Fault kind at) s =
        subst (λ l. LinesSay l (Fault kind at)) (sym e) (inr (v, m, p, inr (few, few', s)))

-- an edge before the others, or at the end of those before them
all_edge : (ps : List (ℕ × ℕ)) (p : ℕ × ℕ) (r : Reading)
    → with_all ps (with_edge p r) ≡ with_all (ps ++ p ∷ []) r
unfolding with_all
all_edge ps p (Edges v qs) = ap (Edges v) (sym (append_assoc ps (p ∷ []) qs))
all_edge ps p (Fault kind at) = refl

module _ (lines : List (List ℕ)) (v m n : ℕ) (ps : List (ℕ × ℕ)) (rest : List (List ℕ))
    (S : IsSoFar lines v m n ps rest) where
  -- one more edge is read
  pub so_more : n < m → (line : List ℕ) (after : List (List ℕ)) (p : ℕ × ℕ) → rest ≡ line ∷ after
      → IsEdge v line p.0 p.1 → IsSoFar lines v m (n + 1) (ps ++ p ∷ []) after
  so_more l line after p e edge = record {
    within = omega arith;
    says = λ left k r s.
        let s' : EdgeLinesSay v left (suc (n + 2)) after r =
        subst (λ x. EdgeLinesSay v left x after r) (omega arith) s in
        let t : EdgeLinesSay v (suc left) (n + 2) (line ∷ after) (with_edge p r) =
        inr (p.0, p.1, r, edge, s', refl) in
        subst (LinesSay lines) (all_edge ps p r)
        (S.says (suc left) (omega arith) (with_edge p r)
        (subst (λ x. EdgeLinesSay v (suc left) (n + 2) x (with_edge p r)) (sym e) t));
  }

  -- some edges are left
  at_left : n < m → (k : ℕ) × (suc k + n ≡ m)
  at_left l = (m - n - 1, omega arith)

  -- a line is missing
  pub so_missing : n < m → rest ≡ [] → LinesSay lines (Fault BadEnd (n + 2))
  unfolding with_all
  so_missing l e = let k = at_left l
      in S.says (suc k.0) k.1 (Fault BadEnd (n + 2))
      (subst (λ x. EdgeLinesSay v (suc k.0) (n + 2) x (Fault BadEnd (n + 2))) (sym e) refl)

  -- a line is no edge
  pub so_bad : n < m → (line : List ℕ) (after : List (List ℕ)) → rest ≡ line ∷ after
      → ((a b : ℕ) → IsEdge v line a b → ⊥) → LinesSay lines (Fault BadLine (n + 2))
  unfolding with_all
  so_bad l line after e none = let k = at_left l
      in S.says (suc k.0) k.1 (Fault BadLine (n + 2))
      (subst (λ x. EdgeLinesSay v (suc k.0) (n + 2) x (Fault BadLine (n + 2))) (sym e)
      (inl (none, refl)))

  -- there is a line too many
  pub so_extra : m ≤ n → (line : List ℕ) (after : List (List ℕ)) → rest ≡ line ∷ after
      → LinesSay lines (Fault BadEnd (m + 2))
  unfolding with_all
  so_extra l line after e = let w = S.within in let x : n + 2 ≡ m + 2 = omega arith in
      subst (λ x. LinesSay lines (Fault BadEnd x)) x
      (S.says 0 (omega arith) (Fault BadEnd (n + 2))
      (subst (λ x. EdgeLinesSay v 0 (n + 2) x (Fault BadEnd (n + 2))) (sym e) refl))

  -- all edges are read and no line is left
  pub so_done : m ≤ n → rest ≡ [] → LinesSay lines (Edges v ps)
  unfolding with_all
  so_done l e = let w = S.within in
      subst (λ x. LinesSay lines (Edges v x)) (append-nil ps)
      (S.says 0 (omega arith) (Edges v [])
      (subst (λ x. EdgeLinesSay v 0 (n + 2) x (Edges v [])) (sym e) refl))

-- the same with the pairs as they were pushed
pub pushed_pairs : (lines : List (List ℕ)) (v m n : ℕ) (ps qs : List (ℕ × ℕ)) (rest : List (List ℕ))
    → qs ≡ ps → IsSoFar lines v m n ps rest → IsSoFar lines v m n qs rest
pushed_pairs lines v m n ps qs rest e s = subst (λ x. IsSoFar lines v m n x rest) (sym e) s

-- the pairs that edges say
edges_within : (v left at : ℕ) (lines : List (List ℕ)) (r : Reading) (w : ℕ) (ps : List (ℕ × ℕ))
    → EdgeLinesSay v left at lines r → r ≡ Edges w ps → (w ≡ v) × (length ps ≡ left) × ArePairs v ps
edges_within v zero at [] r w ps s e =
    let x : Edges v [] ≡ Edges w ps = sym s ∙ e in
    let f : v ≡ w = cc in let g : [] ≡ ps =
    cc in (sym f, sym (ap length g), subst (ArePairs v) g tt)
edges_within v zero at (line ∷ lines) r w ps s e = let x : Fault BadEnd at ≡ Edges w ps = sym s ∙ e
    in absurd (cc)
edges_within v (suc left) at [] r w ps s e = let x : Fault BadEnd at ≡ Edges w ps =
    sym s ∙ e in absurd (cc)
edges_within v (suc left) at (line ∷ lines) r w ps (inl s) e =
    let x : Fault BadLine at ≡ Edges w ps = sym s.1 ∙ e in absurd (cc)
edges_within v (suc left) at (line ∷ lines) r w ps (inr (a, b, Edges u qs, edge, s, is)) e =
    let x : Edges u ((a, b) ∷ qs) ≡ Edges w ps = sym is ∙ e in
    let f : u ≡ w = cc in let g : (a, b) ∷ qs ≡ ps = cc in
    let r = edges_within v left (suc at) lines (Edges u qs) u qs s refl in
    (sym f ∙ r.0, sym (ap length g) ∙ ap suc r.1, subst (ArePairs v) g (edge.1, edge.2, r.2))
edges_within v (suc left) at (line ∷ lines) r w ps (inr (a, b, Fault kind l, edge, s, is)) e =
    let x : Fault kind l ≡ Edges w ps = sym is ∙ e in absurd (cc)

-- graph text keeps the limits, and its pairs are pairs of vertices
pub says_limits : (bytes : List ℕ) (w : ℕ) (ps : List (ℕ × ℕ)) → BytesSay bytes (Edges w ps)
    → (w ≤ 20000)
    × (length ps ≤ 1000000) × ArePairs w ps
says_limits bytes w ps s = on (lines_of bytes) s
  where
    on : (lines : List (List ℕ)) → LinesSay lines (Edges w ps) → (w ≤ 20000) × (length ps ≤ 1000000)
        × ArePairs w ps
    on [] s = absurd (cc)
    on (line ∷ lines) (inl s) = let x = s.1 in absurd (cc)
    on (line ∷ lines) (inr (v, m, p, inl s)) = let x = s.1 in absurd (cc)
    on (line ∷ lines) (inr (v, m, p, inr (few, few', s))) =
        let r = edges_within v m 2 lines (Edges w ps) w ps s refl in
        let r0 = r.0 in let r1 =
        r.1 in (omega arith, omega arith, subst (λ n. ArePairs n ps) (sym r.0) r.2)

-- a graph made of the pairs that the bytes say is the one that they say
pub says_graph : (bytes : List ℕ) (w : ℕ) (ps : List (ℕ × ℕ)) (rows : List (List ℕ))
    → BytesSay bytes (Edges w ps) → rows ≡ graph_of w ps → IsTextOf bytes rows
says_graph bytes w ps rows s e =
    let n : w ≡ length rows = sym (ap length e ∙ length-graph_of w ps) in
    record {
      pairs = ps;
      says = subst (λ n. BytesSay bytes (Edges n ps)) n s;
      graph_is = e
          ∙ ap (λ n. graph_of n ps) n;
    }
