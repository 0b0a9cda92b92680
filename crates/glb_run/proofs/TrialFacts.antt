-- The words and the edges of a trial, one after the other.
use Rattle.std.proofs.Common.{◌≡◌, ℕ, suc, zero, ◌+◌, ◌*◌, ◌<◌, List, [], ◌∷◌, ◌++◌, ◌∙◌, refl, sym, ap}
use Rattle.std.proofs.Common.{arith, subst, length}
use Rattle.rand_pcg.specs.Lcg.{Lcg, next, next_state, state_after, advance, started, increment_of}
use Rattle.rand_pcg.specs.Pcg.{multiplier_64, output_xsh_rr}
use Rattle.std.proofs.lemmas.List.{length-append}
use Rattle.rand_pcg.proofs.LcgLemmas.{advance_zero}
use Rattle.glb_graph.specs.Rows.{ArePairs}
use Rattle.glb_rules.specs.Draws.{word}
use Rattle.glb_run.specs.Trials.{vertex_of, edge_of, first_edges}
use Rattle.glb_run.specs.inner.Draws.{HasDrawn}

-- one step more
state_more : (w m p n t : ℕ) → next_state w m p (state_after w m p n t)
    ≡ state_after w m p (suc n) t
unfolding state_after
state_more w m p zero t = refl
state_more w m p (suc n) t = state_more w m p n (next_state w m p t)

-- a new generator has drawn no word
pub drawn_none : (k : ℕ) → HasDrawn k 0 (started 64 multiplier_64 k (increment_of 64 1000))
drawn_none k = sym (advance_zero 64 multiplier_64 _)

-- the next word is that of its number
pub drawn_word : (k n : ℕ) (g : Lcg) → HasDrawn k n g → output_xsh_rr g.state ≡ word k 1000 n
unfolding word
drawn_word k n g e = ap (λ (x : Lcg). output_xsh_rr x.state) e

-- one word more was drawn
pub drawn_more : (k n : ℕ) (g : Lcg) → HasDrawn k n g → HasDrawn k (n + 1) (next 64 multiplier_64 g)
drawn_more k n g e =
    let s = started 64 multiplier_64 k (increment_of 64 1000) in
    let one : suc n ≡ n + 1 = omega arith in
    ap (next 64 multiplier_64) e
    ∙ ap (λ t. record s { state = t }) (state_more 64 multiplier_64 s.increment n s.state)
    ∙ ap (λ j. advance 64 multiplier_64 j s) one

-- two words make the edge of a number
pub drawn_edge : (k n : ℕ) (g h i : Lcg) (from to : ℕ) → h ≡ next 64 multiplier_64 g
    → i ≡ next 64 multiplier_64 h → from ≡ vertex_of (output_xsh_rr g.state)
    → to ≡ vertex_of (output_xsh_rr h.state) → HasDrawn k (n * 2) g
    → ((from, to) ≡ edge_of k n) × HasDrawn k ((n + 1) * 2) i
drawn_edge k n g h i from to step step' a b e =
    let second : HasDrawn k (n * 2 + 1) h =
    subst (HasDrawn k (n * 2 + 1)) (sym step) (drawn_more k (n * 2) g e) in
    let two : n * 2 + 1 + 1 ≡ (n + 1) * 2 = omega arith in
    let f : from ≡ vertex_of (word k 1000 (n * 2)) = a ∙ ap vertex_of (drawn_word k (n * 2) g e) in
    let t : to ≡ vertex_of (word k 1000 (n * 2 + 1)) =
    b ∙ ap vertex_of (drawn_word k (n * 2 + 1) h second) in
    let third : HasDrawn k (n * 2 + 1 + 1) i =
    subst (HasDrawn k (n * 2 + 1 + 1)) (sym step') (drawn_more k (n * 2 + 1) h second) in (
      ap (λ x. (x, to)) f ∙ ap (λ y. (vertex_of (word k 1000 (n * 2)), y)) t,
      subst (λ j. HasDrawn k j i) two third,
    )

-- no edge, and one edge more
pub edges_none : (k : ℕ) → first_edges k 0 ≡ []
unfolding first_edges
edges_none k = refl

edges_suc : (k n : ℕ) → first_edges k (suc n) ≡ first_edges k n ++ edge_of k n ∷ []
unfolding first_edges
edges_suc k n = refl

pub edges_more : (k n : ℕ) → first_edges k (n + 1) ≡ first_edges k n ++ edge_of k n ∷ []
edges_more k n =
    let one : n + 1 ≡ suc n = omega arith in
    ap (first_edges k) one ∙ edges_suc k n

-- one pair more
pub pairs_more : (v : ℕ) (ps : List (ℕ × ℕ)) (p : ℕ × ℕ) → ArePairs v ps → p.0 < v → p.1 < v
    → ArePairs v (ps ++ p ∷ [])
pairs_more v [] p are a b = (a, b, tt)
pairs_more v (q ∷ ps) p are a b = (are.0, are.1, pairs_more v ps p are.2 a b)

-- so many edges were drawn
pub record HasEdges (k n : ℕ) (words : Lcg) (pairs : List (ℕ × ℕ)) : Type 0 where
  pub drawn : HasDrawn k (n * 2) words
  pub edges : pairs ≡ first_edges k n
  pub many : length pairs ≡ n
  pub ends : ArePairs 1000 pairs

-- none, before the first
pub has_none : (k : ℕ) (words : Lcg) (pairs : List (ℕ × ℕ))
    → words ≡ started 64 multiplier_64 k (increment_of 64 1000) → pairs ≡ []
    → HasEdges k 0 words pairs
has_none k words pairs new none = record {
  drawn = subst (HasDrawn k 0) (sym new) (drawn_none k);
  edges = none ∙ sym (edges_none k);
  many = ap length none;
  ends = subst (ArePairs 1000) (sym none) tt;
}

-- one more
pub has_more : (k n : ℕ) (words words' : Lcg) (pairs pairs' : List (ℕ × ℕ)) (edge : ℕ × ℕ)
    → HasEdges k n words pairs
    → ((j m : ℕ) → HasDrawn j (m * 2) words
    → (edge ≡ edge_of j m) × HasDrawn j ((m + 1) * 2) words')
    → edge.0 < 1000 → edge.1 < 1000 → pairs' ≡ pairs ++ edge ∷ []
    → HasEdges k (n + 1) words' pairs'
has_more k n words words' pairs pairs' edge has drawn from to pushed =
    let e = drawn k n has.drawn in
    record {
      drawn = e.1;
      edges = pushed ∙ ap (λ ps. ps ++ edge ∷ []) has.edges
          ∙ ap (λ (x : ℕ × ℕ). first_edges k n ++ x ∷ []) e.0 ∙ sym (edges_more k n);
      many = ap length pushed ∙ length-append pairs (edge ∷ []) ∙ ap (λ m. m + 1) has.many;
      ends = subst (ArePairs 1000) (sym pushed) (pairs_more 1000 pairs edge has.ends from to);
    }
