-- What the definitions come to.
use Rattle.std.proofs.Common.{◌≡◌, ℕ, zero, suc, ◌+◌, ◌<◌, ◌≤◌, ◌↔◌, List, [], ◌∷◌, ◌++◌, length}
use Rattle.std.proofs.Common.{get_or, inl, inr, refl, sym, ◌∙◌, ap, arith, add-one, Option, None}
use Rattle.std.proofs.Common.{Some, append-nil}
use Rattle.std.proofs.lemmas.Bool.{cases_lt, cases_eq}
use Rattle.std.proofs.lemmas.List.{get_or_past}
use Rattle.std.specs.List.{flat_map}
use Rattle.std.proofs.lemmas.Grind.{flat_map-append}
use Rattle.glb_laws.specs.Tree.{tree, forest, IsSmall, nodes}
use Rattle.glb_graph.specs.Rows.{targets_of, targets_from, graph_of, edges_of, IsGraph}
use Rattle.glb_graph.specs.Rows.{ArePairs}
use Rattle.glb_graph.specs.inner.Compressed.{earlier}
use Rattle.glb_graph.specs.Walks.{Walk, IsDistance}
use Rattle.glb_graph.specs.Distances.{distance}
use Rattle.glb_graph.specs.Spots.{spots, spot_children}
use Rattle.glb_graph.specs.declared.dist.Spot.TheVariants.{Root, Vertex}
use Rattle.glb_graph.proofs.PairFacts.{Pair, from_same, from_other, earlier-suc, earlier-zero}
use Rattle.glb_graph.proofs.PairFacts.{earlier-all, length-graph_of, targets_of-graph_of}
use Rattle.glb_graph.proofs.ValueFacts.{length-spots}
use Rattle.glb_graph.proofs.DistanceLaws.{distance_some, distance_none}

-- a further row adds its length
edges_of-append : (rows : List (List ℕ)) (row : List ℕ)
    → edges_of (rows ++ row ∷ []) ≡ edges_of rows + length row
unfolding edges_of
edges_of-append [] row = omega arith
edges_of-append (r ∷ rows) row = omega (arith, edges_of-append rows row)

-- the edges are the pairs that begin at a vertex
edges_of-graph_of : (n : ℕ) (ps : List Pair) → edges_of (graph_of n ps) ≡ earlier ps n
unfolding graph_of edges_of
edges_of-graph_of zero ps = sym (earlier-zero ps)
edges_of-graph_of (suc n) ps = edges_of-append (graph_of n ps) _
    ∙ omega (arith, edges_of-graph_of n ps, earlier-suc ps n, ap (earlier ps) (add-one n))

-- a graph has as many edges as it was made of pairs
pub graph_edges : (n : ℕ) (ps : List Pair) → ArePairs n ps → edges_of (graph_of n ps) ≡ length ps
graph_edges n ps a = edges_of-graph_of n ps ∙ earlier-all n ps n a (omega arith)

-- the targets of pairs of vertices are vertices
from_below : (n : ℕ) (ps : List Pair) (v : ℕ) → ArePairs n ps → (k : ℕ)
    → k < length (targets_from ps v)
    → get_or (targets_from ps v) k 0 < n
unfolding targets_from
from_below n [] v a k l = absurd (omega arith)
from_below n (p ∷ ps) v (x, y, a) k l = elim (cases_eq p.0 v) [
  | inl e ↦ let f = from_same p ps v e
      in omega (
        arith,
        first y (from_below n ps v a) k (omega (arith, ap length f)),
        ap (λ t. get_or t k 0) f,
      )
  | inr ne ↦ let f = from_other p ps v ne
      in omega (arith, from_below n ps v a k (omega (arith, ap length f)), ap (λ t. get_or t k 0) f)
]
  where
    first : p.1 < n
        → ((k : ℕ) → k < length (targets_from ps v) → get_or (targets_from ps v) k 0 < n)
        → (k : ℕ) → k < length (p.1 ∷ targets_from ps v) → get_or (p.1 ∷ targets_from ps v) k 0 < n
    first y rest zero l = y
    first y rest (suc k) l = rest k (omega arith)

-- pairs of vertices within the limits make a graph
pub graph_is : (n : ℕ) (ps : List Pair) → n ≤ 20000 → length ps ≤ 1000000 → ArePairs n ps
    → IsGraph (graph_of n ps)
graph_is n ps few few' a = record {
  few_vertices = omega (arith, length-graph_of n ps);
  few_edges = omega (arith, graph_edges n ps a);
  below = λ v k l. elim (cases_lt v n) [
    | inl h ↦ let e = targets_of-graph_of n ps v h
        in omega (
          arith,
          from_below n ps v a k (omega (arith, ap length e)),
          ap (λ t. get_or t k 0) e,
          length-graph_of n ps,
        )
    | inr h ↦ let none : length (targets_of (graph_of n ps) v) ≡ 0 =
        ap length (get_or_past (graph_of n ps) v [] (omega (arith, length-graph_of n ps)))
        in absurd (omega arith)
  ];
}

-- two distances are the same
same_distance : (rows : List (List ℕ)) (s t d d' : ℕ) → IsDistance rows s t d
    → IsDistance rows s t d'
    → d ≡ d'
same_distance rows s t d d' (w, least) (w', least') = omega (arith, least d' w', least' d w)

-- the function gives the least number of edges of a walk
pub distance_is : (rows : List (List ℕ)) (s t d : ℕ) → IsGraph rows → s < length rows
    → t < length rows
    → (distance rows s t ≡ Some d) ↔ IsDistance rows s t d
distance_is rows s t d G l l' =
    (distance_some rows s G l t d l', λ D. from D (distance rows s t) refl)
  where
    from : IsDistance rows s t d → (o : Option ℕ) → distance rows s t ≡ o
        → distance rows s t ≡ Some d
    from D None e = absurd (distance_none rows s G l t l' e d D.0)
    from D (Some c) e =
        e ∙ ap Some (same_distance rows s t c d (distance_some rows s G l t c l' e) D)

-- the function gives nothing exactly where there is no walk
pub distance_is_none : (rows : List (List ℕ)) (s t : ℕ) → IsGraph rows → s < length rows
    → t < length rows
    → (distance rows s t ≡ None) ↔ ((n : ℕ) → Walk rows s t n → ⊥)
distance_is_none rows s t G l l' =
    (distance_none rows s G l t l', λ none. from none (distance rows s t) refl)
  where
    from : ((n : ℕ) → Walk rows s t n → ⊥) → (o : Option ℕ) → distance rows s t ≡ o
        → distance rows s t ≡ None
    from none None e = e
    from none (Some c) e = absurd (none c (distance_some rows s G l t c l' e).0)

-- below the vertices there is nothing
leaves : (rows : List (List ℕ)) (depth n : ℕ)
    → flat_map (λ c. tree (spot_children rows) c (suc depth)) (spots n) ≡ spots n
unfolding spots tree
leaves rows depth zero = refl
leaves rows depth (suc n) =
    flat_map-append (λ c. tree (spot_children rows) c (suc depth)) (spots n) (Vertex n ∷ [])
    ∙ ap (λ xs. xs ++ Vertex n ∷ []) (leaves rows depth n)

-- the tree of the root, with one node allowed at least
nodes_are : (rows : List (List ℕ)) (most : ℕ)
    → nodes (spot_children rows) (Root ∷ []) (suc most) ≡ Root ∷ spots (length rows)
unfolding tree forest
nodes_are rows most = append-nil _ ∙ ap (λ xs. Root ∷ xs) (leaves rows most (length rows))

-- the nodes of the tree of the root are the root and the vertices
pub root_tree : (rows : List (List ℕ)) (most : ℕ) → length rows + 1 ≤ most
    → nodes (spot_children rows) (Root ∷ []) most ≡ Root ∷ spots (length rows)
root_tree rows zero l = absurd (omega arith)
root_tree rows (suc most) l = nodes_are rows most

-- the tree of the root has one node more than there are vertices
pub root_small : (rows : List (List ℕ)) (most : ℕ)
    → IsSmall (spot_children rows) (Root ∷ []) most ↔ (length rows + 1 ≤ most)
unfolding tree forest
root_small rows zero = ((λ l. absurd (omega arith)), λ l. absurd (omega arith))
root_small rows (suc most) =
    let n : length (nodes (spot_children rows) (Root ∷ []) (suc most)) ≡ length rows + 1 =
    ap length (nodes_are rows most) ∙ omega (arith, length-spots (length rows)) in
    ((λ l. omega (arith, n)), λ l. omega (arith, n))
