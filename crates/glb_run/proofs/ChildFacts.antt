-- The roots of the jobs have few children.
use Rattle.std.proofs.Common.{◌≡◌, ℕ, zero, suc, ◌≤◌, Bool, true, false, cond, List, [], ◌∷◌}
use Rattle.std.proofs.Common.{◌++◌, length, map, refl, arith}
use Rattle.std.specs.Prelude.{nat_lt}
use Rattle.std.specs.List.{filter, range_with_len}
use Rattle.std.proofs.lemmas.Bool.{cond_both}
use Rattle.std.proofs.lemmas.List.{length-append, length-map}
use Rattle.std.proofs.lemmas.List.FromFn.{length-range_with_len, length-map-range_with_len}
use Rattle.std.proofs.lemmas.List.Sums.{length-filter, count_by-le-length}
use Rattle.glb_queens.specs.Boards.{boards_below, is_free}
use Rattle.glb_uts.specs.Binomial.{children, child, fan}
use Rattle.glb_uts.specs.declared.uts.Uts.{Uts}
use Rattle.glb_uts.specs.declared.node.Node.{Node}
use Rattle.glb_graph.specs.Spots.{spots, spot_children}
use Rattle.glb_graph.specs.declared.dist.Spot.TheVariants.{Root, Vertex}

-- a board has at most a child for each column
pub few_boards : (n : ℕ) (columns : List ℕ) → n ≤ 16 → length (boards_below n columns) ≤ 100000
unfolding boards_below
few_boards n columns few =
    let free : List ℕ = filter (is_free columns) (range_with_len 0 n) in
    let boards : List (List ℕ) = map (λ column. columns ++ column ∷ []) free in
    let most : length boards ≤ 100000 =
    omega (
      arith,
      length-map free (λ column. columns ++ column ∷ []),
      length-filter (is_free columns) (range_with_len 0 n),
      count_by-le-length (is_free columns) (range_with_len 0 n),
      length-range_with_len 0 n,
      few,
    )
    in
    cond_both (nat_lt (length columns) n) boards [] (λ l. length l ≤ 100000) (λ _. most)
    (λ _. omega arith)

-- the root of a binomial tree has at most so many as it is said to have
root_fan : (deep root : Bool) (b0 other : ℕ) → root ≡ true → cond deep 0 (cond root b0 other) ≤ b0
root_fan true root b0 other e = omega arith
root_fan false true b0 other e = omega arith
root_fan false false b0 other e = absurd (cc e)

pub few_nodes : (tree : Uts) (node : Node) → node.root ≡ true → tree.b0 ≤ 100000
    → length (children tree node) ≤ 100000
unfolding children
few_nodes tree node root few =
    let fan_few : fan tree node ≤ tree.b0 = root_fan _ node.root tree.b0 _ root in
    omega (arith, length-map-range_with_len (child node) 0 (fan tree node), fan_few, few)

-- below the root of a graph stands each vertex once
many_spots : (n : ℕ) → length (spots n) ≡ n
unfolding spots
many_spots zero = refl
many_spots (suc n) = omega (arith, length-append (spots n) (Vertex n ∷ []), many_spots n)

pub few_spots : (rows : List (List ℕ)) → length rows ≤ 20000
    → length (spot_children rows Root) ≤ 100000
few_spots rows few = omega (arith, many_spots (length rows), few)
