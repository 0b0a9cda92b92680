-- The answer of the tree of boards counts those that have n queens.
use Rattle.std.proofs.Common.{◌≡◌, ℕ, zero, suc, ◌+◌, ◌-◌, ◌^◌, ◌<◌, ◌≤◌, min, Bool, true, false, cond, ◌==◌, List, [], ◌∷◌, length, sym, ap, ◌∙◌, arith, lit<, zero-add}
use Rattle.std.proofs.Math.Nat.{suc-mul}
use Rattle.std.proofs.lemmas.List.Sums.{sum_by-cons, count_by-le-length}
use Rattle.glb_laws.specs.Bounded.{sat_sum, capped_sum}
use Rattle.glb_laws.specs.Expansion.{combined}
use Rattle.glb_queens.specs.Boards.{value_of, count_full, arrangements}

-- one step of the sum, cut once or twice
one_more : (b : Bool) (s k : ℕ)
    → min (min (s + cond b 1 0) (2 ^ 64 - 1) + k) (2 ^ 64 - 1)
    ≡ min (s + (cond b 1 0 + k)) (2 ^ 64 - 1)
one_more true s k = omega arith
one_more false s k = omega arith

-- the sum over boards, from any number
counted : (n : ℕ) (boards : List (List ℕ)) (s : ℕ) → s < 2 ^ 64
    → combined (value_of n) (λ a b. sat_sum (capped_sum a.0 b.0)) (sat_sum s) boards ≡ sat_sum
    (min (s + count_full n boards) (2 ^ 64 - 1))
counted n [] s fits = ap sat_sum (omega arith)
counted n (board ∷ boards) s fits =
    let one = λ (columns : List ℕ). cond (length columns == n) 1 0 in
    counted n boards (capped_sum s (one board)) (omega arith)
    ∙ ap sat_sum (one_more (length board == n) s (count_full n boards)
    ∙ ap (λ k. min (s + k) (2 ^ 64 - 1)) (sym (sum_by-cons one board boards)))

-- where the boards are few, no sum is cut
pub full_boards : (n : ℕ) (boards : List (List ℕ)) → length boards < 2 ^ 46
    → combined (value_of n) (λ a b. sat_sum (capped_sum a.0 b.0)) (sat_sum 0) boards ≡ sat_sum
    (count_full n boards)
full_boards n boards few =
    let least = count_by-le-length (λ columns. length columns == n) boards in
    let fits : count_full n boards < 2 ^ 64 = omega arith in
    counted n boards 0 (omega arith) ∙ ap sat_sum (omega arith)

-- at most 16 columns
more_columns : (n : ℕ) → arrangements n ≤ arrangements (suc n)
unfolding arrangements
more_columns n = omega (arith, suc-mul n (arrangements n))

-- with more columns there are more arrangements
up_to : (k n m : ℕ) → k + n ≡ m → arrangements n ≤ arrangements m
up_to zero n m e = omega (arith, ap arrangements (sym (zero-add n) ∙ e))
up_to (suc k) n m e = omega (arith, more_columns n, up_to k (suc n) m (omega arith))

-- the arrangements of 16 columns, computed
sixteen : arrangements 16 < 2 ^ 46
unfolding arrangements
sixteen = lit< tt

-- the arrangements of 16 columns or fewer
pub arrangements_lt : (n : ℕ) → n ≤ 16 → arrangements n < 2 ^ 46
arrangements_lt n h = omega (arith, sixteen, up_to (16 - n) n 16 (omega arith))
